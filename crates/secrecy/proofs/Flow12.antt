-- Call 12 writes in its own cell and reads in its own cell.
use mathlib.Core.Bool.{Bool}
use mathlib.Core.List.{List}
use Prim.Native.Nat.{ℕ}
use Rattle.rules.specs.Layout.{process, cell_of, Addr}
use Rattle.rules.specs.Call12.{set_bits}
use Rattle.secrecy.proofs.Shown.{up-rules, alike-rules, WritesUp, Alike}
use Rattle.secrecy.proofs.View

pub up12 : {h : List ℕ} {p : ℕ} {r : Addr → ℕ} → View.Here h p r → (a b : ℕ) (buffer : List ℕ) → WritesUp h (cell_of h process p) (set_bits h r p a b buffer)
unfolding set_bits
up12 v a b buffer = search (up-rules, View.up-own v, View.formed-in, View.same-cell) depth 12

pub alike12 : {h : List ℕ} {p : ℕ} {C : ℕ → Bool} {r q : Addr → ℕ} → View.View h p C r q → (a b : ℕ) (buffer : List ℕ)
    → Alike h C (set_bits h r p a b buffer) (set_bits h q p a b buffer)
unfolding set_bits
alike12 v a b buffer =
    search (alike-rules, View.same_self v, View.same-me v, View.same-below v, View.same-present v, View.formed-in, View.own-flows v.here, View.same-cell) depth 12
