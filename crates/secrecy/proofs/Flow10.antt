-- Call 10 writes in its own cell and reads in its own cell.
use mathlib.Core.Bool.{Bool}
use mathlib.Core.List.{List}
use Prim.Native.Nat.{ℕ}
use Rattle.rules.specs.Layout.{process, cell_of, Addr}
use Rattle.rules.specs.Call10.{link}
use Rattle.secrecy.proofs.Shown.{up-rules, alike-rules, WritesUp, Alike}
use Rattle.secrecy.proofs.View

pub up10 : {h : List ℕ} {p : ℕ} {r : Addr → ℕ} → View.Here h p r → (a : ℕ) (buffer : List ℕ) → WritesUp h (cell_of h process p) (link h r p a buffer)
unfolding link
up10 v a buffer = search (up-rules, View.up-own v, View.formed-in, View.same-cell) depth 12

pub alike10 : {h : List ℕ} {p : ℕ} {C : ℕ → Bool} {r q : Addr → ℕ} → View.View h p C r q → (a : ℕ) (buffer : List ℕ)
    → Alike h C (link h r p a buffer) (link h q p a buffer)
unfolding link
alike10 v a buffer =
    search (alike-rules, View.same_self v, View.same-me v, View.same-below v, View.same-present v, View.formed-in, View.own-flows v.here, View.same-cell) depth 12
