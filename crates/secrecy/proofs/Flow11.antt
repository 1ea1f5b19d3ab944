-- Call 11 writes in its own cell and reads in its own cell.
use mathlib.Core.Bool.{Bool}
use mathlib.Core.List.{List}
use Prim.Native.Nat.{ℕ}
use Rattle.rules.specs.Layout.{process, cell_of, Addr}
use Rattle.rules.specs.Call11.{unlinked, unlink}
use Rattle.secrecy.proofs.Shown.{up-rules, alike-rules, WritesUp, Alike}
use Rattle.secrecy.proofs.View
use Rattle.secrecy.proofs.Give.{up-freed}

pub up11 : {h : List ℕ} {p : ℕ} {r : Addr → ℕ} → View.Here h p r → (a : ℕ) (buffer : List ℕ) → WritesUp h (cell_of h process p) (unlink h r p a buffer)
unfolding unlink unlinked
up11 v a buffer = search (up-rules, View.up-own v, up-freed v, View.formed-in, View.same-cell) depth 12

pub alike11 : {h : List ℕ} {p : ℕ} {C : ℕ → Bool} {r q : Addr → ℕ} → View.View h p C r q → (a : ℕ) (buffer : List ℕ)
    → Alike h C (unlink h r p a buffer) (unlink h q p a buffer)
unfolding unlink unlinked
alike11 v a buffer =
    search (alike-rules, View.same_self v, View.same-me v, View.same-below v, View.same-present v, View.formed-in, View.own-flows v.here, View.same-cell) depth 12
