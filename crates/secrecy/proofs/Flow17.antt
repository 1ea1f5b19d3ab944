-- Call 17 writes nothing and reads down.
use mathlib.Core.Bool.{Bool}
use mathlib.Core.List.{List}
use Prim.Native.Nat.{ℕ}
use Rattle.rules.specs.Layout.{process, cell_of, Addr}
use Rattle.rules.specs.Call17.{told, status}
use Rattle.laws.proofs.Tests.{passed}
use Rattle.secrecy.proofs.Shown.{up-rules, alike-rules, WritesUp, Alike}
use Rattle.secrecy.proofs.View

pub up17 : {h : List ℕ} {p : ℕ} {r : Addr → ℕ} → View.Here h p r → (a : ℕ) (buffer : List ℕ) → WritesUp h (cell_of h process p) (status h r p a buffer)
unfolding status
up17 v a buffer = search up-rules depth 12

pub alike17 : {h : List ℕ} {p : ℕ} {C : ℕ → Bool} {r q : Addr → ℕ} → View.View h p C r q → (a : ℕ) (buffer : List ℕ)
    → Alike h C (status h r p a buffer) (status h q p a buffer)
unfolding status told
alike17 v a buffer =
    search (alike-rules, View.same_self v, View.same-below v, View.same-present v, View.formed-in, passed) depth 12
