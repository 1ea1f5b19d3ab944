-- Call 18 writes nothing and reads down.
use mathlib.Core.Bool.{Bool}
use mathlib.Core.List.{List}
use Prim.Native.Nat.{ℕ}
use Rattle.rules.specs.Layout.{process, cell_of, Addr}
use Rattle.rules.specs.Call18.{access_of}
use Rattle.secrecy.proofs.Shown.{up-rules, alike-rules, WritesUp, Alike}
use Rattle.secrecy.proofs.View

pub up18 : {h : List ℕ} {p : ℕ} {r : Addr → ℕ} → View.Here h p r → (a : ℕ) (buffer : List ℕ) → WritesUp h (cell_of h process p) (access_of h r p a buffer)
unfolding access_of
up18 v a buffer = search up-rules depth 12

pub alike18 : {h : List ℕ} {p : ℕ} {C : ℕ → Bool} {r q : Addr → ℕ} → View.View h p C r q → (a : ℕ) (buffer : List ℕ)
    → Alike h C (access_of h r p a buffer) (access_of h q p a buffer)
unfolding access_of
alike18 v a buffer = search (
  alike-rules,
  View.same-held v,
  View.same-used v,
  View.same-stale v,
  View.same-rights v,
  View.held_in v.here,
  View.held-flows v.here,
) depth 12
