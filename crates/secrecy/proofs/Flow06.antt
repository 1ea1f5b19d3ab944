-- Call 6 writes in its own record and reads down.
use mathlib.Core.Bool.{Bool}
use mathlib.Core.List.{List}
use Prim.Native.Nat.{ℕ}
use Rattle.rules.specs.Layout.{process, cell_of, Addr}
use Rattle.rules.specs.Call06.{set_access}
use Rattle.secrecy.proofs.Shown.{up-rules, alike-rules, WritesUp, Alike}
use Rattle.secrecy.proofs.View

pub up06 : {h : List ℕ} {p : ℕ} {r : Addr → ℕ} → View.Here h p r → (a b : ℕ) (buffer : List ℕ) → WritesUp h (cell_of h process p) (set_access h r p a b buffer)
unfolding set_access
up06 v a b buffer = search (up-rules, View.up-used v) depth 12

pub alike06 : {h : List ℕ} {p : ℕ} {C : ℕ → Bool} {r q : Addr → ℕ} → View.View h p C r q → (a b : ℕ) (buffer : List ℕ)
    → Alike h C (set_access h r p a b buffer) (set_access h q p a b buffer)
unfolding set_access
alike06 v a b buffer =
    search (alike-rules, View.same-held v, View.same-stale v, View.same-rights v, View.held_in v.here, View.held-flows v.here) depth 12
