-- Demand 3 from set-up on: what a set of cells sees of a run hangs on the configuration and on the stretches of its files, and not on what stood in the table.
use mathlib.Core.Path.{◌≡◌, sym, ap, ◌∙◌}
use mathlib.Core.Bool.{Bool}
use mathlib.Core.List.{List}
use Prim.Native.Nat.{ℕ}
use lib.ListN.{length}
use Rattle.rules.specs.Claim.{Holds}
use Rattle.rules.specs.Layout.{configuration}
use Rattle.rules.specs.SetUp.{can_set_up, fresh_table, set_up_table}
use Rattle.rules.specs.Step.{State, Call, run}
use Rattle.rules.specs.Observer.{Closed, Agree, replies}
use Rattle.rules.specs.Regrade.{events, without_refused, AsksNone}
use Rattle.promises.proofs.Fresh.{set-up-table, set-up-formed}
use Rattle.secrecy.proofs.View.{Stretches}
use Rattle.secrecy.proofs.Demand3.{two_runs}

-- words t and a store as set-up leaves them
abbrev pub set_up : List ℕ → List ℕ → State
set_up t store = record { table = set_up_table t (length store); store = store }

same-table : (t u a b : List ℕ) → Holds (can_set_up t (length a)) → Holds (can_set_up u (length b)) → configuration t ≡ configuration u
    → set_up_table t (length a) ≡ set_up_table u (length b)
same-table t u a b x y e = set-up-table t (length a) x ∙ ap fresh_table e ∙ sym (set-up-table u (length b) y)

same-set-up : (C : ℕ → Bool) (t u a b : List ℕ) → Holds (can_set_up t (length a)) → Holds (can_set_up u (length b)) → configuration t ≡ configuration u
    → Stretches (configuration (set_up t a).table) C a b → Agree C (set_up t a) (set_up u b)
same-set-up C t u a b x y e s =
    let same = same-table t u a b x y e in
    record { configurations = ap configuration same; records = λ q v i. rw same; stretches = s }

pub from-set-up : (C : ℕ → Bool) (t u a b : List ℕ) → Holds (can_set_up t (length a)) → Holds (can_set_up u (length b)) → configuration t ≡ configuration u
    → let h : List ℕ = configuration (set_up t a).table in Closed h C → Stretches h C a b → (ks js : List Call)
    → without_refused (events h C (set_up t a) ks) ≡ without_refused (events h C (set_up u b) js) → AsksNone h C (set_up t a) ks
    → (replies h C (set_up t a) ks ≡ replies h C (set_up u b) js) × Agree C (run (set_up t a) ks) (run (set_up u b) js)
from-set-up C t u a b x y e cl s =
    two_runs C (set_up t a) (set_up u b) (set-up-formed t (length a) x) (set-up-formed u (length b) y) cl (same-set-up C t u a b x y e s)
