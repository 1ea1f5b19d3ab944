-- The theorem: a call on a well-formed table and store leaves them well formed, whatever its caller, code, arguments and buffer; so does every run of calls.
-- The configuration stays, no slot's serial falls, and no call of a run is answered with the number of a bad table.
use mathlib.Core.Path.{◌≡◌, refl, ◌∙◌}
use mathlib.Core.List.{List, [], ◌∷◌}
use Prim.Native.Nat.{ℕ, ◌≤◌, ◌<◌}
use native.Mathlib.Omega.{arith}
use lib.ListN.{length}
use Rattle.rules.specs.Claim.{Holds}
use Rattle.rules.specs.Layout.{Kind, slots, configuration, at, rd, serial}
use Rattle.rules.specs.WellFormed.{well_formed}
use Rattle.rules.specs.Errors.{XbTab}
use Rattle.rules.specs.Step.{State, Call, step, next, run}
use Rattle.kept.proofs.Stepped.{after, not-refused}

abbrev pub Well : State → Type 0
Well s = Holds (well_formed s.table (length s.store))

-- ---- one call

module _ (s : State) (k : Call) where
  pub kept : Well s → Well (step s k).state
  kept w = (after s w k).well

  pub conf-kept : Well s → configuration (step s k).state.table ≡ configuration s.table
  conf-kept w = (after s w k).same-configuration

  pub serials-kept : Well s → (j : Kind) (i : ℕ) → i < slots (configuration s.table) j
      → rd (configuration s.table) s.table (at j i serial) ≤ rd (configuration s.table) (step s k).state.table (at j i serial)
  serials-kept w = (after s w k).serials

  pub table-good : Well s → (step s k).answered.error ≡ XbTab → ⊥
  table-good w = not-refused s w k

-- ---- a run of calls

pub run-kept : (s : State) (ks : List Call) → Well s → Well (run s ks)
unfolding run
run-kept s [] w = w
run-kept s (k ∷ ks) w = run-kept (next s k) ks (kept s k w)

pub run-conf-kept : (s : State) (ks : List Call) → Well s → configuration (run s ks).table ≡ configuration s.table
unfolding run
run-conf-kept s [] w = refl
run-conf-kept s (k ∷ ks) w = run-conf-kept (next s k) ks (kept s k w) ∙ conf-kept s k w

pub run-serials-kept : (s : State) (ks : List Call) → Well s → (j : Kind) (i : ℕ) → i < slots (configuration s.table) j
    → rd (configuration s.table) s.table (at j i serial) ≤ rd (configuration s.table) (run s ks).table (at j i serial)
unfolding run
run-serials-kept s [] w j i l = omega arith
run-serials-kept s (k ∷ ks) w j i l =
    let c = conf-kept s k w in
    let rest = run-serials-kept (next s k) ks (kept s k w) j i (rw c l) in
    omega (arith, serials-kept s k w j i l, rw c at rest)

pub run-table-good : (s : State) (ks : List Call) (k : Call) → Well s → (step (run s ks) k).answered.error ≡ XbTab → ⊥
run-table-good s ks k w = table-good (run s ks) k (run-kept s ks w)
