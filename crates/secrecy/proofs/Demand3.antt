-- Demand 3: nothing flows down, but what the guard regrades.
--
-- C is a set of cells that holds with each cell every cell flowing to it; s and t are two well-formed states of one configuration that agree on all that the
-- set may see (`Agree`: the configuration, every record of the set's cells, the stretch of every file of these). On each runs a sequence of calls; the two
-- sequences are equal once the calls of callers outside the set are struck out (`remaining`). Then every remaining call gets the same answer and the same
-- buffer in both runs (`replies`), and at the end the two states still agree on all that the set may see.
--
-- Call 21 adds to the premise (CR 9). `events` lists, in order, the remaining calls and the struck-out regrades into the set, each as refused or with what it brings:
-- cell, size, bytes, owner, group and bits. The two runs must have the same events; and where the set holds the guard cell, no remaining regrade may name a cell outside it.
-- `as-asked` says it so. `two_runs` asks for less: regrades that are refused need no partner, and a remaining regrade that is refused before it looks for a slot
-- asks about no cell. The rest are corollaries: without regrades, or without a guard, nothing is asked but equal remaining calls.
--
-- `Well s` is Holds (well_formed s.table (length s.store)). All else that is named here is defined in the rules: specs/Step.antt (`run`), specs/Observer.antt and
-- specs/Regrade.antt. That calls keep states well formed is crates/kept's theorem.
use mathlib.Core.Path.{◌≡◌, refl, sym, ap, ◌∙◌}
use mathlib.Core.Bool.{Bool, true, false}
use mathlib.Core.List.{List}
use Prim.Native.Nat.{ℕ}
use Rattle.rules.specs.Layout.{configuration, guard}
use Rattle.rules.specs.Step.{State, Call, run}
use Rattle.rules.specs.Observer.{observer, Closed, Agree, remaining, replies}
use Rattle.rules.specs.Regrade.{events, without_refused, guard_within, NamesNone, AsksNone}
use Rattle.laws.proofs.Tests.{both_ways}
use Rattle.laws.proofs.Written.{AllOf}
use Rattle.kept.proofs.Kept.{Well, kept}
use Rattle.secrecy.proofs.CellFlow.{observer-closed}
use Rattle.secrecy.proofs.Steps.{WellUnder}
use Rattle.secrecy.proofs.Runs.{two-runs-from}
use Rattle.secrecy.proofs.Regrades.{names-none, calls, only_calls, NoRegrade, quiet-other, other-asks-none, Guarded, quiet-guarded, all-calls, guarded-none, guarded-within, none_within}

pub two_runs : (C : ℕ → Bool) (s t : State) → Well s → Well t → let h : List ℕ = configuration s.table in Closed h C → Agree C s t
    → (ks js : List Call) → without_refused (events h C s ks) ≡ without_refused (events h C t js) → AsksNone h C s ks
    → (replies h C s ks ≡ replies h C t js) × Agree C (run s ks) (run t js)
two_runs = two-runs-from kept

-- ---- as CR 9 and CR 14 say it

pub as-asked : (C : ℕ → Bool) (s t : State) → Well s → Well t → let h : List ℕ = configuration s.table in Closed h C → Agree C s t
    → (ks js : List Call) → events h C s ks ≡ events h C t js → (guard_within h C ≡ true → NamesNone h C ks)
    → (replies h C s ks ≡ replies h C t js) × Agree C (run s ks) (run t js)
as-asked C s t ws wt cl a ks js e n =
    two_runs C s t ws wt cl a ks js (ap without_refused e) (names-none (configuration s.table) C ks s (record { formed = ws; configured = refl }) n)

-- one observer, a cell o: the set of the cells that flow to it
pub one-observer : (o : ℕ) (s t : State) → Well s → Well t → let h : List ℕ = configuration s.table in Agree (observer h o) s t
    → (ks js : List Call) → events h (observer h o) s ks ≡ events h (observer h o) t js → (guard_within h (observer h o) ≡ true → NamesNone h (observer h o) ks)
    → (replies h (observer h o) s ks ≡ replies h (observer h o) t js) × Agree (observer h o) (run s ks) (run t js)
one-observer o s t ws wt = as-asked (observer (configuration s.table) o) s t ws wt (observer-closed (configuration s.table) o)

-- ---- where equal remaining calls are enough

module _ (C : ℕ → Bool) (s t : State) (ws : Well s) (wt : Well t) (cl : Closed (configuration s.table) C) (a : Agree C s t) (ks js : List Call)
    (e : remaining (configuration s.table) C ks ≡ remaining (configuration s.table) C js) where
  abbrev h : List ℕ
  h = configuration s.table

  left : WellUnder h s
  left = record { formed = ws; configured = refl }

  right : WellUnder h t
  right = record { formed = wt; configured = sym a.configurations }

  -- demand 3 as it was: no call of either run is a regrade
  pub no-regrades : AllOf NoRegrade ks → AllOf NoRegrade js → (replies h C s ks ≡ replies h C t js) × Agree C (run s ks) (run t js)
  no-regrades n m = two_runs C s t ws wt cl a ks js
      (only_calls h C NoRegrade (quiet-other h C) ks s left n ∙ ap calls e ∙ sym (only_calls h C NoRegrade (quiet-other h C) js t right m))
      (other-asks-none h C ks s n)

  guarded : Guarded h C → AsksNone h C s ks → (replies h C s ks ≡ replies h C t js) × Agree C (run s ks) (run t js)
  guarded g n = two_runs C s t ws wt cl a ks js
      (only_calls h C (λ k. Unit {0}) (quiet-guarded h C g) ks s left (all-calls ks) ∙ ap calls e
      ∙ sym (only_calls h C (λ k. Unit {0}) (quiet-guarded h C g) js t right (all-calls js)))
      n

  -- or there is no guard cell, whatever the calls
  pub no-guard : guard h ≡ 0 → (replies h C s ks ≡ replies h C t js) × Agree C (run s ks) (run t js)
  no-guard z = guarded (guarded-none h C z) (names-none h C ks s left (λ w. both_ways (guard_within h C) w (none_within h C z)))

  -- "Observers above or equal to the guard get demand 3 only where no regrade asks about a cell that doesn't flow to them."
  pub above-guard : guard_within h C ≡ true → AsksNone h C s ks → (replies h C s ks ≡ replies h C t js) × Agree C (run s ks) (run t js)
  above-guard w = guarded (guarded-within h C w)

-- observers that the guard does not flow to: the premise on struck-out regrades is all
pub below-guard : (C : ℕ → Bool) (s t : State) → Well s → Well t → let h : List ℕ = configuration s.table in Closed h C → Agree C s t → guard_within h C ≡ false
    → (ks js : List Call) → without_refused (events h C s ks) ≡ without_refused (events h C t js)
    → (replies h C s ks ≡ replies h C t js) × Agree C (run s ks) (run t js)
below-guard C s t ws wt cl a w ks js e =
    let h : List ℕ = configuration s.table in
    two_runs C s t ws wt cl a ks js e (names-none h C ks s (record { formed = ws; configured = refl }) (λ x. both_ways (guard_within h C) x w))
