-- Demand 3 of the code that a host links: nothing flows down through the exported `monitor_call`.
--
-- Calls are made to it in two runs, each on a well-formed table and store of its own (`Made`: of each call the contract of the exported function is known, and
-- nothing else). C is a set of cells that holds with each cell every cell flowing to it, and the two states agree on all that the set may see. The two sequences
-- of calls are equal once those of callers outside the set are struck out, but for regrades into the set, which bring the same in both (`events_by`, by what the calls
-- were answered and what they found); and no remaining regrade asks about a cell outside it. Then every remaining call got the same answer and the same buffer
-- (`got_by`), and at the end the tables and the stores agree on all that the set may see. It follows from the contract (Made) and from crates/secrecy/proofs/Demand3.
use mathlib.Core.Path.{◌≡◌, sym, ap, ◌∙◌}
use mathlib.Core.Bool.{Bool, true}
use mathlib.Core.List.{List}
use Prim.Native.Nat.{ℕ}
use native.Mathlib.Omega.{arith}
use lib.ListN.{length}
use contract.Lifetimes.{Lfts}
use denote.Triple.Clauses.{Lasts, at_exit}
use borrow.Fn.Kinds.{Dens, res_t, ended_of}
use Rattle.rules.specs.Claim.{Holds, test}
use Rattle.rules.specs.Layout.{configuration, guard}
use Rattle.rules.specs.Errors.{XOK, XbParam}
use Rattle.rules.specs.SetUp.{can_set_up, set_up_answer, set_up_table}
use Rattle.rules.specs.Step.{State, Call, Reply, run}
use Rattle.rules.specs.Observer.{observer, Closed, Agree, remaining, replies}
use Rattle.rules.specs.Regrade.{events, without_refused, guard_within, NamesNone}
use Rattle.laws.proofs.Tests.{split, cond-false}
use Rattle.laws.proofs.Claims.{holds}
use Rattle.laws.proofs.Written.{AllOf}
use Rattle.kept.proofs.Kept.{Well}
use Rattle.secrecy.proofs.CellFlow.{observer-closed}
use Rattle.secrecy.proofs.View.{Stretches}
use Rattle.secrecy.proofs.Regrades.{NoRegrade}
use Rattle.secrecy.proofs.Demand3 as rules
use Rattle.secrecy.proofs.AfterSetUp.{from-set-up}
use Rattle.calls.specs.Did.{state_of}
use Rattle.monitor.proofs.monitor_setup.Kinds.{ps, r}
use Rattle.monitor.proofs.monitor_setup.Reads.{Learnt}
use Rattle.linked.proofs.Made.{Made, got_by, ends_at, all-got, events_by, AsksNoneBy, events-told, asks-told}

-- what is so of the rules' two runs is so of two runs made
carried : (h : List ℕ) (C : ℕ → Bool) {s t u v : State} {ks js : List Call} {ys zs : List Reply} → Made s ks ys u → Made t js zs v
    → (replies h C s ks ≡ replies h C t js) × Agree C (run s ks) (run t js) → (got_by h C ks ys ≡ got_by h C js zs) × Agree C u v
carried h C m n x = (all-got h C m ∙ x.0 ∙ sym (all-got h C n), rw (ends_at m, ends_at n) x.1)

pub two_runs : (C : ℕ → Bool) {s t u v : State} {ks js : List Call} {ys zs : List Reply} (m : Made s ks ys u) (n : Made t js zs v) → Well s → Well t
    → let h : List ℕ = configuration s.table in Closed h C → Agree C s t → without_refused (events_by h C m) ≡ without_refused (events_by h C n) → AsksNoneBy h C m
    → (got_by h C ks ys ≡ got_by h C js zs) × Agree C u v
two_runs C {s} {t} {ks = ks} {js = js} m n ws wt cl a e none =
    let h : List ℕ = configuration s.table in
    carried h C m n (rules.two_runs C s t ws wt cl a ks js (ap without_refused (sym (events-told h C m)) ∙ e ∙ ap without_refused (events-told h C n)) (asks-told h C m none))

-- as CR 9 and CR 14 say it
pub as-asked : (C : ℕ → Bool) {s t u v : State} {ks js : List Call} {ys zs : List Reply} (m : Made s ks ys u) (n : Made t js zs v) → Well s → Well t
    → let h : List ℕ = configuration s.table in Closed h C → Agree C s t → events_by h C m ≡ events_by h C n → (guard_within h C ≡ true → NamesNone h C ks)
    → (got_by h C ks ys ≡ got_by h C js zs) × Agree C u v
as-asked C {s} {t} {ks = ks} {js = js} m n ws wt cl a e none =
    let h : List ℕ = configuration s.table in
    carried h C m n (rules.as-asked C s t ws wt cl a ks js (sym (events-told h C m) ∙ e ∙ events-told h C n) none)

-- one observer, a cell o: the set of the cells that flow to it
pub one-observer : (o : ℕ) {s t u v : State} {ks js : List Call} {ys zs : List Reply} (m : Made s ks ys u) (n : Made t js zs v) → Well s → Well t
    → let h : List ℕ = configuration s.table in let C : ℕ → Bool = observer h o in Agree C s t → events_by h C m ≡ events_by h C n
    → (guard_within h C ≡ true → NamesNone h C ks) → (got_by h C ks ys ≡ got_by h C js zs) × Agree C u v
one-observer o {s} m n ws wt =
    as-asked (observer (configuration s.table) o) m n ws wt (observer-closed (configuration s.table) o)

-- demand 3 as it was, where no call of either run is a regrade, or where there is no guard cell: equal remaining calls are enough
module _ (C : ℕ → Bool) {s t u v : State} {ks js : List Call} {ys zs : List Reply} (m : Made s ks ys u) (n : Made t js zs v) (ws : Well s) (wt : Well t)
    (cl : Closed (configuration s.table) C) (a : Agree C s t) (e : remaining (configuration s.table) C ks ≡ remaining (configuration s.table) C js) where
  abbrev h : List ℕ
  h = configuration s.table

  pub no-regrades : AllOf NoRegrade ks → AllOf NoRegrade js → (got_by h C ks ys ≡ got_by h C js zs) × Agree C u v
  no-regrades x y = carried h C m n (rules.no-regrades C s t ws wt cl a ks js e x y)

  pub no-guard : guard h ≡ 0 → (got_by h C ks ys ≡ got_by h C js zs) × Agree C u v
  no-guard z = carried h C m n (rules.no-guard C s t ws wt cl a ks js e z)

-- ---- from set-up on

-- a call of `monitor_setup` that answers 0, as its contract allows, for a store
pub record Begun (store : List ℕ) : Type 0 where
  pub lifetimes : Lfts 1
  pub lent : Dens lifetimes ps
  pub answer : (res_t r lifetimes).Denot
  pub last : Lasts (ended_of 1 ps r) lifetimes lent
  pub allowed : Learnt lifetimes lent answer (at_exit (ended_of 1 ps r) lifetimes lent last)
  pub accepted : answer ≡ XOK
  pub right-length : lent.1.0 ≡ length store

module _ {store : List ℕ} (b : Begun store) where
  -- the words that it found, and the state that it leaves
  abbrev pub words : List ℕ
  words = b.lent.0.now

  abbrev pub begun : State
  begun = state_of b.last.0 store

  table_is : b.last.0 ≡ set_up_table words (length store)
  table_is = b.allowed.1 ∙ ap (set_up_table words) b.right-length

  could : Holds (can_set_up words (length store))
  unfolding set_up_answer
  could =
      let m : ℕ = length store in
      let answered : set_up_answer words m ≡ XOK = sym (b.allowed.0 ∙ ap (set_up_answer words) b.right-length) ∙ b.accepted in
      split _ (test (can_set_up words m)) (holds (can_set_up words m))
      (λ f. absurd (omega (arith, sym (cond-false (test (can_set_up words m)) XOK XbParam f) ∙ answered)))

-- two tables set up with one configuration: what the set sees hangs on that and on the stretches of its files alone
pub after-set-up : (C : ℕ → Bool) {a b : List ℕ} {u v : State} {ks js : List Call} {ys zs : List Reply} (x : Begun a) (y : Begun b)
    → (m : Made (begun x) ks ys u) (n : Made (begun y) js zs v) → configuration (words x) ≡ configuration (words y)
    → let h : List ℕ = configuration (begun x).table in Closed h C → Stretches h C a b → without_refused (events_by h C m) ≡ without_refused (events_by h C n) → AsksNoneBy h C m
    → (got_by h C ks ys ≡ got_by h C js zs) × Agree C u v
after-set-up C {a} {b} {ks = ks} {js = js} x y m n same cl s e none =
    let h : List ℕ = configuration (begun x).table in
    let f : without_refused (events h C (begun x) ks) ≡ without_refused (events h C (begun y) js)
    = ap without_refused (sym (events-told h C m)) ∙ e ∙ ap without_refused (events-told h C n) in
    let z = from-set-up C (words x) (words y) a b (could x) (could y) same (rw (table_is x) at cl) (rw (table_is x) at s) ks js (rw (table_is x, table_is y) at f)
    (rw (table_is x) at (asks-told h C m none)) in
    carried h C m n (rw (table_is x, table_is y) z)
