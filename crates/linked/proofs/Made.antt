-- A host's run: calls made one after the other to the exported `monitor_call`, on one table and one store. Of each call its contract is known, and nothing
-- else: `Learnt` is what Rattle makes of the `ensures` in crates/monitor/src/lib.rt. Such a run is the rules' run: `ends_at`, `all-got`.
use mathlib.Core.Path.{◌≡◌, refl, ap, ap₂, ◌∙◌}
use mathlib.Core.Bool.{Bool, true, cond, ◌&&◌, ◌||◌}
use mathlib.Core.List.{List, [], ◌∷◌, ◌++◌}
use Prim.Native.Nat.{ℕ}
use lib.Dec.{eqb}
use contract.Lifetimes.{Lfts}
use denote.Triple.Clauses.{Lasts, at_exit}
use borrow.Fn.Kinds.{Dens, res_t, ended_of}
use Rattle.rules.specs.Layout.{rd}
use Rattle.rules.specs.Errors.{XOK, XnoSpace}
use Rattle.rules.specs.Step as rules
use Rattle.rules.specs.Step.{State, Call, Reply, regrade_code, step, next, reply, run}
use Rattle.rules.specs.Call21.{carried}
use Rattle.rules.specs.Observer.{stays, replies}
use Rattle.rules.specs.Regrade.{into, accepted, Event, remains, refused, brings, event, events, asks, AsksNone}
use Rattle.calls.specs.Did.{state_of, call_of, rule_answer}
use Rattle.monitor.proofs.monitor_call.Kinds.{ps, r}
use Rattle.monitor.proofs.monitor_call.Reads.{Learnt}

-- one call: what it is lent and told, what it answers, and what it leaves of each slice, as the contract allows
pub record DoneCall : Type 0 where
  pub lifetimes : Lfts 3
  pub lent : Dens lifetimes ps
  pub answer : (res_t r lifetimes).Denot
  pub last : Lasts (ended_of 3 ps r) lifetimes lent
  pub allowed : Learnt lifetimes lent answer (at_exit (ended_of 3 ps r) lifetimes lent last)

module _ (d : DoneCall) where
  -- the state that it finds, and the call that it is
  abbrev pub found : State
  found = state_of d.lent.0.now d.lent.1.0.now

  abbrev pub made : Call
  made = let x = d.lent.1.1 in call_of x.0 x.1.0 x.1.1.0 x.1.1.1.0 x.1.1.1.1.0 x.1.1.1.1.1.0.now

  -- the state that it leaves, and what its caller gets
  abbrev pub left : State
  left = state_of d.last.0 d.last.1.0

  abbrev pub got : Reply
  got = record { answered = rule_answer d.answer; buffer = d.last.1.1.1.1.1.1.1.0 }

-- a run from one state to another: its calls, and what each caller got; every call finds what the one before it left
pub data Made : State → List Call → List Reply → State → Type 0 where
  none : {s : State} → Made s [] [] s
  more : {ks : List Call} {ys : List Reply} {u : State} (d : DoneCall) → Made (left d) ks ys u → Made (found d) (made d ∷ ks) (got d ∷ ys) u

-- what those calls got whose callers' slots lie in the cells of C
pub got_by : List ℕ → (ℕ → Bool) → List Call → List Reply → List Reply
got_by h C [] ys = []
got_by h C (k ∷ ks) [] = []
got_by h C (k ∷ ks) (y ∷ ys) = cond (stays h C k) (y ∷ got_by h C ks ys) (got_by h C ks ys)

-- ---- such a run is the rules' run

-- one call is a step
step_left : (d : DoneCall) → left d ≡ next (found d) (made d)
step_left d = ap₂ state_of d.allowed.table d.allowed.store

step-got : (d : DoneCall) → got d ≡ reply (found d) (made d)
unfolding reply
step-got d = λ i. record { answered = d.allowed.answered i; buffer = d.allowed.buffer i }

pub ends_at : {s u : State} {ks : List Call} {ys : List Reply} → Made s ks ys u → u ≡ run s ks
unfolding run
ends_at none = refl
ends_at (more {ks = ks} d m) = ends_at m ∙ ap (λ (x : State). run x ks) (step_left d)

pub all-got : (h : List ℕ) (C : ℕ → Bool) {s u : State} {ks : List Call} {ys : List Reply} → Made s ks ys u → got_by h C ks ys ≡ replies h C s ks
unfolding got_by replies
all-got h C none = refl
all-got h C (more {ks = ks} d m) = rw (all-got h C m, step_left d, step-got d)

-- ---- regrades, by what the calls were answered and what they found (rules/specs/Regrade has the same of the rules' run)

-- what the set is told of a call
unfoldable pub event_by : List ℕ → (ℕ → Bool) → DoneCall → List (Event Call)
event_by h C d =
    let k : Call = made d in
    cond (stays h C k) (remains k ∷ [])
    (cond (into h C k)
    (cond (eqb d.answer.error XOK) (brings (carried h (rd h (found d).table) (found d).store k.caller k.a k.b k.c k.buffer)) refused ∷ [])
    [])

pub events_by : List ℕ → (ℕ → Bool) → {s u : State} {ks : List Call} {ys : List Reply} → Made s ks ys u → List (Event Call)
events_by h C none = []
events_by h C (more d m) = event_by h C d ++ events_by h C m

-- no remaining regrade comes as far as the search for a slot of a cell outside the set
unfoldable pub asks_by : DoneCall → Bool
asks_by d = eqb (made d).code regrade_code && (eqb d.answer.error XOK || eqb d.answer.error XnoSpace)

pub AsksNoneBy : List ℕ → (ℕ → Bool) → {s u : State} {ks : List Call} {ys : List Reply} → Made s ks ys u → Type 0
AsksNoneBy h C none = Unit {0}
AsksNoneBy h C (more d m) = (stays h C (made d) ≡ true → asks_by d ≡ true → C (made d).b ≡ true) × AsksNoneBy h C m

error-told : (d : DoneCall) → d.answer.error ≡ (step (found d) (made d)).answered.error
error-told d = ap (λ (x : rules.Answer). x.error) d.allowed.answered

event-told : (h : List ℕ) (C : ℕ → Bool) (d : DoneCall) → event_by h C d ≡ event h C (found d) (made d)
unfolding event_by event accepted
event-told h C d = rw (error-told d)

pub events-told : (h : List ℕ) (C : ℕ → Bool) {s u : State} {ks : List Call} {ys : List Reply} (m : Made s ks ys u) → events_by h C m ≡ events h C s ks
unfolding events_by events
events-told h C none = refl
events-told h C (more {ks = ks} d m) = rw (event-told h C d, events-told h C m, step_left d)

pub asks-told : (h : List ℕ) (C : ℕ → Bool) {s u : State} {ks : List Call} {ys : List Reply} (m : Made s ks ys u) → AsksNoneBy h C m → AsksNone h C s ks
unfolding AsksNoneBy AsksNone asks_by asks
asks-told h C none a = tt
asks-told h C (more {ks = ks} d m) a = (λ x y. a.0 x (rw (error-told d) y), rw (step_left d) at (asks-told h C m a.1))
