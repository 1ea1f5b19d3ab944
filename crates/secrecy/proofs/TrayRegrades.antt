-- The premise of CR 9 of trays, in other words: a record is accepted, and asks about a cell, as its call does where its part lies inside the byte slice, and else not. So what
-- Regrades says of calls is so of records.
use mathlib.Core.Path.{◌≡◌, refl, sym, ap, ◌∙◌}
use mathlib.Core.Bool.{Bool, true, false, ◌&&◌, ◌||◌, and-false}
use mathlib.Core.List.{List, [], ◌∷◌}
use Prim.Native.Nat.{ℕ}
use lib.Dec.{eqb}
use lib.Seq.{sets}
use borrow.Author.Tests.{eqb-true}
use Rattle.rules.specs.Layout.{configuration, rd}
use Rattle.rules.specs.Errors.{XOK, XnoSpace}
use Rattle.rules.specs.Step.{State, Call, Outcome, regrade_code, bad_caller, bad_code, step}
use Rattle.rules.specs.Observer.{stays}
use Rattle.rules.specs.Regrade.{into, accepted, without_refused, guard_within, NamesNone, asks}
use Rattle.rules.specs.Tray.{Record, record_call, inside, record_step, stays_in, remaining_in, asked}
use Rattle.rules.specs.TrayRegrade.{calls_in, accepted_in, event_in, events_in, asks_in, AsksNoneIn}
use Rattle.laws.proofs.Tests.{and_left, both_ways, split}
use Rattle.laws.proofs.Written.{AllOf, nil, also}
use Rattle.kept.proofs.Recorded.{outside_number, inside-is-step, outside-is-refused, record-kept, record-conf-kept}
use Rattle.secrecy.proofs.Steps as steps
use Rattle.secrecy.proofs.Regrades.{asks-here, calls, calls-if, NoRegrade}

-- ---- one record

-- a part that lies outside is refused, and not for want of a slot
outside-number : (s : State) (r : Record) → (eqb (outside_number s r) XOK ≡ false) × (eqb (outside_number s r) XnoSpace ≡ false)
outside-number s r =
    split _ (bad_caller (configuration s.table) (rd (configuration s.table) s.table) r.caller)
    (λ e. rw e (refl, refl))
    (λ e. split _ (bad_code r.code) (λ f. rw (e, f) (refl, refl)) (λ f. rw (e, f) (refl, refl)))

module _ (h : List ℕ) (s : State) (f : steps.WellUnder h s) (bytes : List ℕ) (r : Record) where
  error-inside : inside bytes r ≡ true → (record_step s bytes r).answered.error ≡ (step s (record_call bytes r)).answered.error
  error-inside e = ap (λ (o : Outcome). o.answered.error) (inside-is-step s bytes r f.formed e)

  error-outside : inside bytes r ≡ false → (record_step s bytes r).answered.error ≡ outside_number s r
  error-outside e = ap (λ (o : Outcome). o.answered.error) (outside-is-refused s bytes r e)

  pub accepted-inside : inside bytes r ≡ true → accepted_in s bytes r ≡ accepted s (record_call bytes r)
  unfolding accepted_in accepted
  accepted-inside e = ap (λ (n : ℕ). eqb n XOK) (error-inside e)

  pub accepted-outside : inside bytes r ≡ false → accepted_in s bytes r ≡ false
  unfolding accepted_in
  accepted-outside e = ap (λ (n : ℕ). eqb n XOK) (error-outside e) ∙ (outside-number s r).0

  pub asks-inside : inside bytes r ≡ true → asks_in s bytes r ≡ asks s (record_call bytes r)
  unfolding asks_in asks
  asks-inside e = ap (λ (n : ℕ). eqb r.code regrade_code && (eqb n XOK || eqb n XnoSpace)) (error-inside e)

  asks-outside : inside bytes r ≡ false → asks_in s bytes r ≡ false
  unfolding asks_in
  asks-outside e = rw (error-outside e, (outside-number s r).0, (outside-number s r).1) (and-false (eqb r.code regrade_code))

  -- what is accepted, or asks, has its part inside
  pub inside_of : (b : Bool) → (inside bytes r ≡ false → b ≡ false) → b ≡ true → inside bytes r ≡ true
  inside_of b n e = split _ (inside bytes r) (λ t. t) (λ o. both_ways b e (n o))

  -- what a record leaves is well formed
  pub well-after : steps.WellUnder h (record_step s bytes r).state
  well-after = record { formed = record-kept s bytes r f.formed; configured = record-conf-kept s bytes r f.formed ∙ f.configured }

-- ---- no remaining record asks about a cell outside the set

pub names-none-in : (h : List ℕ) (C : ℕ → Bool) (rs : List Record) (s : State) (bytes : List ℕ) → steps.WellUnder h s
    → (guard_within h C ≡ true → NamesNone h C (calls_in rs)) → AsksNoneIn h C s bytes rs
unfolding NamesNone AsksNoneIn calls_in stays
names-none-in h C [] s bytes f n = tt
names-none-in h C (r ∷ rs) s bytes f n = (
  λ m e.
      let t = inside_of h s f bytes r (asks_in s bytes r) (asks-outside h s f bytes r) e in
      let a = sym (asks-inside h s f bytes r t) ∙ e in
      let x = steps.asking h s f (record_call bytes r) a in
      (n (asks-here h C s (record_call bytes r) f m a)).0 m x.regrades x.cell,
  names-none-in h C rs (record_step s bytes r).state (sets bytes r.offset (record_step s bytes r).buffer) (well-after h s f bytes r) (λ g. (n g).1),
)

-- ---- the events are the remaining records alone, where no struck-out regrade into the set is accepted

-- P says what is known of each record's call
module _ (h : List ℕ) (C : ℕ → Bool) (P : Call → Type 0)
    (quiet : (s : State) (bytes : List ℕ) (r : Record) → steps.WellUnder h s → P (record_call [] r) → stays h C (record_call bytes r) ≡ false
    → into h C (record_call bytes r) && accepted s (record_call bytes r) ≡ false) where
  quiet-in : (s : State) (bytes : List ℕ) (r : Record) → steps.WellUnder h s → P (record_call [] r) → stays_in h C r ≡ false
      → into h C (record_call bytes r) && accepted_in s bytes r ≡ false
  unfolding stays
  quiet-in s bytes r f p o = split _ (inside bytes r)
      (λ t. rw (accepted-inside h s f bytes r t) (quiet s bytes r f p o))
      (λ t. rw (accepted-outside h s f bytes r t) (and-false (into h C (record_call bytes r))))

  pub only-records : (rs : List Record) (s : State) (bytes : List ℕ) → steps.WellUnder h s → AllOf P (calls_in rs)
      → without_refused (events_in h C s bytes rs) ≡ calls (remaining_in h C (asked rs))
  unfolding events_in event_in remaining_in asked without_refused calls_in
  only-records [] s bytes f nil = refl
  only-records (r ∷ rs) s bytes f (also p ps) =
      calls-if (stays_in h C r) (into h C (record_call bytes r)) (accepted_in s bytes r) _ _ (remaining_in h C (asked rs)) _ (quiet-in s bytes r f p)
      (only-records rs (record_step s bytes r).state (sets bytes r.offset (record_step s bytes r).buffer) (well-after h s f bytes r) ps)

-- no record is a regrade: none asks
pub other-asks-none-in : (h : List ℕ) (C : ℕ → Bool) (rs : List Record) (s : State) (bytes : List ℕ) → AllOf NoRegrade (calls_in rs) → AsksNoneIn h C s bytes rs
unfolding AsksNoneIn asks_in calls_in
other-asks-none-in h C [] s bytes nil = tt
other-asks-none-in h C (r ∷ rs) s bytes (also n ns) = (
  λ m e. absurd (n (eqb-true _ _ (and_left (eqb r.code regrade_code) _ e))),
  other-asks-none-in h C rs (record_step s bytes r).state (sets bytes r.offset (record_step s bytes r).buffer) ns,
)
