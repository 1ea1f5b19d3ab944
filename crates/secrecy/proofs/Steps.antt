-- One call, whole: a struck-out call is not seen, but for a regrade into the set that is accepted; a remaining one is answered alike and leaves states that agree; and two
-- regrades that bring the same leave states that agree.
use mathlib.Core.Path.{◌≡◌, refl, sym, ap, ◌∙◌}
use mathlib.Core.Bool.{Bool, true, false, cond, ◌&&◌, ◌||◌, not}
use mathlib.Core.List.{List, [], ◌∷◌, ◌++◌}
use Prim.Native.Nat.{ℕ, ◌+◌, ◌<◌}
use native.Mathlib.Omega.{arith}
use lib.Dec.{ltb, leb, eqb}
use lib.ListN.{length}
use borrow.Author.Tests.{leb-false, ltb-true, lt-ltb, eqb-true, eqb-false, eq-eqb, ne_eqb}
use Rattle.rules.specs.Claim.{Holds, test}
use Rattle.rules.specs.Layout.{max_bits, process, file, cells, slots, configuration, cell_of, Addr, at, rd, live, serial}
use Rattle.rules.specs.WellFormed.{records_ok, well_formed}
use Rattle.rules.specs.Errors.{XOK, XbTab, XbPrSd, XbdKcl, XnoSpace}
use Rattle.rules.specs.Rule.{Refusal, ◌⇒◌, first_refusal, Effect, effect, Rule, rule}
use Rattle.rules.specs.Find.{free_slot, no_slot}
use Rattle.rules.specs.Copy.{Copy}
use Rattle.rules.specs.Call21.{in_guard, carried, regraded, blocks_copied, regrade}
use Rattle.rules.specs.Step.{State, Call, Outcome, regrade_code, rule_of, bad_caller, bad_code, carried_out, whole_rule, step, next, reply}
use Rattle.rules.specs.Observer.{Closed, Agree, stays}
use Rattle.rules.specs.Regrade.{into, accepted, asks}
use Rattle.laws.proofs.Tests.{split, and_left, and_right, and_both, or-by-left, or_left, or_right, cond-true, cond-false, both_ways, refuted, passed}
use Rattle.laws.proofs.Claims.{tested}
use Rattle.laws.proofs.Shape.{Shape, good_of}
use Rattle.laws.proofs.Written.{nil, conf-write}
use Rattle.laws.proofs.Slots.{free-slot}
use Rattle.laws.proofs.Codes.{by_code}
use Rattle.secrecy.proofs.Shown.{WritesUp, up-effect, up-test, Alike, alike-effect, alike-test, same_effect}
use Rattle.secrecy.proofs.Apply.{granted, same-refusal, last-unasked, clear-before, last-clear, error-is, refuses, AgreeAt, Sized, done, silent, same-done, both}
use Rattle.secrecy.proofs.View.{Here, View, Stretches, is-reaching, seen-slot, same-me}
use Rattle.secrecy.proofs.Flow01.{up01, alike01}
use Rattle.secrecy.proofs.Flow02.{up02, alike02}
use Rattle.secrecy.proofs.Flow03.{up03, alike03}
use Rattle.secrecy.proofs.Flow04.{up04, alike04}
use Rattle.secrecy.proofs.Flow05.{up05, alike05}
use Rattle.secrecy.proofs.Flow06.{up06, alike06}
use Rattle.secrecy.proofs.Flow07.{up07, alike07}
use Rattle.secrecy.proofs.Flow08.{up08, alike08}
use Rattle.secrecy.proofs.Flow09.{up09, alike09}
use Rattle.secrecy.proofs.Flow10.{up10, alike10}
use Rattle.secrecy.proofs.Flow11.{up11, alike11}
use Rattle.secrecy.proofs.Flow12.{up12, alike12}
use Rattle.secrecy.proofs.Flow13.{up13, alike13}
use Rattle.secrecy.proofs.Flow14.{up14, alike14}
use Rattle.secrecy.proofs.Flow15.{up15, alike15}
use Rattle.secrecy.proofs.Flow16.{up16, alike16}
use Rattle.secrecy.proofs.Flow17.{up17, alike17}
use Rattle.secrecy.proofs.Flow18.{up18, alike18}
use Rattle.secrecy.proofs.Flow19.{up19, alike19}
use Rattle.secrecy.proofs.Flow20.{up20, alike20}
use Rattle.secrecy.proofs.Flow21.{barred, refusals21, up21, alike21, alike-unasked}

-- ---- the rule of every code

-- the cell from which a call writes up: its caller's, and for a regrade the one that it names
abbrev pub writer : List ℕ → Call → ℕ
writer h k = cond (eqb k.code regrade_code) k.b (cell_of h process k.caller)

up-code : {h : List ℕ} {r : Addr → ℕ} (k : Call) → Here h k.caller r → Holds (records_ok h r) → (st : List ℕ) → WritesUp h (writer h k) (rule_of h r st k)
up-code {h} {r} k v w st = by_code h k (λ f. WritesUp h (writer h k) (f r st)) (record {
  call-1 = λ e. rw e (up01 v k.a k.b k.c k.buffer);
  call-2 = λ e. rw e (up02 v k.a k.buffer);
  call-3 = λ e. rw e (up03 v k.a k.b k.c k.buffer);
  call-4 = λ e. rw e (up04 v k.a k.b k.buffer);
  call-5 = λ e. rw e (up05 v k.a k.buffer);
  call-6 = λ e. rw e (up06 v k.a k.b k.buffer);
  call-7 = λ e. rw e (up07 v k.a k.b k.c k.buffer);
  call-8 = λ e. rw e (up08 v k.a k.b k.c k.buffer);
  call-9 = λ e. rw e (up09 v k.a k.buffer);
  call-10 = λ e. rw e (up10 v k.a k.buffer);
  call-11 = λ e. rw e (up11 v k.a k.buffer);
  call-12 = λ e. rw e (up12 v k.a k.b k.buffer);
  call-13 = λ e. rw e (up13 v st k.a k.b k.buffer);
  call-14 = λ e. rw e (up14 v w k.a k.b k.buffer);
  call-15 = λ e. rw e (up15 v k.a k.buffer);
  call-16 = λ e. rw e (up16 v k.buffer);
  call-17 = λ e. rw e (up17 v k.a k.buffer);
  call-18 = λ e. rw e (up18 v k.a k.buffer);
  call-19 = λ e. rw e (up19 v k.a k.b k.c k.buffer);
  call-20 = λ e. rw e (up20 v k.a k.buffer);
  call-21 = λ e. rw e (up21 v w st k.a k.b k.c k.buffer);
  other = up-effect nil nil;
})

-- a regrade must name a cell of the set, or none
alike-code : {h : List ℕ} {C : ℕ → Bool} {r q : Addr → ℕ} (k : Call) → View h k.caller C r q → Holds (records_ok h r) → (s t : List ℕ) → length s ≡ length t
    → Stretches h C s t
    → (k.code ≡ regrade_code → k.b < cells h → C k.b ≡ true) → Alike h C (rule_of h r s k) (rule_of h q t k)
alike-code {h} {C} {r} {q} k v w s t same seen named = by_code h k (λ f. Alike h C (f r s) (f q t)) (record {
  call-1 = λ e. alike01 v k.a k.b k.c k.buffer;
  call-2 = λ e. alike02 v k.a k.buffer;
  call-3 = λ e. alike03 v k.a k.b k.c k.buffer;
  call-4 = λ e. alike04 v k.a k.b k.buffer;
  call-5 = λ e. alike05 v k.a k.buffer;
  call-6 = λ e. alike06 v k.a k.b k.buffer;
  call-7 = λ e. alike07 v k.a k.b k.c k.buffer;
  call-8 = λ e. alike08 v k.a k.b k.c k.buffer;
  call-9 = λ e. alike09 v k.a k.buffer;
  call-10 = λ e. alike10 v k.a k.buffer;
  call-11 = λ e. alike11 v k.a k.buffer;
  call-12 = λ e. alike12 v k.a k.b k.buffer;
  call-13 = λ e. alike13 v s t same seen k.a k.b k.buffer;
  call-14 = λ e. alike14 v k.a k.b k.buffer;
  call-15 = λ e. alike15 v k.a k.buffer;
  call-16 = λ e. alike16 v k.buffer;
  call-17 = λ e. alike17 v k.a k.buffer;
  call-18 = λ e. alike18 v k.a k.buffer;
  call-19 = λ e. alike19 v k.a k.b k.c k.buffer;
  call-20 = λ e. alike20 v k.a k.buffer;
  call-21 = λ e. alike21 v w s t same seen k.a k.b k.c k.buffer (named e);
  other = alike-effect (same_effect refl);
})

-- ---- states under one configuration h

-- a well-formed state
pub record WellUnder (h : List ℕ) (s : State) : Type 0 where
  pub formed : Holds (well_formed s.table (length s.store))
  pub configured : configuration s.table ≡ h

sized : (h : List ℕ) (s : State) → WellUnder h s → Sized h s
sized h s f =
    let g = good_of s.table (length s.store) f.formed in
    record { words = rw f.configured at g.words; bytes = rw f.configured at g.bytes }

shaped : (h : List ℕ) (s : State) → WellUnder h s → Shape h
shaped h s f = rw f.configured at (good_of s.table (length s.store) f.formed).shape

recorded : (h : List ℕ) (s : State) → WellUnder h s → Holds (records_ok h (rd h s.table))
recorded h s f = rw f.configured at (good_of s.table (length s.store) f.formed).records

-- two states that agree, as the rules say it and under h
pub at-configuration : (h : List ℕ) (C : ℕ → Bool) (s t : State) → configuration s.table ≡ h → Agree C s t → AgreeAt h C s t
at-configuration h C s t e a =
    let x : AgreeAt (configuration s.table) C s t = record {
      records = λ b v i. a.records b v i ∙ ap (λ (x : List ℕ). rd x t.table b) (sym a.configurations);
      stretches = a.stretches;
    } in
    rw e at x

pub from-configuration : (h : List ℕ) (C : ℕ → Bool) (s t : State) → configuration s.table ≡ h → configuration t.table ≡ h → AgreeAt h C s t → Agree C s t
from-configuration h C s t e f a = record { configurations = e ∙ sym f; records = rw (e, f) a.records; stretches = rw e a.stretches }

-- ---- one call

-- a regrade that comes as far as the search for a slot: its caller is of the guard cell, and it names a cell
pub record Asking (h : List ℕ) (k : Call) : Type 0 where
  pub regrades : k.code ≡ regrade_code
  pub there : k.caller < slots h process
  pub guarded : in_guard h k.caller ≡ true
  pub cell : k.b < cells h

module _ (h : List ℕ) (s : State) (f : WellUnder h s) (k : Call) where
  pub in_table : bad_caller h (rd h s.table) k.caller ≡ false → k.caller < slots h process
  unfolding bad_caller
  in_table e = leb-false (slots h process) k.caller (or_left (leb (slots h process) k.caller) _ e)

  up-whole : WritesUp h (writer h k) (whole_rule h s k)
  unfolding whole_rule
  up-whole = up-test refl (λ e. up-test refl (λ b. up-test refl (λ c. up-code k
      (record { shape = shaped h s f; there = in_table b; reaching = is-reaching h (rd h s.table) (recorded h s f) }) (recorded h s f) s.store)))

  step_is : step s k ≡ carried_out h s k.buffer (whole_rule h s k)
  unfolding step
  step_is = rw f.configured

  -- the configuration stays
  pub conf-next : configuration (next s k).table ≡ h
  unfolding carried_out
  conf-next = rw (next, step_is) (split _ (eqb (first_refusal (whole_rule h s k).refusals) 0)
      (λ e. rw e (conf-write h s.table (whole_rule h s k).effects.words f.configured))
      (λ e. rw e f.configured))

  -- the number that the call answers
  error-first : (step s k).answered.error ≡ first_refusal (whole_rule h s k).refusals
  error-first = rw step_is (error-is h s k.buffer (whole_rule h s k))

  first-zero : accepted s k ≡ true → first_refusal (whole_rule h s k).refusals ≡ 0
  unfolding accepted
  first-zero e = sym error-first ∙ eqb-true _ XOK e

  -- where it is not accepted, nothing changes
  stays-so : accepted s k ≡ false → next s k ≡ s
  unfolding accepted
  stays-so e = ap (λ (o : Outcome). o.state)
      (step_is ∙ refuses h s k.buffer (whole_rule h s k) (first_refusal (whole_rule h s k).refusals) refl (rw error-first at e))

  -- where it is, its effects are written
  done-so : (C : ℕ → Bool) → accepted s k ≡ true → next s k ≡ done h C s (whole_rule h s k).effects
  unfolding carried_out
  done-so C e = rw (next, step_is, first-zero e)

  regrade-own : k.code ≡ regrade_code → rule_of h (rd h s.table) s.store k ≡ regrade h (rd h s.table) s.store k.caller k.a k.b k.c k.buffer
  unfolding rule_of
  regrade-own e = rw e

  -- what a regrade writes
  abbrev slot : ℕ
  slot = free_slot h (rd h s.table) file k.b

  abbrev brought : Copy
  brought = carried h (rd h s.table) s.store k.caller k.a k.b k.c k.buffer

  its-words : k.code ≡ regrade_code → (whole_rule h s k).effects.words ≡ regraded brought slot (rd h s.table (at file slot serial) + 1)
  unfolding whole_rule regrade
  its-words c = rw (regrade-own c)

  its-bytes : k.code ≡ regrade_code → (whole_rule h s k).effects.bytes ≡ blocks_copied brought slot
  unfolding whole_rule regrade
  its-bytes c = rw (regrade-own c)

  -- its refusals before the search for a slot, and that one
  abbrev earlier : List Refusal
  earlier =
      (not (test (well_formed s.table (length s.store))) ⇒ XbTab) ∷ (bad_caller h (rd h s.table) k.caller ⇒ XbPrSd) ∷ (bad_code k.code ⇒ XbdKcl)
      ∷ barred h (rd h s.table) k.caller k.a k.b k.c k.buffer

  whole_is : k.code ≡ regrade_code → (whole_rule h s k).refusals ≡ earlier ++ (no_slot h (rd h s.table) file k.b ⇒ XnoSpace) ∷ []
  unfolding whole_rule
  whole_is c = rw (regrade-own c, refusals21)

  -- a regrade that comes so far
  pub asking : asks s k ≡ true → Asking h k
  unfolding asks
  asking e =
      let c = eqb-true k.code regrade_code (and_left (eqb k.code regrade_code) _ e) in
      let so = and_right (eqb k.code regrade_code) (eqb (step s k).answered.error XOK || eqb (step s k).answered.error XnoSpace) e in
      let y = clear-before earlier (no_slot h (rd h s.table) file k.b) XnoSpace refl refl (rw (error-first, whole_is c) at so) in
      record {
        regrades = c;
        there = in_table y.1.0;
        guarded = passed _ y.1.1.1.0;
        cell = leb-false (cells h) k.b (or_left (leb (cells h) k.b) (ltb max_bits k.c) y.1.1.1.1.1.0);
      }

  accepted-asks : k.code ≡ regrade_code → accepted s k ≡ true → asks s k ≡ true
  unfolding asks accepted
  accepted-asks c e = and_both (eqb k.code regrade_code) _ (eq-eqb _ _ c) (or-by-left (eqb (step s k).answered.error XOK) (eqb (step s k).answered.error XnoSpace) e)

  pub accepted-regrade : k.code ≡ regrade_code → accepted s k ≡ true → Asking h k
  accepted-regrade c e = asking (accepted-asks c e)

  accepted-room : k.code ≡ regrade_code → accepted s k ≡ true → no_slot h (rd h s.table) file k.b ≡ false
  accepted-room c e = last-clear earlier (no_slot h (rd h s.table) file k.b) XnoSpace refl (rw (whole_is c) at (first-zero e))

-- ---- struck-out calls

-- a struck-out caller's cell lies outside the set
pub caller-out : (h : List ℕ) (C : ℕ → Bool) (k : Call) → stays h C k ≡ false → (k.caller < slots h process) × (C (cell_of h process k.caller) ≡ false)
unfolding stays
caller-out h C k e = split _ (ltb k.caller (slots h process))
    (λ t. (ltb-true _ _ t, sym (cond-true (ltb k.caller (slots h process)) (C (cell_of h process k.caller)) true t) ∙ e))
    (λ g. both_ways true refl (sym (cond-false (ltb k.caller (slots h process)) (C (cell_of h process k.caller)) true g) ∙ e))

module _ (h : List ℕ) (C : ℕ → Bool) (cl : Closed h C) (s : State) (f : WellUnder h s) (k : Call) (out : stays h C k ≡ false) where
  same-state : next s k ≡ s → AgreeAt h C s (next s k)
  same-state e = rw e (record { records = λ a v i. refl; stretches = λ g i x y w. refl })

  -- from a cell outside the set nothing is seen
  unseen : C (writer h k) ≡ false → AgreeAt h C s (next s k)
  unseen o = rw (next, step_is h s f k) (silent h C cl o (up-whole h s f k) s k.buffer (sized h s f))

  -- a call that is struck out, and no regrade into the set that is accepted
  pub struck-out : into h C k && accepted s k ≡ false → AgreeAt h C s (next s k)
  unfolding into
  struck-out n = split _ (accepted s k)
      (λ e. split _ (eqb k.code regrade_code)
      (λ c.
      let x = accepted-regrade h s f k (eqb-true _ _ c) e in
      unseen (rw c (refuted (C k.b) (λ i. both_ways (into h C k && accepted s k) (rw (c, lt-ltb k.b (cells h) x.cell, i, e)) n))))
      (λ c. unseen (rw c (caller-out h C k out).1)))
      (λ e. same-state (stays-so h s f k e))

-- two regrades into the set, both accepted, that bring the same
same-regraded : (x y : Copy) (f g m n : ℕ) → x ≡ y → f ≡ g → m ≡ n → (regraded x f m ≡ regraded y g n) × (blocks_copied x f ≡ blocks_copied y g)
same-regraded x y f g m n i j k = (rw (i, j, k), rw (i, j))

module _ (h : List ℕ) (C : ℕ → Bool) (s t : State) (f : WellUnder h s) (g : WellUnder h t) (a : AgreeAt h C s t) (k j : Call) where
  pub both-bring : into h C k && accepted s k ≡ true → into h C j && accepted t j ≡ true → brought h s f k ≡ brought h t g j → AgreeAt h C (next s k) (next t j)
  unfolding into carried
  both-bring x y e =
      let ik = and_left (into h C k) (accepted s k) x in
      let ij = and_left (into h C j) (accepted t j) y in
      let ak = and_right (into h C k) (accepted s k) x in
      let aj = and_right (into h C j) (accepted t j) y in
      let ck = eqb-true k.code regrade_code (and_left (eqb k.code regrade_code) _ ik) in
      let cj = eqb-true j.code regrade_code (and_left (eqb j.code regrade_code) _ ij) in
      let seen : C k.b ≡ true = and_right (ltb k.b (cells h)) (C k.b) (and_right (eqb k.code regrade_code) _ ik) in
      let gk = accepted-regrade h s f k ck ak in
      let room = accepted-room h s f k ck ak in
      let sh = shaped h s f in
      let taken = free-slot h (rd h s.table) sh k.b gk.cell file room in
      let cell : k.b ≡ j.b = ap (λ (z : Copy). z.cell) e in
      let found : free_slot h (rd h t.table) file k.b ≡ slot h s f k = seen-slot h sh C (rd h s.table) (rd h t.table) a.records k.b gk.cell seen file in
      let same : slot h s f k ≡ slot h t g j = sym found ∙ ap (free_slot h (rd h t.table) file) cell in
      let number : rd h s.table (at file (slot h s f k) serial) ≡ rd h t.table (at file (slot h s f k) serial) =
      a.records (at file (slot h s f k) serial) (taken.in-range, omega arith)
      (ap C taken.in_cell ∙ seen) in
      let more : rd h s.table (at file (slot h s f k) serial) + 1 ≡ rd h t.table (at file (slot h t g j) serial) + 1 =
      ap (λ (n : ℕ). n + 1) (number ∙ ap (λ (n : ℕ). rd h t.table (at file n serial)) same) in
      let w = same-regraded (brought h s f k) (brought h t g j) (slot h s f k) (slot h t g j) _ _ e same more in
      let own = granted (up-whole h s f k) (first-zero h s f k ak) in
      rw (done-so h s f k C ak, done-so h t g j C aj)
      (same-done h C (writer h k) (whole_rule h s k).effects (whole_rule h t j).effects (its-words h s f k ck ∙ w.0 ∙ sym (its-words h t g j cj))
      (its-bytes h s f k ck ∙ w.1 ∙ sym (its-bytes h t g j cj)) own.0 s t (sized h s f) (sized h t g) a)

-- ---- remaining calls

-- what a remaining call says of its caller
pub inside : (h : List ℕ) (C : ℕ → Bool) (k : Call) → stays h C k ≡ true → k.caller < slots h process → C (cell_of h process k.caller) ≡ true
unfolding stays
inside h C k e l = sym (cond-true (ltb k.caller (slots h process)) (C (cell_of h process k.caller)) true (lt-ltb k.caller (slots h process) l)) ∙ e

-- an effect that is none
abbrev nothing : Effect
nothing = effect 0 0 [] [] []

module _ (h : List ℕ) (C : ℕ → Bool) (cl : Closed h C) (s t : State) (f : WellUnder h s) (g : WellUnder h t) (a : AgreeAt h C s t) (k : Call) (m : stays h C k ≡ true) where
  pub viewed : k.caller < slots h process → View h k.caller C (rd h s.table) (rd h t.table)
  viewed l = record {
    here = record { shape = shaped h s f; there = l; reaching = is-reaching h (rd h s.table) (recorded h s f) };
    closed = cl;
    within = inside h C k m l;
    seen = a.records;
  }

  pub same-caller : bad_caller h (rd h s.table) k.caller ≡ bad_caller h (rd h t.table) k.caller
  unfolding bad_caller
  same-caller = split _ (leb (slots h process) k.caller) (λ e. rw e) (λ e. rw (e, same-me (viewed (leb-false (slots h process) k.caller e)) live refl))

  -- what comes before a call's own list is alike
  alike-first : (x y : Rule) → (bad_caller h (rd h s.table) k.caller ≡ false → Alike h C x y)
      → Alike h C
      (rule ((not (test (well_formed s.table (length s.store))) ⇒ XbTab) ∷ (bad_caller h (rd h s.table) k.caller ⇒ XbPrSd) ∷
      (bad_code k.code ⇒ XbdKcl) ∷ x.refusals) x.effects)
      (rule ((not (test (well_formed t.table (length t.store))) ⇒ XbTab) ∷ (bad_caller h (rd h t.table) k.caller ⇒ XbPrSd) ∷
      (bad_code k.code ⇒ XbdKcl) ∷ y.refusals) y.effects)
  alike-first x y own =
      let one : not (test (well_formed s.table (length s.store))) ≡ not (test (well_formed t.table (length t.store))) =
      rw (tested (well_formed s.table (length s.store)) f.formed, tested (well_formed t.table (length t.store)) g.formed) in
      alike-test refl one (λ e. alike-test refl same-caller (λ b. alike-test refl refl (λ c. own b)))

  -- a call that is no regrade, or names a cell of the set, or none
  alike-whole : (k.code ≡ regrade_code → k.b < cells h → C k.b ≡ true) → Alike h C (whole_rule h s k) (whole_rule h t k)
  unfolding whole_rule
  alike-whole i = alike-first (rule_of h (rd h s.table) s.store k) (rule_of h (rd h t.table) t.store k) (λ b.
      alike-code k (viewed (in_table h s f k b)) (recorded h s f) s.store t.store ((sized h s f).bytes ∙ sym (sized h t g).bytes) a.stretches i)

  remains-alike : (k.code ≡ regrade_code → k.b < cells h → C k.b ≡ true) → (reply s k ≡ reply t k) × AgreeAt h C (next s k) (next t k)
  unfolding reply
  remains-alike i =
      let x = both h C (alike-whole i) (up-whole h s f k) (up-whole h t g k) s t k.buffer (sized h s f) (sized h t g) a in
      rw (next, step_is h s f k, step_is h t g k) (rw (x.0, x.1), x.2)

  -- a regrade that asks about no cell is refused in both, with one number
  unasked : first_refusal (earlier h s f k ++ (true ⇒ XnoSpace) ∷ []) ≡ first_refusal (earlier h t g k ++ (true ⇒ XnoSpace) ∷ [])
  unasked = same-refusal (alike-first (rule (barred h (rd h s.table) k.caller k.a k.b k.c k.buffer ++ (true ⇒ XnoSpace) ∷ []) nothing)
      (rule (barred h (rd h t.table) k.caller k.a k.b k.c k.buffer ++ (true ⇒ XnoSpace) ∷ []) nothing)
      (λ b. alike-unasked (viewed (in_table h s f k b)) k.a k.b k.c k.buffer nothing))

  refused-alike : k.code ≡ regrade_code → (first_refusal (whole_rule h s k).refusals ≡ XOK → ⊥) → (first_refusal (whole_rule h s k).refusals ≡ XnoSpace → ⊥)
      → first_refusal (whole_rule h s k).refusals ≡ first_refusal (whole_rule h t k).refusals
  refused-alike c z o =
      let ws = whole_is h s f k c in
      let wt = whole_is h t g k c in
      let ls = last-unasked (earlier h s f k) (no_slot h (rd h s.table) file k.b) true XnoSpace (rw ws at z) (rw ws at o) in
      let same = ap first_refusal ws ∙ ls ∙ unasked in
      let lt = last-unasked (earlier h t g k) true (no_slot h (rd h t.table) file k.b) XnoSpace (λ e. z (same ∙ e)) (λ e. o (same ∙ e)) in
      same ∙ lt ∙ ap first_refusal (sym wt)

  remains-refused : k.code ≡ regrade_code → (first_refusal (whole_rule h s k).refusals ≡ XOK → ⊥) → (first_refusal (whole_rule h s k).refusals ≡ XnoSpace → ⊥)
      → (reply s k ≡ reply t k) × AgreeAt h C (next s k) (next t k)
  unfolding reply
  remains-refused c z o =
      let n = first_refusal (whole_rule h s k).refusals in
      let nz : eqb n 0 ≡ false = ne_eqb n 0 z in
      let es = step_is h s f k ∙ refuses h s k.buffer (whole_rule h s k) n refl nz in
      let et = step_is h t g k ∙ refuses h t k.buffer (whole_rule h t k) n (sym (refused-alike c z o)) nz in
      rw (next, es, et) (refl, a)

  -- a call that remains: a regrade must ask about no cell outside the set
  pub remains : (asks s k ≡ true → C k.b ≡ true) → (reply s k ≡ reply t k) × AgreeAt h C (next s k) (next t k)
  unfolding asks
  remains i = split _ (asks s k)
      (λ e. remains-alike (λ c l. i e))
      (λ e. split _ (eqb k.code regrade_code)
      (λ c.
      let n : ℕ = (step s k).answered.error in
      let x : eqb n XOK || eqb n XnoSpace ≡ false = rw c at e in
      remains-refused (eqb-true _ _ c)
      (λ z. eqb-false n XOK (or_left (eqb n XOK) (eqb n XnoSpace) x) (error-first h s f k ∙ z))
      (λ z. eqb-false n XnoSpace (or_right (eqb n XOK) (eqb n XnoSpace) x) (error-first h s f k ∙ z)))
      (λ n. remains-alike (λ c l. both_ways (eqb k.code regrade_code) (eq-eqb _ _ c) n)))
