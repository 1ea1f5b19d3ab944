-- "A refusal gives two zeros and changes no word, byte or buffer. Only a successful 13, 16 or 17 changes the buffer." A call succeeds exactly when none of its
-- refusals holds, and is answered with the number of the first that does. All this of every state, well formed or not, and of every call.
use mathlib.Core.Path.{◌≡◌, refl, sym, ap, ◌∙◌}
use mathlib.Core.Bool.{true, false, cond, ◌||◌, not}
use mathlib.Core.List.{List, [], ◌∷◌}
use Prim.Native.Nat.{ℕ, ◌<◌}
use native.Mathlib.Decide.{ℕ_discrete}
use lib.Dec.{leb, eqb}
use lib.ListN.{length}
use borrow.Author.Tests.{eqb-true, eqb-false, eq-eqb, lt-leb}
use Rattle.rules.specs.Claim.{Holds, test}
use Rattle.rules.specs.Layout.{Kind, process, segment, file, slots, configuration, Addr, at, rd, live}
use Rattle.rules.specs.WellFormed.{well_formed}
use Rattle.rules.specs.Errors.{XOK}
use Rattle.rules.specs.Rule.{Refusal, Rule, Effect, effect, first_refusal, write, store}
use Rattle.rules.specs.Step.{State, Call, Answer, answer, Outcome, bad_caller, bad_code, rule_of, whole_rule, carried_out, step}
use Rattle.rules.specs.Call01.{spawn}
use Rattle.rules.specs.Call02.{release_process}
use Rattle.rules.specs.Call03.{build_segment}
use Rattle.rules.specs.Call04.{rendezvous}
use Rattle.rules.specs.Call05.{release_segment}
use Rattle.rules.specs.Call06.{set_access}
use Rattle.rules.specs.Call07.{create}
use Rattle.rules.specs.Call08.{open_file, open_subtype}
use Rattle.rules.specs.Call09.{close}
use Rattle.rules.specs.Call10.{link}
use Rattle.rules.specs.Call11.{unlink}
use Rattle.rules.specs.Call13.{read_block}
use Rattle.rules.specs.Call14.{write_block}
use Rattle.rules.specs.Call15.{post}
use Rattle.rules.specs.Call16.{receive}
use Rattle.rules.specs.Call17.{status_of}
use Rattle.rules.specs.Call18.{access_of}
use Rattle.rules.specs.Call19.{remap}
use Rattle.rules.specs.Call20.{page_access}
use Rattle.rules.specs.Call21.{regrade}
use Rattle.laws.proofs.Tests.{cond-true, cond-false, cond_both, split}
use Rattle.laws.proofs.Claims.{tested}
use Rattle.laws.proofs.Refusals.{Clear, numbered, clear}
use Rattle.kept.proofs.Keep12.{bits-numbered}
use Rattle.laws.proofs.Subtypes.{by-opened}
use Rattle.laws.proofs.Codes.{by_code, by_bits, by-status}

-- the refusals of a call in their order, those of all calls first; and what it does where none of them holds
abbrev pub refusals : State → Call → List Refusal
refusals s k = (whole_rule (configuration s.table) s k).refusals

abbrev pub effects : State → Call → Effect
effects s k = (whole_rule (configuration s.table) s k).effects

-- the whole answer: success with the rule's two results, or the first refusal's number and two zeros
abbrev pub ruled : State → Call → Answer
ruled s k =
    cond (eqb (first_refusal (refusals s k)) 0) (answer XOK (effects s k).first (effects s k).second) (answer (first_refusal (refusals s k)) 0 0)

-- two zeros, and everything as it was
pub record Untouched (s : State) (k : Call) (o : Outcome) : Type 0 where
  pub first : o.answered.first ≡ 0
  pub second : o.answered.second ≡ 0
  pub state : o.state ≡ s
  pub buffer : o.buffer ≡ k.buffer

-- success, and what the rule says
pub record Done (s : State) (k : Call) (o : Outcome) : Type 0 where
  pub error : o.answered.error ≡ XOK
  pub first : o.answered.first ≡ (effects s k).first
  pub second : o.answered.second ≡ (effects s k).second
  pub table : o.state.table ≡ write (configuration s.table) s.table (effects s k).words
  pub store : o.state.store ≡ store (configuration s.table) s.store (effects s k).bytes
  pub buffer : o.buffer ≡ (effects s k).buffer

pub none-holds : (xs : List Refusal) → Clear xs → first_refusal xs ≡ 0
none-holds [] c = refl
none-holds (x ∷ xs) c = cond-false x.test x.number (first_refusal xs) c.0 ∙ none-holds xs c.1

module _ (s : State) (k : Call) where
  abbrev conf : List ℕ
  conf = configuration s.table

  abbrev reading : Addr → ℕ
  reading = rd (configuration s.table) s.table

  -- the number answered is that of the first refusal that holds
  pub answered : (step s k).answered.error ≡ first_refusal (refusals s k)
  unfolding step carried_out
  answered = cond_both (λ (o : Outcome). o.answered.error ≡ first_refusal (refusals s k)) (eqb (first_refusal (refusals s k)) 0) _ _
      (λ e. sym (eqb-true _ 0 e)) (λ e. refl)

  pub answered-whole : (step s k).answered ≡ ruled s k
  unfolding step carried_out
  answered-whole = split _ (eqb (first_refusal (refusals s k)) 0) (λ e. rw e) (λ e. rw e)

  -- "A refusal gives two zeros and changes no word, byte or buffer."
  pub refused : ((step s k).answered.error ≡ XOK → ⊥) → Untouched s k (step s k)
  unfolding step carried_out
  refused n = split _ (eqb (first_refusal (refusals s k)) 0)
      (λ e. absurd (n (answered ∙ eqb-true _ 0 e)))
      (λ e. rw (cond-false (eqb (first_refusal (refusals s k)) 0) _ _ e) (record { first = refl; second = refl; state = refl; buffer = refl }))

  -- without a refusal the rule is carried out
  pub done : (step s k).answered.error ≡ XOK → Done s k (step s k)
  unfolding step carried_out
  done x = split _ (eqb (first_refusal (refusals s k)) 0)
      (λ e. rw (cond-true (eqb (first_refusal (refusals s k)) 0) _ _ e)
      (record { error = refl; first = refl; second = refl; table = refl; store = refl; buffer = refl }))
      (λ e. absurd (eqb-false _ 0 e (sym answered ∙ x)))

  -- a rule that says nothing
  pub nothing-done : (step s k).answered.error ≡ XOK → effects s k ≡ effect 0 0 k.buffer [] [] → Untouched s k (step s k)
  nothing-done x e =
      let d = done x in
      let t : (step s k).state.table ≡ s.table = d.table ∙ ap (λ (x : Effect). write (configuration s.table) s.table x.words) e in
      let u : (step s k).state.store ≡ s.store = d.store ∙ ap (λ (x : Effect). store (configuration s.table) s.store x.bytes) e in
      record {
        first = d.first ∙ ap (λ (x : Effect). x.first) e;
        second = d.second ∙ ap (λ (x : Effect). x.second) e;
        state = λ i. record { table = t i; store = u i };
        buffer = d.buffer ∙ ap (λ (x : Effect). x.buffer) e;
      }

  -- ---- success

  -- every refusal has a number
  all-numbered : numbered (refusals s k) ≡ true
  unfolding whole_rule spawn release_process build_segment rendezvous release_segment set_access create open_file open_subtype close link unlink read_block write_block post receive access_of remap page_access regrade
  all-numbered =
      let P : Rule → Type 0 = λ x. numbered x.refusals ≡ true in
      by_code conf k (λ f. P (f reading s.store)) (record {
        call-1 = λ e. refl;
        call-2 = λ e. refl;
        call-3 = λ e. refl;
        call-4 = λ e. refl;
        call-5 = λ e. refl;
        call-6 = λ e. refl;
        call-7 = λ e. refl;
        call-8 = λ e. by-opened conf reading k.caller k.a k.b k.c k.buffer P (λ t. refl) (λ t. refl);
        call-9 = λ e. refl;
        call-10 = λ e. refl;
        call-11 = λ e. refl;
        call-12 = λ e. by_bits conf reading k P (bits-numbered conf reading k.caller k.b k.buffer);
        call-13 = λ e. refl;
        call-14 = λ e. refl;
        call-15 = λ e. refl;
        call-16 = λ e. refl;
        call-17 = λ e. by-status conf reading k P for-status;
        call-18 = λ e. refl;
        call-19 = λ e. refl;
        call-20 = λ e. refl;
        call-21 = λ e. refl;
        other = refl;
      })
    where
      for-status : (v : ℕ) (j : Kind) → numbered (status_of conf reading k.caller v k.buffer j).refusals ≡ true
      for-status v process = refl
      for-status v segment = refl
      for-status v file = refl

  -- a call succeeds exactly when no test of its refusals holds
  pub no-refusal-holds : (step s k).answered.error ≡ XOK → Clear (refusals s k)
  no-refusal-holds e = clear (refusals s k) all-numbered (sym answered ∙ e)

  pub succeeds : Clear (refusals s k) → (step s k).answered.error ≡ XOK
  succeeds c = answered ∙ none-holds (refusals s k) c

  -- ---- the buffer

  own-buffer : (k.code ≡ 13 → ⊥) → (k.code ≡ 16 → ⊥) → (k.code ≡ 17 → ⊥) → (effects s k).buffer ≡ k.buffer
  unfolding whole_rule spawn release_process build_segment rendezvous release_segment set_access create open_file open_subtype close link unlink write_block post access_of remap page_access regrade
  own-buffer a b c =
      let P : Rule → Type 0 = λ x. x.effects.buffer ≡ k.buffer in
      by_code conf k (λ f. P (f reading s.store)) (record {
        call-1 = λ e. refl;
        call-2 = λ e. refl;
        call-3 = λ e. refl;
        call-4 = λ e. refl;
        call-5 = λ e. refl;
        call-6 = λ e. refl;
        call-7 = λ e. refl;
        call-8 = λ e. by-opened conf reading k.caller k.a k.b k.c k.buffer P (λ t. refl) (λ t. refl);
        call-9 = λ e. refl;
        call-10 = λ e. refl;
        call-11 = λ e. refl;
        call-12 = λ e. by_bits conf reading k P (λ v j. refl);
        call-13 = λ e. absurd (a e);
        call-14 = λ e. refl;
        call-15 = λ e. refl;
        call-16 = λ e. absurd (b e);
        call-17 = λ e. absurd (c e);
        call-18 = λ e. refl;
        call-19 = λ e. refl;
        call-20 = λ e. refl;
        call-21 = λ e. refl;
        other = refl;
      })

  -- "Only a successful 13, 16 or 17 changes the buffer."
  pub same-buffer : (k.code ≡ 13 → ⊥) → (k.code ≡ 16 → ⊥) → (k.code ≡ 17 → ⊥) → (step s k).buffer ≡ k.buffer
  same-buffer a b c = elim (ℕ_discrete (step s k).answered.error XOK) [
    | yes e ↦ (done e).buffer ∙ own-buffer a b c
    | no n ↦ (refused n).buffer
  ]

  -- ---- the call's own list, behind "1 table or length bad; 2 caller out of range or not live; 3 code not 1..21"

  abbrev pub own : Rule
  own = rule_of (configuration s.table) (rd (configuration s.table) s.table) s.store k

  pub own-clear : (step s k).answered.error ≡ XOK → Clear own.refusals
  unfolding whole_rule
  own-clear e = (no-refusal-holds e).1.1.1

  pub goes_on : Holds (well_formed s.table (length s.store)) → k.caller < slots conf process → reading (at process k.caller live) ≡ 1
      → bad_code k.code ≡ false → Clear own.refusals → (step s k).answered.error ≡ XOK
  unfolding whole_rule bad_caller
  goes_on w l a c x =
      let t : not (test (well_formed s.table (length s.store))) ≡ false = rw (tested (well_formed s.table (length s.store)) w) in
      let m : leb (slots conf process) k.caller || not (eqb (reading (at process k.caller live)) 1) ≡ false =
      rw (lt-leb (slots conf process) k.caller l, eq-eqb (reading (at process k.caller live)) 1 a) in
      succeeds (t, (m, (c, x)))
