-- Each code has its rule, and the whole call is the rule of its code once the table, the caller and the code are good.
use mathlib.Core.Path.{◌≡◌, refl, sym, ap, ◌∙◌}
use mathlib.Core.Bool.{true, false}
use mathlib.Core.List.{List, []}
use Prim.Native.Nat.{ℕ}
use lib.Dec.{eqb}
use lib.ListN.{length}
use Rattle.rules.specs.Claim.{test}
use Rattle.rules.specs.Layout.{Addr, process, segment, file, configuration, rd}
use Rattle.rules.specs.Seid.{class, class_of, or_self, is_subtype}
use Rattle.rules.specs.WellFormed.{well_formed}
use Rattle.rules.specs.Errors.{XnSgDes, XbSgDes, XbadOd}
use Rattle.rules.specs.Rule.{Refusal, Rule, rule, first_refusal}
use Rattle.rules.specs.Call01.{spawn}
use Rattle.rules.specs.Call02.{release_process}
use Rattle.rules.specs.Call03.{build_segment}
use Rattle.rules.specs.Call04.{rendezvous}
use Rattle.rules.specs.Call05.{release_segment}
use Rattle.rules.specs.Call06.{set_access}
use Rattle.rules.specs.Call07.{create}
use Rattle.rules.specs.Call08.{open_file, open_subtype, open_seid}
use Rattle.rules.specs.Call09.{close}
use Rattle.rules.specs.Call10.{link}
use Rattle.rules.specs.Call11.{unlink}
use Rattle.rules.specs.Call12.{set_bits}
use Rattle.rules.specs.Call13.{read_block}
use Rattle.rules.specs.Call14.{write_block}
use Rattle.rules.specs.Call15.{post}
use Rattle.rules.specs.Call16.{receive}
use Rattle.rules.specs.Call17.{status}
use Rattle.rules.specs.Call18.{access_of}
use Rattle.rules.specs.Call19.{remap}
use Rattle.rules.specs.Call20.{page_access}
use Rattle.rules.specs.Call21.{regrade}
use Rattle.rules.specs.Step.{regrade_code, rule_of, bad_caller, bad_code, carried_out, whole_rule, step}
use Rattle.laws.proofs.Tests.{split}
use Rattle.calls.specs.declared.Answer.{Answer}
use Rattle.calls.specs.Left.{said, rule_at, answer_of, table_of, store_of, buffer_of, Left}
use Rattle.calls.specs.Blocks.{ReadLeft, WriteLeft}
use Rattle.calls.specs.Regrade.{RegradeLeft}
use Rattle.calls.specs.Calls.{give_up_rule}
use Rattle.calls.specs.Did.{state_of, call_of, rule_answer, Did, Through, rule_in, Plain}
use Rattle.calls.proofs.Leaves.{left-same}

-- the rule of a code that is n
coded : (t s : List ℕ) (p a b c : ℕ) (buffer : List ℕ) {code n : ℕ} → code ≡ n → rule_in t s p code a b c buffer ≡ rule_in t s p n a b c buffer
coded t s p a b c buffer e = ap (λ (n : ℕ). rule_in t s p n a b c buffer) e

-- a rule that writes words alone
plain_by : (t : List ℕ) (p code a b c : ℕ) {r : Answer} {t' : List ℕ} (s buffer : List ℕ) (f : List ℕ → (Addr → ℕ) → Rule)
    → rule_in t s p code a b c buffer ≡ rule_at t f → (rule_at t f).effects.bytes ≡ [] → (rule_at t f).effects.buffer ≡ buffer → Left t f r t'
    → Plain t p code a b c r t' s buffer
plain_by t p code a b c s buffer f e x y l = record {
  left = left-same t f (λ h q. rule_of h q s (call_of p code a b c buffer)) (sym e) l;
  bytes = ap (λ (k : Rule). k.effects.bytes) e ∙ x;
  same = ap (λ (k : Rule). k.effects.buffer) e ∙ y;
}

-- call 12's rule is one of three, by the seid's class
bits-plain : (h : List ℕ) (q : Addr → ℕ) (p a b : ℕ) (buffer : List ℕ) → ((set_bits h q p a b buffer).effects.bytes ≡ []) × ((set_bits h q p a b buffer).effects.buffer ≡ buffer)
unfolding set_bits
bits-plain h q p a b buffer =
    split _ (eqb (class_of (or_self q p a)) (class process)) (λ e. rw e (refl, refl)) (λ f. split _ (eqb (class_of (or_self q p a)) (class segment))
    (λ e. rw (f, e) (refl, refl)) (λ e. rw (f, e) (refl, refl)))

-- and call 8's one of two
open_plain : (h : List ℕ) (q : Addr → ℕ) (p a b c : ℕ) (buffer : List ℕ) → ((open_seid h q p a b c buffer).effects.bytes ≡ []) × ((open_seid h q p a b c buffer).effects.buffer ≡ buffer)
unfolding open_seid open_subtype open_file
open_plain h q p a b c buffer = split _ (is_subtype (or_self q p a)) (λ e. rw e (refl, refl)) (λ e. rw e (refl, refl))

module _ (t : List ℕ) (p code a b c : ℕ) {r : Answer} {t' : List ℕ} where
  pub plain-1 : code ≡ 1 → ((buffer : List ℕ) → Left t (λ h q. spawn h q p a b c buffer) r t') → (s buffer : List ℕ) → Plain t p code a b c r t' s buffer
  unfolding rule_of spawn
  plain-1 e l s buffer =
      plain_by t p code a b c s buffer (λ h q. spawn h q p a b c buffer) (coded t s p a b c buffer e) refl refl (l buffer)

  pub plain-2 : code ≡ 2 → ((buffer : List ℕ) → Left t (λ h q. release_process h q p a buffer) r t') → (s buffer : List ℕ) → Plain t p code a b c r t' s buffer
  unfolding rule_of release_process
  plain-2 e l s buffer =
      plain_by t p code a b c s buffer (λ h q. release_process h q p a buffer) (coded t s p a b c buffer e) refl refl (l buffer)

  pub plain-3 : code ≡ 3 → ((buffer : List ℕ) → Left t (λ h q. build_segment h q p a b c buffer) r t') → (s buffer : List ℕ) → Plain t p code a b c r t' s buffer
  unfolding rule_of build_segment
  plain-3 e l s buffer =
      plain_by t p code a b c s buffer (λ h q. build_segment h q p a b c buffer) (coded t s p a b c buffer e) refl refl (l buffer)

  pub plain-4 : code ≡ 4 → ((buffer : List ℕ) → Left t (λ h q. rendezvous h q p a b buffer) r t') → (s buffer : List ℕ) → Plain t p code a b c r t' s buffer
  unfolding rule_of rendezvous
  plain-4 e l s buffer =
      plain_by t p code a b c s buffer (λ h q. rendezvous h q p a b buffer) (coded t s p a b c buffer e) refl refl (l buffer)

  pub plain-5 : code ≡ 5 → ((buffer : List ℕ) → Left t (λ h q. give_up_rule h q segment p a XnSgDes XbSgDes buffer) r t') → (s buffer : List ℕ)
      → Plain t p code a b c r t' s buffer
  unfolding rule_of release_segment
  plain-5 e l s buffer =
      plain_by t p code a b c s buffer (λ h q. give_up_rule h q segment p a XnSgDes XbSgDes buffer) (coded t s p a b c buffer e) refl refl (l buffer)

  pub plain-6 : code ≡ 6 → ((buffer : List ℕ) → Left t (λ h q. set_access h q p a b buffer) r t') → (s buffer : List ℕ) → Plain t p code a b c r t' s buffer
  unfolding rule_of set_access
  plain-6 e l s buffer =
      plain_by t p code a b c s buffer (λ h q. set_access h q p a b buffer) (coded t s p a b c buffer e) refl refl (l buffer)

  pub plain-7 : code ≡ 7 → ((buffer : List ℕ) → Left t (λ h q. create h q p a b c buffer) r t') → (s buffer : List ℕ) → Plain t p code a b c r t' s buffer
  unfolding rule_of create
  plain-7 e l s buffer =
      plain_by t p code a b c s buffer (λ h q. create h q p a b c buffer) (coded t s p a b c buffer e) refl refl (l buffer)

  pub plain-8 : code ≡ 8 → ((buffer : List ℕ) → Left t (λ h q. open_seid h q p a b c buffer) r t') → (s buffer : List ℕ) → Plain t p code a b c r t' s buffer
  unfolding rule_of open_seid
  plain-8 e l s buffer =
      plain_by t p code a b c s buffer (λ h q. open_seid h q p a b c buffer) (coded t s p a b c buffer e)
      (open_plain (configuration t) (rd (configuration t) t) p a b c buffer).0 (open_plain (configuration t) (rd (configuration t) t) p a b c buffer).1 (l buffer)

  pub plain-9 : code ≡ 9 → ((buffer : List ℕ) → Left t (λ h q. give_up_rule h q file p a XbadOd XbadOd buffer) r t') → (s buffer : List ℕ) → Plain t p code a b c r t' s buffer
  unfolding rule_of close
  plain-9 e l s buffer =
      plain_by t p code a b c s buffer (λ h q. give_up_rule h q file p a XbadOd XbadOd buffer) (coded t s p a b c buffer e) refl refl (l buffer)

  pub plain-10 : code ≡ 10 → ((buffer : List ℕ) → Left t (λ h q. link h q p a buffer) r t') → (s buffer : List ℕ) → Plain t p code a b c r t' s buffer
  unfolding rule_of link
  plain-10 e l s buffer =
      plain_by t p code a b c s buffer (λ h q. link h q p a buffer) (coded t s p a b c buffer e) refl refl (l buffer)

  pub plain-11 : code ≡ 11 → ((buffer : List ℕ) → Left t (λ h q. unlink h q p a buffer) r t') → (s buffer : List ℕ) → Plain t p code a b c r t' s buffer
  unfolding rule_of unlink
  plain-11 e l s buffer =
      plain_by t p code a b c s buffer (λ h q. unlink h q p a buffer) (coded t s p a b c buffer e) refl refl (l buffer)

  pub plain-12 : code ≡ 12 → ((buffer : List ℕ) → Left t (λ h q. set_bits h q p a b buffer) r t') → (s buffer : List ℕ) → Plain t p code a b c r t' s buffer
  unfolding rule_of set_bits
  plain-12 e l s buffer =
      plain_by t p code a b c s buffer (λ h q. set_bits h q p a b buffer) (coded t s p a b c buffer e)
      (bits-plain (configuration t) (rd (configuration t) t) p a b buffer).0 (bits-plain (configuration t) (rd (configuration t) t) p a b buffer).1 (l buffer)

  pub plain-18 : code ≡ 18 → ((buffer : List ℕ) → Left t (λ h q. access_of h q p a buffer) r t') → (s buffer : List ℕ) → Plain t p code a b c r t' s buffer
  unfolding rule_of access_of
  plain-18 e l s buffer =
      plain_by t p code a b c s buffer (λ h q. access_of h q p a buffer) (coded t s p a b c buffer e) refl refl (l buffer)

  pub plain-19 : code ≡ 19 → ((buffer : List ℕ) → Left t (λ h q. remap h q p a b c buffer) r t') → (s buffer : List ℕ) → Plain t p code a b c r t' s buffer
  unfolding rule_of remap
  plain-19 e l s buffer =
      plain_by t p code a b c s buffer (λ h q. remap h q p a b c buffer) (coded t s p a b c buffer e) refl refl (l buffer)

  pub plain-20 : code ≡ 20 → ((buffer : List ℕ) → Left t (λ h q. page_access h q p a buffer) r t') → (s buffer : List ℕ) → Plain t p code a b c r t' s buffer
  unfolding rule_of access_of page_access
  plain-20 e l s buffer =
      plain_by t p code a b c s buffer (λ h q. page_access h q p a buffer) (coded t s p a b c buffer e) refl refl (l buffer)

-- ---- from a plain call to the whole

store-plain : (h s : List ℕ) (k : Rule) → k.effects.bytes ≡ [] → s ≡ store_of h s k
unfolding store_of
store-plain h s k e = split _ (eqb (first_refusal k.refusals) 0) (λ q. rw (q, e)) (λ q. rw q)

table-plain : (h t : List ℕ) (k : Rule) → k.effects.words ≡ [] → t ≡ table_of h t k
unfolding table_of
table-plain h t k e = split _ (eqb (first_refusal k.refusals) 0) (λ q. rw (q, e)) (λ q. rw q)

-- call 17's rule is one of three, none of which writes
told-plain : (h : List ℕ) (q : Addr → ℕ) (p a : ℕ) (buffer : List ℕ) → ((status h q p a buffer).effects.words ≡ []) × ((status h q p a buffer).effects.bytes ≡ [])
unfolding status
told-plain h q p a buffer = split _ (eqb (class_of (or_self q p a)) (class process)) (λ e. rw e (refl, refl))
    (λ e. rw e (split _ (eqb (class_of (or_self q p a)) (class segment)) (λ f. rw f (refl, refl)) (λ f. rw f (refl, refl))))

buffer-plain : (b : List ℕ) (k : Rule) → k.effects.buffer ≡ b → b ≡ buffer_of b k
unfolding buffer_of
buffer-plain b k e = split _ (eqb (first_refusal k.refusals) 0) (λ q. rw (q, e)) (λ q. rw q)

pub plain-through : {t : List ℕ} {p code a b c : ℕ} {r : Answer} {t' : List ℕ} (s buffer : List ℕ) → Plain t p code a b c r t' s buffer
    → Through t s buffer (rule_in t s p code a b c buffer) r t' s buffer
plain-through {t} {p} {code} {a} {b} {c} s buffer x = record {
  answer = x.left.answer;
  table = x.left.table;
  store = store-plain (configuration t) s (rule_in t s p code a b c buffer) x.bytes;
  buffer = buffer-plain buffer (rule_in t s p code a b c buffer) x.same;
}

-- ---- the whole call

-- a rule carried out, with other refusals of the same first number
carried : (t s b : List ℕ) (k : Rule) (rs : List Refusal) {r : Answer} {t' s' b' : List ℕ} → first_refusal rs ≡ first_refusal k.refusals → Through t s b k r t' s' b'
    → Did (carried_out (configuration t) (state_of t s) b (rule rs k.effects)) r t' s' b'
unfolding carried_out answer_of table_of store_of buffer_of
carried t s b k rs e x = split _ (eqb (first_refusal k.refusals) 0)
    (λ q. rw (e, q) (record { answered = ap rule_answer (rw q at x.answer); table = rw q at x.table; store = rw q at x.store; buffer = rw q at x.buffer }))
    (λ q. rw (e, q) (record { answered = ap rule_answer (rw q at x.answer); table = rw q at x.table; store = rw q at x.store; buffer = rw q at x.buffer }))

module _ (t s : List ℕ) (p code a b c : ℕ) (buffer : List ℕ) where
  -- refused with 1, 2 or 3
  pub bad-table : {r : Answer} → test (well_formed t (length s)) ≡ false → r ≡ said 1 0 0 → Did (step (state_of t s) (call_of p code a b c buffer)) r t s buffer
  unfolding step whole_rule carried_out
  bad-table e re = rw e (record { answered = ap rule_answer re; table = refl; store = refl; buffer = refl })

  module _ (good : test (well_formed t (length s)) ≡ true) where
    pub bad-caller : {r : Answer} → bad_caller (configuration t) (rd (configuration t) t) p ≡ true → r ≡ said 2 0 0
        → Did (step (state_of t s) (call_of p code a b c buffer)) r t s buffer
    unfolding step whole_rule carried_out
    bad-caller e re = rw (good, e) (record { answered = ap rule_answer re; table = refl; store = refl; buffer = refl })

    module _ (there : bad_caller (configuration t) (rd (configuration t) t) p ≡ false) where
      pub bad-code : {r : Answer} → bad_code code ≡ true → r ≡ said 3 0 0 → Did (step (state_of t s) (call_of p code a b c buffer)) r t s buffer
      unfolding step whole_rule carried_out
      bad-code e re = rw (good, there, e) (record { answered = ap rule_answer re; table = refl; store = refl; buffer = refl })

      pub done : {r : Answer} {t' s' b' : List ℕ} → bad_code code ≡ false → Through t s buffer (rule_in t s p code a b c buffer) r t' s' b'
          → Did (step (state_of t s) (call_of p code a b c buffer)) r t' s' b'
      unfolding step whole_rule
      done e x = carried t s buffer (rule_in t s p code a b c buffer) _ (rw (good, there, e)) x

-- ---- the calls that look at the store or the buffer

module _ (t s : List ℕ) (p code a b c : ℕ) (buffer : List ℕ) {r : Answer} where
  through-by : {t' s' b' : List ℕ} (k : Rule) → rule_in t s p code a b c buffer ≡ k → r ≡ answer_of k → t' ≡ table_of (configuration t) t k
      → s' ≡ store_of (configuration t) s k → b' ≡ buffer_of buffer k → Through t s buffer (rule_in t s p code a b c buffer) r t' s' b'
  through-by k e x y z v = record {
    answer = x ∙ ap answer_of (sym e);
    table = y ∙ ap (table_of (configuration t) t) (sym e);
    store = z ∙ ap (store_of (configuration t) s) (sym e);
    buffer = v ∙ ap (buffer_of buffer) (sym e);
  }

  pub through-13 : {b' : List ℕ} → code ≡ 13 → ReadLeft t s p a b buffer r b' → Through t s buffer (rule_in t s p code a b c buffer) r t s b'
  unfolding rule_of
  through-13 e x =
      let k = read_block (configuration t) (rd (configuration t) t) s p a b buffer in
      through-by k (coded t s p a b c buffer e) x.left.answer x.left.table x.store x.buffer

  pub through-14 : {t' s' : List ℕ} → code ≡ 14 → WriteLeft t s p a b buffer r t' s' → Through t s buffer (rule_in t s p code a b c buffer) r t' s' buffer
  unfolding rule_of
  through-14 e x =
      let k = write_block (configuration t) (rd (configuration t) t) p a b buffer in
      through-by k (coded t s p a b c buffer e) x.left.answer x.left.table x.store x.buffer

  pub through-15 : {t' : List ℕ} → code ≡ 15 → Left t (λ h q. post h q p a buffer) r t' → Through t s buffer (rule_in t s p code a b c buffer) r t' s buffer
  unfolding rule_of post
  through-15 e x =
      let k = post (configuration t) (rd (configuration t) t) p a buffer in
      through-by k (coded t s p a b c buffer e) x.answer x.table (store-plain (configuration t) s k refl)
      (buffer-plain buffer k refl)

  pub through-16 : {t' b' : List ℕ} → code ≡ 16 → Left t (λ h q. receive h q p buffer) r t' × (b' ≡ buffer_of buffer (rule_at t (λ h q. receive h q p buffer)))
      → Through t s buffer (rule_in t s p code a b c buffer) r t' s b'
  unfolding rule_of receive
  through-16 e x =
      let k = receive (configuration t) (rd (configuration t) t) p buffer in
      through-by k (coded t s p a b c buffer e) x.0.answer x.0.table (store-plain (configuration t) s k refl) x.1

  pub through-17 : {b' : List ℕ} → code ≡ 17 → (r ≡ answer_of (rule_at t (λ h q. status h q p a buffer))) × (b' ≡ buffer_of buffer (rule_at t (λ h q. status h q p a buffer)))
      → Through t s buffer (rule_in t s p code a b c buffer) r t s b'
  unfolding rule_of
  through-17 e x =
      let k = status (configuration t) (rd (configuration t) t) p a buffer in
      through-by k (coded t s p a b c buffer e) x.0 (table-plain (configuration t) t k (told-plain (configuration t) (rd (configuration t) t) p a buffer).0)
      (store-plain (configuration t) s k (told-plain (configuration t) (rd (configuration t) t) p a buffer).1) x.1

  pub through-21 : {t' s' : List ℕ} → code ≡ regrade_code → RegradeLeft t s p a b c buffer r t' s' → Through t s buffer (rule_in t s p code a b c buffer) r t' s' buffer
  unfolding rule_of
  through-21 e x =
      let k = regrade (configuration t) (rd (configuration t) t) s p a b c buffer in
      through-by k (coded t s p a b c buffer e) x.left.answer x.left.table x.store x.buffer
