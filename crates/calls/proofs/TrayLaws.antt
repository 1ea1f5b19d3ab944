-- Calls by the tray, on plain values: what judging a tray hands on, and the two ways through one record.
use mathlib.Core.Path.{◌≡◌, refl, sym, ap, ap₂, ◌∙◌}
use mathlib.Core.Bool.{Bool, true, false, cond}
use mathlib.Core.List.{List, [], ◌++◌}
use Prim.Native.Nat.{ℕ, ◌+◌, ◌-◌, ◌≤◌, ◌<◌}
use native.Mathlib.Omega.{arith}
use lib.Dec.{ltb, leb, eqb}
use lib.ListN.{length, get_or, take, drop}
use lib.Seq.{sets}
use borrow.Author.Tests.{lt-ltb, le-leb, lt-leb, eq-eqb, ne_eqb}
use Rattle.rules.specs.Words.{part}
use Rattle.rules.specs.Claim.{Holds, test}
use Rattle.rules.specs.Layout.{cells, level_of, flows, configuration, flow_matrix}
use Rattle.rules.specs.WellFormed.{well_formed}
use Rattle.rules.specs.Errors.{XOK, XbTab, XbParam}
use Rattle.rules.specs.Step.{Outcome, bad_caller, bad_code, step}
use Rattle.rules.specs.Tray as rules
use Rattle.rules.specs.Tray.{inside, record_step, with_answer, most_records, tray_answer}
use Rattle.laws.proofs.Tests.{cond-true, cond-false, split}
use Rattle.laws.proofs.Claims.{holds, tested}
use Rattle.laws.proofs.Shape.{good_of}
use Rattle.laws.proofs.Parts.{sets-part, part-back, part-long}
use Rattle.levels.proofs.Flow.{reflexive}
use Rattle.kept.proofs.Recorded.{outside_number, inside-is-step, outside-is-refused, record-kept, record-conf-kept}
use Rattle.layout.specs.declared.Header.{Header}
use Rattle.layout.specs.Header.{header_of}
use Rattle.layout.specs.Hall.{flows_at, hall_of, matrix_in}
use Rattle.layout.proofs.Hall.{flow-told, matrix-told}
use Rattle.calls.specs.declared.Record.{Record}
use Rattle.calls.specs.declared.Answer.{Answer}
use Rattle.calls.specs.World.{words_of, Judged}
use Rattle.std.specs.Prelude.{Result, Ok, Err}
use Rattle.calls.specs.declared.code.Code.{Code}
use Rattle.calls.specs.declared.error.Error.{Error}
use Rattle.calls.specs.declared.error.Error.TheVariants as error
use Rattle.calls.specs.Codes.{Asked}
use Rattle.calls.proofs.Leaves.{refusal-some}
use Rattle.calls.specs.Left.{said, told}
use Rattle.calls.specs.Did.{state_of, call_of, rule_answer, Did}
use Rattle.calls.specs.Tray.{rule_record, answered_by, Ran, Ready, no_hall, begun, verdict_of}
use Rattle.calls.proofs.Whole.{header-conf, good-code}

-- ---- the judging of a tray

module _ (t : List ℕ) (n count : ℕ) where
  pub begun-long : ltb most_records count ≡ true → no_hall ≡ begun t n count
  unfolding begun
  begun-long l = sym (cond-true (ltb most_records count) no_hall _ l)

  pub begun-short : ltb most_records count ≡ false → cond (test (well_formed t n)) (hall_of (configuration t)) no_hall ≡ begun t n count
  unfolding begun
  begun-short l = sym (cond-false (ltb most_records count) no_hall _ l)

-- the verdict: whether the first cell flows to itself
abbrev corner : List ℕ → Bool
corner hall = eqb (get_or hall flows_at 0) 1

module _ (hall : List ℕ) (count : ℕ) where
  pub verdict-long : ltb most_records count ≡ true → XbParam ≡ verdict_of hall count
  unfolding verdict_of
  verdict-long l = sym (cond-true (ltb most_records count) XbParam _ l)

  pub verdict-by : ltb most_records count ≡ false → (b : Bool) → corner hall ≡ b → cond b XOK XbTab ≡ verdict_of hall count
  unfolding verdict_of
  verdict-by l b e = ap (λ (b : Bool). cond b XOK XbTab) (sym e) ∙ sym (cond-false (ltb most_records count) XbParam _ l)

-- a well-formed table's first cell flows to itself
pub corner-flows : (t : List ℕ) (n : ℕ) → test (well_formed t n) ≡ true → corner (hall_of (configuration t)) ≡ true
unfolding flows
corner-flows t n e =
    let h : List ℕ = configuration t in
    let some = (good_of t n (holds (well_formed t n) e)).shape.some-cells in
    let l : ltb 0 (cells h) ≡ true = lt-ltb 0 (cells h) (omega arith) in
    rw (flow-told h 0 0 (omega arith) (omega arith), l, reflexive (level_of h 0)) refl

-- the verdict on what the judging handed on is the rules' answer
pub verdict-is : (t s : List ℕ) (rs : List rules.Record) → verdict_of (begun t (length s) (length rs)) (length rs) ≡ tray_answer (state_of t s) rs
unfolding verdict_of begun tray_answer
verdict-is t s rs = split _ (ltb most_records (length rs))
    (λ l. rw l refl)
    (λ l. rw l (split _ (test (well_formed t (length s)))
    (λ e. rw (e, corner-flows t (length s) e) refl)
    (λ e. rw e refl)))

-- where the verdict is 0 the table is ready
pub ready-if : (t s : List ℕ) (count : ℕ) → verdict_of (begun t (length s) count) count ≡ XOK
    → Ready t s (matrix_in (begun t (length s) count)) (begun t (length s) count)
unfolding verdict_of begun
ready-if t s count = split _ (ltb most_records count)
    (λ l. rw l (λ e. absurd (omega arith)))
    (λ l. rw l (split _ (test (well_formed t (length s)))
    (λ g. rw g (λ e. record { good = g; handed = record { matrix = matrix-told (configuration t); told = refl } }))
    (λ g. rw g (λ e. absurd (omega arith)))))

-- ---- how many records are due

pub due_all : (e n : ℕ) → e ≡ 0 → n ≡ cond (eqb e 0) n 0
due_all e n f = sym (cond-true (eqb e 0) n 0 (eq-eqb e 0 f))

pub due-none : (e n : ℕ) → (e ≡ 0 → ⊥) → 0 ≡ cond (eqb e 0) n 0
due-none e n f = sym (cond-false (eqb e 0) n 0 (ne_eqb e 0 f))

-- ---- a part that lies outside

abbrev number : List ℕ → Record → ℕ
number t r = outside_number (state_of t []) (rule_record r)

module _ (t : List ℕ) (r : Record) where
  abbrev asked : Result Code Error → Type 0
  asked = Asked (bad_caller (configuration t) (words_of t) r.caller) r.code

  -- the caller is bad, or the code
  pub outside-unasked : (e : Error) → asked (Err e) → told (Err e) ≡ said (number t r) 0 0
  outside-unasked e a = ap (λ (n : ℕ). said n 0 0) (a ∙ split _ (bad_caller (configuration t) (words_of t) r.caller)
      (λ x. rw x refl)
      (λ x. split _ (bad_code r.code) (λ y. rw (x, y) refl) (λ y. absurd (refusal-some e (rw (x, y) at a)))))

  pub outside-asked : (k : Code) → asked (Ok k) → told (Err error.XbSz) ≡ said (number t r) 0 0
  outside-asked k a = let good = good-code k in ap (λ (n : ℕ). said n 0 0) (sym (rw (a.0, rw a.1 at good) refl))

-- ---- one record

pub ready-judged : {t s : List ℕ} {n : Header} {m : List (List Bool)} {hall : List ℕ} → Ready t s m hall → n ≡ header_of t → Judged t s n m hall
ready-judged {t} j e = record { good = j.good; header = e ∙ header-conf t; handed = j.handed }

module _ (t s bytes : List ℕ) {m : List (List Bool)} {hall : List ℕ} (j : Ready t s m hall) (r : Record) (from n : ℕ) (f : from ≡ r.offset) (g : n ≡ r.length) where
  abbrev it : rules.Record
  it = rule_record r

  well : Holds (well_formed t (length s))
  well = holds (well_formed t (length s)) j.good

  pub ran-inside : from + n ≤ length bytes → (k : ℕ) → k ≡ from + n - from → {x : Answer} {y : Record} {t' s' part' : List ℕ}
      → Did (step (state_of t s) (call_of r.caller r.code r.a r.b r.c (take k (drop from bytes)))) x t' s' part'
      → length part' ≡ length (take k (drop from bytes)) → y ≡ answered_by r x
      → Ran (state_of t s) bytes r y t' s' (take from bytes ++ (part' ++ drop k (drop from bytes)))
  unfolding inside part
  ran-inside h k ke {x} {y} {t'} {s'} {part'} did len ye =
      let ins : inside bytes it ≡ true = ap₂ (λ (a b : ℕ). leb (a + b) (length bytes)) (sym f) (sym g) ∙ le-leb (from + n) (length bytes) h in
      let kn : k ≡ n = ke ∙ (let z : from + n - from ≡ n = omega arith in z) in
      let lent : take k (drop from bytes) ≡ rules.part_of bytes it = ap₂ (λ (a b : ℕ). take b (drop a bytes)) f (kn ∙ g) in
      let o : step (state_of t s) (call_of r.caller r.code r.a r.b r.c (take k (drop from bytes))) ≡ record_step (state_of t s) bytes it =
      ap (λ (b : List ℕ). step (state_of t s) (call_of r.caller r.code r.a r.b r.c b)) lent ∙ sym (inside-is-step (state_of t s) bytes it well ins) in
      let here : from + k ≤ length bytes = omega arith in
      let long : length part' ≡ k = len ∙ ap length lent ∙ part-long bytes r.offset r.length (omega arith) ∙ sym (kn ∙ g) in
      record {
        answered = ap rule_record ye ∙ ap (with_answer it) (did.answered ∙ ap (λ (z : Outcome). z.answered) o);
        table = did.table ∙ ap (λ (z : Outcome). z.state.table) o;
        store = did.store ∙ ap (λ (z : Outcome). z.state.store) o;
        bytes = part-back bytes part' from k here long ∙ ap₂ (sets bytes) f (did.buffer ∙ ap (λ (z : Outcome). z.buffer) o);
      }

  pub ran-outside : length bytes < from + n → {x : Answer} {y : Record} → x ≡ said (number t r) 0 0 → y ≡ answered_by r x → Ran (state_of t s) bytes r y t s bytes
  unfolding inside
  ran-outside h {x} {y} xe ye =
      let out : inside bytes it ≡ false = ap₂ (λ (a b : ℕ). leb (a + b) (length bytes)) (sym f) (sym g) ∙ lt-leb (from + n) (length bytes) h in
      let o = outside-is-refused (state_of t s) bytes it out in
      record {
        answered = ap rule_record ye ∙ ap (λ (z : Answer). with_answer it (rule_answer z)) xe ∙ sym (ap (λ (z : Outcome). with_answer it z.answered) o);
        table = sym (ap (λ (z : Outcome). z.state.table) o);
        store = sym (ap (λ (z : Outcome). z.state.store) o);
        bytes = sym (ap (λ (z : Outcome). sets bytes r.offset z.buffer) o ∙ sets-part bytes r.offset r.length);
      }

-- a record keeps a judged table judged
pub ready-kept : (t s bytes : List ℕ) (m : List (List Bool)) (hall : List ℕ) (r y : Record) (t' s' bytes' : List ℕ) → Ready t s m hall
    → Ran (state_of t s) bytes r y t' s' bytes' → Ready t' s' m hall
ready-kept t s bytes m hall r y t' s' bytes' j ran =
    let w = holds (well_formed t (length s)) j.good in
    let x = record-kept (state_of t s) bytes (rule_record r) w in
    let same = sym (ap configuration ran.table ∙ record-conf-kept (state_of t s) bytes (rule_record r) w) in
    record {
      good = rw (ran.table, ran.store) (tested (well_formed (record_step (state_of t s) bytes (rule_record r)).state.table
          (length (record_step (state_of t s) bytes (rule_record r)).state.store)) x);
      handed = record { matrix = j.handed.matrix ∙ ap flow_matrix same; told = j.handed.told ∙ ap hall_of same };
    }
