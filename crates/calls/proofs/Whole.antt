-- The whole call: what its tests have shown, and its four ends.
use mathlib.Core.Path.{◌≡◌, refl, sym, ap, ◌∙◌, subst}
use mathlib.Core.Bool.{Bool, true, false, cond, ◌||◌, not}
use mathlib.Core.List.{List}
use Prim.Native.Nat.{ℕ, ◌+◌, ◌≤◌, ◌<◌}
use native.Mathlib.Omega.{arith}
use lib.Dec.{ltb, leb, eqb}
use lib.ListN.{length, get_or, replicate}
use borrow.Author.Tests.{leb-false, ltb-false, eqb-false}
use Rattle.rules.specs.Claim.{Holds, test}
use Rattle.rules.specs.Layout.{max_slots, process, segment, file, guard, configuration, slots, store_bytes, at, live}
use Rattle.rules.specs.WellFormed.{well_formed, lengths_exact}
use Rattle.rules.specs.Step.{bad_caller, bad_code, last_code, step}
use Rattle.std.specs.Prelude.{Ok, Err}
use Rattle.calls.proofs.Leaves.{refusal-some}
use Rattle.laws.proofs.Tests.{split, or_left, cond-true}
use Rattle.laws.proofs.Claims.{holds}
use Rattle.laws.proofs.Places.{conf-word, conf-cells, conf-slots, conf-subtypes, conf-blocks}
use Rattle.layout.specs.declared.Header.{Header}
use Rattle.layout.specs.Header.{header_of}
use Rattle.layout.specs.Hall.{cells_at, hall_bytes, hall_of, matrix_in}
use Rattle.layout.proofs.Hall.{matrix-told}
use Rattle.calls.specs.declared.Answer.{Answer}
use Rattle.calls.specs.declared.Caller.{Caller}
use Rattle.calls.specs.World.{Known, Sound, words_of, Judged}
use Rattle.calls.specs.Tray.{Ready}
use Rattle.calls.specs.declared.code.Code.{Code}
use Rattle.calls.specs.declared.code.Code.TheVariants.{Spawn, ReleaseProcess, BuildSegment, Rendezvous, ReleaseSegment, SetAccess, Create, Open, Close, Link, Unlink, SetBits, ReadBlock, WriteBlock, Post, Receive, Status, Access, Remap, PageAccess, Regrade}
use Rattle.calls.specs.declared.error.Error.{Error}
use Rattle.calls.specs.Codes.{code_number, Asked}
use Rattle.calls.specs.Left.{said, told}
use Rattle.calls.specs.Did.{state_of, call_of, Did, Through, rule_in}
use Rattle.calls.proofs.Worlds.{slots-is}
use Rattle.calls.proofs.Codes.{bad-table, bad-caller, bad-code, done}
use Rattle.calls.proofs.Names.{slot-few, cell-is}

-- the header's words are the configuration's
pub header-conf : (t : List ℕ) → header_of t ≡ header_of (configuration t)
unfolding guard
header-conf t = λ i. record {
  cells = sym (conf-cells t) i;
  processes = sym (conf-slots t process) i;
  segments = sym (conf-slots t segment) i;
  files = sym (conf-slots t file) i;
  blocks = sym (conf-blocks t) i;
  guard = sym (conf-word t 5 (omega arith)) i;
  subtypes = sym (conf-subtypes t) i;
}

-- a caller sound by the configuration's header is so by the one that was read, and the other way round
pub sound-read : {t : List ℕ} {n : Header} {c : Caller} → n ≡ header_of t → Sound t (header_of (configuration t)) c → Sound t n c
sound-read {t} {c = c} e s = subst (λ (x : Header). Sound t x c) (sym (e ∙ header-conf t)) s

pub sound-conf : {t : List ℕ} {n : Header} {c : Caller} → n ≡ header_of (configuration t) → Sound t n c → Sound t (header_of (configuration t)) c
sound-conf {t} {c = c} e s = subst (λ (x : Header). Sound t x c) e s

-- what judging leaves in a hall of zeros, and the matrix of that
pub ready_by : (t s : List ℕ) {x : Bool} {m : List (List Bool)} {hall : List ℕ} → x ≡ test (well_formed t (length s)) → x ≡ true
    → hall ≡ cond (test (well_formed t (length s))) (hall_of (configuration t)) (replicate hall_bytes 0) → m ≡ matrix_in hall → Ready t s m hall
ready_by t s xe e he me =
    let good = sym xe ∙ e in let told = he ∙ cond-true (test (well_formed t (length s))) (hall_of (configuration t)) (replicate hall_bytes 0) good in
    record { good = good; handed = record { matrix = me ∙ ap matrix_in told ∙ matrix-told (configuration t); told = told } }

-- out of range, or not live, in the words that the code reads
pub caller-told : {t : List ℕ} {n : Header} → Known t n → (p : ℕ) {x : ℕ} → x ≡ words_of t (at process p live)
    → leb n.processes p || not (eqb x 1) ≡ bad_caller (configuration t) (words_of t) p
unfolding bad_caller
caller-told known p xe = rw (xe, slots-is known process)

module _ {t s : List ℕ} {n : Header} {m : List (List Bool)} {hall : List ℕ} (j : Judged t s n m hall) where
  whole : Holds (well_formed t (length s))
  whole = holds (well_formed t (length s)) j.good

  pub known : Known t n
  unfolding well_formed lengths_exact
  known = record { conf = whole.0; long = omega (arith, whole.1.0.0); header = j.header }

  pub store_long : length s ≡ store_bytes (configuration t)
  unfolding well_formed lengths_exact
  store_long = whole.1.0.1

  module _ (p : ℕ) {y : Bool} (ye : y ≡ bad_caller (configuration t) (words_of t) p) where
    caller-in : y ≡ false → p < slots (configuration t) process
    unfolding bad_caller
    caller-in f =
        leb-false (slots (configuration t) process) p (or_left (leb (slots (configuration t) process) p) (not (eqb (words_of t (at process p live)) 1)) (sym ye ∙ f))

    pub caller-few : y ≡ false → p < max_slots
    caller-few f = slot-few known process p (caller-in f)

    -- c is the cell that the check handed on
    pub sound : y ≡ false → {c : ℕ} → c ≡ get_or hall (cells_at process + p) 0 → Sound t n (record { slot = p; cell = c })
    unfolding well_formed lengths_exact
    sound f ce = record {
      known = known;
      words = whole.1.0.0;
      records = whole.1.1;
      caller = caller-in f;
      home = cell-is known process p j.handed.told (caller-in f) ce;
    }

    module _ (code a b c : ℕ) (buffer : List ℕ) where
      pub no-caller : {r : Answer} → y ≡ true → r ≡ said 2 0 0 → Did (step (state_of t s) (call_of p code a b c buffer)) r t s buffer
      no-caller f re = bad-caller t s p code a b c buffer j.good (sym ye ∙ f) re

      pub no_code : {z : Bool} {r : Answer} → y ≡ false → z ≡ bad_code code → z ≡ true → r ≡ said 3 0 0 → Did (step (state_of t s) (call_of p code a b c buffer)) r t s buffer
      no_code f ze g re = bad-code t s p code a b c buffer j.good (sym ye ∙ f) (sym ze ∙ g) re

      pub all_done : {z : Bool} {r : Answer} {t' s' b' : List ℕ} → y ≡ false → z ≡ bad_code code → z ≡ false
          → Through t s buffer (rule_in t s p code a b c buffer) r t' s' b' → Did (step (state_of t s) (call_of p code a b c buffer)) r t' s' b'
      all_done f ze g th = done t s p code a b c buffer j.good (sym ye ∙ f) (sym ze ∙ g) th

pub no_table : (t s : List ℕ) (p code a b c : ℕ) (buffer : List ℕ) {x : Bool} {r : Answer} → x ≡ test (well_formed t (length s)) → x ≡ false → r ≡ said 1 0 0
    → Did (step (state_of t s) (call_of p code a b c buffer)) r t s buffer
no_table t s p code a b c buffer xe f re = bad-table t s p code a b c buffer (sym xe ∙ f) re

-- a number that no call has is no code, and each call's is one
pub uncalled : (n : ℕ) → (1 ≤ n → n ≤ last_code → ⊥) → bad_code n ≡ true
unfolding bad_code
uncalled n none = split _ (eqb n 0) (λ e. rw e refl) (λ e. rw e (split _ (ltb last_code n) (λ l. l)
    (λ l. absurd (none (omega (arith, eqb-false n 0 e)) (ltb-false last_code n l)))))

pub good-code : (k : Code) → bad_code (code_number k) ≡ false
unfolding bad_code
good-code = elim [
  | Spawn ↦ refl
  | ReleaseProcess ↦ refl
  | BuildSegment ↦ refl
  | Rendezvous ↦ refl
  | ReleaseSegment ↦ refl
  | SetAccess ↦ refl
  | Create ↦ refl
  | Open ↦ refl
  | Close ↦ refl
  | Link ↦ refl
  | Unlink ↦ refl
  | SetBits ↦ refl
  | ReadBlock ↦ refl
  | WriteBlock ↦ refl
  | Post ↦ refl
  | Receive ↦ refl
  | Status ↦ refl
  | Access ↦ refl
  | Remap ↦ refl
  | PageAccess ↦ refl
  | Regrade ↦ refl
]

-- what refuses a call before its own list
pub unasked : {t s : List ℕ} {n : Header} {m : List (List Bool)} {hall : List ℕ} → Judged t s n m hall → (p code a b c : ℕ) (buffer : List ℕ) (e : Error)
    → Asked (bad_caller (configuration t) (words_of t) p) code (Err e) → Did (step (state_of t s) (call_of p code a b c buffer)) (told (Err e)) t s buffer
unasked {t} j p code a b c buffer e asked = split _ (bad_caller (configuration t) (words_of t) p)
    (λ x. no-caller j p refl code a b c buffer x (ap (λ (n : ℕ). said n 0 0) (rw x at asked)))
    (λ x. split _ (bad_code code)
    (λ y. no_code j p refl code a b c buffer x refl y (ap (λ (n : ℕ). said n 0 0) (rw (x, y) at asked)))
    (λ y. absurd (refusal-some e (rw (x, y) at asked))))

-- past that the call is its rule carried out
pub done-asked : {t s : List ℕ} {n : Header} {m : List (List Bool)} {hall : List ℕ} → Judged t s n m hall → (p code a b c : ℕ) (buffer : List ℕ) (k : Code)
    → Asked (bad_caller (configuration t) (words_of t) p) code (Ok k) → {r : Answer} {t' s' b' : List ℕ}
    → Through t s buffer (rule_in t s p (code_number k) a b c buffer) r t' s' b' → Did (step (state_of t s) (call_of p code a b c buffer)) r t' s' b'
done-asked j p code a b c buffer k asked th =
    let good = good-code k in
    all_done j p refl code a b c buffer asked.0 refl (rw asked.1 at good) (rw asked.1 at th)
