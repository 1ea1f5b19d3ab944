-- "The outcome is that of the calls made singly": what a tray leaves of table, store, byte slice and records is what `step` leaves, one call after another, each
-- on its own part of the byte slice. A record whose part lies outside makes no call: it is answered 2 or 3 as a call would be, else 5, and nothing changes.
use mathlib.Core.Path.{◌≡◌, refl, sym, ap, ◌∙◌}
use mathlib.Core.Bool.{false, cond, not}
use mathlib.Core.List.{List, [], ◌∷◌}
use Prim.Native.Nat.{ℕ, ◌≤◌, ◌<◌}
use native.Mathlib.Omega.{arith}
use native.Mathlib.Decide.{ℕ_discrete}
use lib.Dec.{eqb}
use lib.ListN.{length}
use lib.Seq.{sets}
use borrow.Author.Tests.{eqb-true, ne_eqb, lt-ltb, le-ltb}
use Rattle.rules.specs.Claim.{test}
use Rattle.rules.specs.Layout.{block_bytes, configuration, Addr, rd}
use Rattle.rules.specs.WellFormed.{well_formed}
use Rattle.rules.specs.Errors.{XOK, XbTab, XbParam, XbSz}
use Rattle.rules.specs.Rule.{Refusal, ◌⇒◌, Rule}
use Rattle.rules.specs.Call13.{block, read_block}
use Rattle.rules.specs.Call16.{message_bytes, receive}
use Rattle.rules.specs.Call17.{status_bytes, told, status_of, status}
use Rattle.rules.specs.Step.{State, Call, Outcome, rule_of, whole_rule, step, next, run}
use Rattle.rules.specs.Tray.{Record, record_call, inside, record_step, with_answer, Tray, left, behind, in_order, most_records, tray_answer, after_tray}
use Rattle.laws.proofs.Tests.{cond-true, cond-false, cond_both, split, passed}
use Rattle.laws.proofs.Claims.{tested}
use Rattle.laws.proofs.Refusals.{Clear}
use Rattle.laws.proofs.Parts.{part-short}
use Rattle.laws.proofs.Codes.{by-status}
use Rattle.kept.proofs.Kept.{Well, run-kept, run-conf-kept}
use Rattle.kept.proofs.Recorded.{refused_outside, inside-is-step, outside-is-refused, state-is, record-kept}
use Rattle.promises.proofs.Refusals

-- ---- one record

-- a record's call made by itself
unfoldable pub single : State → List ℕ → Record → Outcome
single s bytes r = cond (inside bytes r) (step s (record_call bytes r)) (refused_outside s bytes r)

module _ (s : State) (bytes : List ℕ) (r : Record) where
  pub single-is : Well s → record_step s bytes r ≡ single s bytes r
  unfolding single
  single-is w = split _ (inside bytes r)
      (λ e. inside-is-step s bytes r w e ∙ sym (cond-true (inside bytes r) (step s (record_call bytes r)) (refused_outside s bytes r) e))
      (λ e. outside-is-refused s bytes r e ∙ sym (cond-false (inside bytes r) (step s (record_call bytes r)) (refused_outside s bytes r) e))

-- ---- the tray

-- the calls made singly, one after another, each on its part as those before it left the byte slice
unfoldable pub singly : State → List ℕ → List Record → Tray
singly s bytes [] = left s bytes []
singly s bytes (r ∷ rs) =
    let o : Outcome = single s bytes r in
    behind (with_answer r o.answered) (singly o.state (sets bytes r.offset o.buffer) rs)

pub in-order-singly : (rs : List Record) (s : State) (bytes : List ℕ) → Well s → in_order s bytes rs ≡ singly s bytes rs
unfolding in_order singly
in-order-singly [] s bytes w = refl
in-order-singly (r ∷ rs) s bytes w =
    let o : Outcome = record_step s bytes r in
    ap (behind (with_answer r o.answered)) (in-order-singly rs o.state (sets bytes r.offset o.buffer) (record-kept s bytes r w))
    ∙ ap (λ (o : Outcome). behind (with_answer r o.answered) (singly o.state (sets bytes r.offset o.buffer) rs)) (single-is s bytes r w)

-- those of them that are made: each with the part that it is given
unfoldable pub made : State → List ℕ → List Record → List Call
made s bytes [] = []
made s bytes (r ∷ rs) =
    let o : Outcome = record_step s bytes r in
    let later : List Call = made o.state (sets bytes r.offset o.buffer) rs in
    cond (inside bytes r) (record_call bytes r ∷ later) later

pub in-order-runs : (rs : List Record) (s : State) (bytes : List ℕ) → Well s → (in_order s bytes rs).state ≡ run s (made s bytes rs)
unfolding in_order made run
in-order-runs [] s bytes w = refl
in-order-runs (r ∷ rs) s bytes w =
    let o : Outcome = record_step s bytes r in
    let later : List Call = made o.state (sets bytes r.offset o.buffer) rs in
    in-order-runs rs o.state (sets bytes r.offset o.buffer) (record-kept s bytes r w)
    ∙ ap (λ (x : State). run x later) (state-is s bytes r w)
    ∙ split (run (cond (inside bytes r) (next s (record_call bytes r)) s) later ≡ run s (cond (inside bytes r) (record_call bytes r ∷ later) later)) (inside bytes r)
    (λ e. rw e refl)
    (λ e. rw e refl)

-- a tray of at most 1,024 records on a well-formed table answers 0, and its outcome is that of the calls made singly
module _ (s : State) (bytes : List ℕ) (rs : List Record) (w : Well s) (short : length rs ≤ most_records) where
  pub answers-zero : tray_answer s rs ≡ XOK
  unfolding tray_answer
  answers-zero = rw (le-ltb most_records (length rs) short, tested (well_formed s.table (length s.store)) w) refl

  pub tray-runs : after_tray s bytes rs ≡ in_order s bytes rs
  unfolding after_tray
  tray-runs = rw answers-zero refl

  pub as-singly : after_tray s bytes rs ≡ singly s bytes rs
  as-singly = tray-runs ∙ in-order-singly rs s bytes w

  -- its table and store are those of a run of calls, so all that is promised of runs is promised of trays
  pub as-run : (after_tray s bytes rs).state ≡ run s (made s bytes rs)
  as-run = ap (λ (x : Tray). x.state) tray-runs ∙ in-order-runs rs s bytes w

-- a tray keeps tables well formed, and their configuration
pub tray-kept : (s : State) (bytes : List ℕ) (rs : List Record) → Well s → Well (after_tray s bytes rs).state
unfolding after_tray
tray-kept s bytes rs w = cond_both (λ (x : Tray). Well x.state) (eqb (tray_answer s rs) XOK) (in_order s bytes rs) (left s bytes rs)
    (λ e. rw (in-order-runs rs s bytes w) (run-kept s (made s bytes rs) w)) (λ e. w)

pub tray-conf-kept : (s : State) (bytes : List ℕ) (rs : List Record) → Well s → configuration (after_tray s bytes rs).state.table ≡ configuration s.table
unfolding after_tray
tray-conf-kept s bytes rs w =
    cond_both (λ (x : Tray). configuration x.state.table ≡ configuration s.table) (eqb (tray_answer s rs) XOK) (in_order s bytes rs) (left s bytes rs)
    (λ e. rw (in-order-runs rs s bytes w) (run-conf-kept s (made s bytes rs) w)) (λ e. refl)

-- a tray that is refused: "either way nothing changes, records included"
pub refused-tray : (s : State) (bytes : List ℕ) (rs : List Record) → (tray_answer s rs ≡ XOK → ⊥) → after_tray s bytes rs ≡ left s bytes rs
unfolding after_tray
refused-tray s bytes rs n = cond-false (eqb (tray_answer s rs) XOK) (in_order s bytes rs) (left s bytes rs) (ne_eqb (tray_answer s rs) XOK n)

-- "a longer one is refused with 4, then a bad table with 1"
pub too_long : (s : State) (rs : List Record) → most_records < length rs → tray_answer s rs ≡ XbParam
unfolding tray_answer
too_long s rs l = rw (lt-ltb most_records (length rs) l) refl

pub bad-table : (s : State) (rs : List Record) → length rs ≤ most_records → test (well_formed s.table (length s.store)) ≡ false → tray_answer s rs ≡ XbTab
unfolding tray_answer
bad-table s rs l e = rw (le-ltb most_records (length rs) l, e) refl

-- ---- a call leaves no more bytes in its buffer than it was given

module _ (s : State) (k : Call) where
  abbrev reading : Addr → ℕ
  reading = rd (configuration s.table) s.table

  abbrev Fits : Type 0
  Fits = length (step s k).buffer ≤ length k.buffer

  -- its rule's first refusal is of a buffer that has not so many bytes, and so many it leaves at most
  fits : (n : ℕ) (x : Rule) (e : ℕ) (rest : List Refusal) → Refusals.own s k ≡ x → x.refusals ≡ (not (eqb (length k.buffer) n) ⇒ e) ∷ rest
      → length x.effects.buffer ≤ n → Fits
  unfolding whole_rule
  fits n x e rest is list m = elim (ℕ_discrete (step s k).answered.error XOK) [
    | yes ok ↦
        let c : Clear x.refusals = rw is at (Refusals.own-clear s k ok) in
        let first : Clear ((not (eqb (length k.buffer) n) ⇒ e) ∷ rest) = rw list at c in
        let l : length k.buffer ≡ n = eqb-true _ n (passed _ first.0) in
        let b : (step s k).buffer ≡ x.effects.buffer = (Refusals.done s k ok).buffer ∙ ap (λ (y : Rule). y.effects.buffer) is in
        omega (arith, ap length b)
    | no bad ↦ rw (Refusals.refused s k bad).buffer (omega arith)
  ]

  read_fits : k.code ≡ 13 → Fits
  unfolding rule_of read_block block
  read_fits e = fits block_bytes (read_block (configuration s.table) reading s.store k.caller k.a k.b k.buffer) XbSz _ (rw e refl) refl
      (part-short s.store _ block_bytes)

  receive-fits : k.code ≡ 16 → Fits
  unfolding rule_of receive
  receive-fits e = fits message_bytes (receive (configuration s.table) reading k.caller k.buffer) XbSz _ (rw e refl) refl (omega arith)

  status-fits : k.code ≡ 17 → Fits
  unfolding rule_of told
  status-fits e =
      let h : List ℕ = configuration s.table in
      let is : Refusals.own s k ≡ status h reading k.caller k.a k.buffer = rw e refl in
      by-status h reading k (λ x. Refusals.own s k ≡ x → Fits)
      (λ v j f. fits status_bytes (status_of h reading k.caller v k.buffer j) XbSz _ f refl (omega arith)) is

  pub buffer-fits : Fits
  buffer-fits = elim (ℕ_discrete k.code 13) [
    | yes e ↦ read_fits e
    | no a ↦ elim (ℕ_discrete k.code 16) [
      | yes e ↦ receive-fits e
      | no b ↦ elim (ℕ_discrete k.code 17) [ yes e ↦ status-fits e | no c ↦ rw (Refusals.same-buffer s k a b c) (omega arith) ]
    ]
  ]
