-- The quick engine: on the table's own working slice a quick tray does what a tray does, and leaves the slice of the table that it leaves; any other slice is refused with 1.
-- The slice is what the fill function makes. What its words say: crates/follow/proofs/Telling.
use mathlib.Core.Path.{◌≡◌, refl, sym, ◌∙◌}
use mathlib.Core.Bool.{false}
use mathlib.Core.List.{List, []}
use Prim.Native.Nat.{ℕ, ◌≤◌}
use native.Mathlib.Omega.{arith}
use lib.Dec.{eqb, ltb}
use lib.ListN.{length}
use borrow.Author.Tests.{ne_eqb, eq-eqb, le-ltb}
use Rattle.rules.specs.Claim.{Holds, test}
use Rattle.rules.specs.WellFormed.{well_formed}
use Rattle.rules.specs.Errors.{XOK, XbTab, XbSz}
use Rattle.rules.specs.Step.{State}
use Rattle.rules.specs.Tray.{Record, left, most_records, tray_answer, after_tray}
use Rattle.rules.specs.Work.{work_in, work_length, fill_answer, filled}
use Rattle.rules.specs.Quick.{quick_refusals, quick_answer, Quick, beside, after_quick}
use Rattle.laws.proofs.Tests.{cond-false, split, passed}
use Rattle.laws.proofs.Claims.{tested}
use Rattle.laws.proofs.Refusals.{clear}
use Rattle.laws.proofs.Same.{same_self, same-equal, same_not}
use Rattle.kept.proofs.Kept.{Well}
use Rattle.promises.proofs.Tray.{singly, answers-zero, as-singly, tray-kept}

-- ---- "A working slice that isn't the table's is refused with 1"

module _ (s : State) (w bytes : List ℕ) (rs : List Record) where
  -- what a refused quick tray leaves: table, store, byte slice, records and working slice as they were
  pub refused-quick : (quick_answer s w rs ≡ XOK → ⊥) → after_quick s w bytes rs ≡ beside (left s bytes rs) w
  unfolding after_quick
  refused-quick n = cond-false (eqb (quick_answer s w rs) XOK) _ _ (ne_eqb (quick_answer s w rs) XOK n)

  -- a tray's own refusals come first, whatever the slice
  pub refused-as-tray : (tray_answer s rs ≡ XOK → ⊥) → quick_answer s w rs ≡ tray_answer s rs
  unfolding quick_answer tray_answer
  refused-as-tray n = split _ (ltb most_records (length rs))
      (λ e. rw e refl)
      (λ e. split _ (test (well_formed s.table (length s.store))) (λ f. absurd (n (rw (e, f) refl))) (λ f. rw (e, f) refl))

  -- and on a well-formed table the slice alone decides
  pub another-slice : Well s → length rs ≤ most_records → (w ≡ work_in s.table → ⊥) → quick_answer s w rs ≡ XbTab
  unfolding quick_answer
  another-slice f l n =
      rw (le-ltb most_records (length rs) l, tested (well_formed s.table (length s.store)) f, same_not w (work_in s.table) n) refl

  pub another-left : Well s → length rs ≤ most_records → (w ≡ work_in s.table → ⊥) → after_quick s w bytes rs ≡ beside (left s bytes rs) w
  another-left f l n = refused-quick (λ e. let z : ◌≡◌ {A = ℕ} 1 0 = sym (another-slice f l n) ∙ e in omega (arith, z))

  -- so what runs was lent the table's
  pub ran-on-own : quick_answer s w rs ≡ XOK → w ≡ work_in s.table
  unfolding quick_answer
  ran-on-own e = same-equal w (work_in s.table) (passed _ (clear (quick_refusals s w rs) refl e).1.1.0)

-- ---- "On a right one it gives the plain engine's answers, table, store and buffers for each call, and leaves the working slice right again."

-- its answer is a tray's
pub answers-as-tray : (s : State) (w : List ℕ) (rs : List Record) → w ≡ work_in s.table → quick_answer s w rs ≡ tray_answer s rs
unfolding quick_answer tray_answer
answers-as-tray s w rs own = rw (own, same_self (work_in s.table)) refl

module _ (s : State) (w bytes : List ℕ) (rs : List Record) (own : w ≡ work_in s.table) where
  abbrev after : Quick
  after = after_quick s w bytes rs

  -- and so is what it leaves of table, store, byte slice and records
  pub own-tray : after.tray ≡ after_tray s bytes rs
  unfolding after_quick after_tray
  own-tray = rw (answers-as-tray s w rs own) (split _ (eqb (tray_answer s rs) XOK) (λ e. rw e refl) (λ e. rw e refl))

  -- the working slice that it leaves is that of the table that it leaves
  pub own-work : after.work ≡ work_in after.tray.state.table
  unfolding after_quick
  own-work = split _ (eqb (quick_answer s w rs) XOK) (λ e. rw e refl) (λ e. rw e own)

  -- so a second quick tray, lent what the first left, is refused for no slice: it answers as a tray does there, and so on
  pub again : (qs : List Record) → quick_answer after.tray.state after.work qs ≡ tray_answer after.tray.state qs
  again qs = answers-as-tray after.tray.state after.work qs own-work

  -- on a well-formed table, with at most 1,024 records, it answers 0, and its outcome is that of the calls made singly
  module _ (f : Well s) (short : length rs ≤ most_records) where
    pub quick-zero : quick_answer s w rs ≡ XOK
    quick-zero = answers-as-tray s w rs own ∙ answers-zero s bytes rs f short

    pub quick-singly : after.tray ≡ singly s bytes rs
    quick-singly = own-tray ∙ as-singly s bytes rs f short

    -- and a second one of at most 1,024 records runs too
    pub again-zero : (qs : List Record) → length qs ≤ most_records → quick_answer after.tray.state after.work qs ≡ XOK
    again-zero qs l = again qs ∙ rw own-tray (answers-zero (after_tray s bytes rs).state bytes qs (tray-kept s bytes rs f) l)

-- ---- "A function of its own fills one from any well-formed table, and what it fills is right."

module _ (t : List ℕ) (m : ℕ) (w : List ℕ) where
  -- a refusal changes nothing
  pub fill-refused : (fill_answer t m w ≡ XOK → ⊥) → filled t m w ≡ w
  unfolding filled
  fill-refused n = cond-false (eqb (fill_answer t m w) XOK) _ _ (ne_eqb (fill_answer t m w) XOK n)

  -- "A bad table is refused with 1, then a slice of another length with 5"
  pub fill-bad-table : test (well_formed t m) ≡ false → (fill_answer t m w ≡ XbTab) × (filled t m w ≡ w)
  unfolding fill_answer filled
  fill-bad-table e = rw e (refl, refl)

  pub fill-other-length : Holds (well_formed t m) → (length w ≡ length (work_in t) → ⊥) → (fill_answer t m w ≡ XbSz) × (filled t m w ≡ w)
  unfolding fill_answer filled
  fill-other-length f n = rw (tested (well_formed t m) f, ne_eqb (length w) (length (work_in t)) n) (refl, refl)

  pub fills : Holds (well_formed t m) → length w ≡ length (work_in t) → (fill_answer t m w ≡ XOK) × (filled t m w ≡ work_in t)
  unfolding fill_answer filled
  fills f e = rw (tested (well_formed t m) f, eq-eqb (length w) (length (work_in t)) e) (refl, refl)

  -- the length that it asks for is the one that is told
  pub length-told : Holds (well_formed t m) → work_length t m ≡ length (work_in t)
  unfolding work_length
  length-told f = rw (tested (well_formed t m) f) refl

-- what it fills a quick tray takes
pub filled_runs : (s : State) (w : List ℕ) (rs : List Record) → let m : ℕ = length s.store in Well s → length w ≡ work_length s.table m
    → length rs ≤ most_records → quick_answer s (filled s.table m w) rs ≡ XOK
filled_runs s w rs f e l =
    let m : ℕ = length s.store in
    quick-zero s (filled s.table m w) [] rs (fills s.table m w f (e ∙ length-told s.table m w f)).1 f l
