-- The quick engine, on plain values: what judging a quick tray hands on, and that a call leaves the working slice the table's.
use mathlib.Core.Path.{◌≡◌, sym, ap, ◌∙◌}
use mathlib.Core.Bool.{Bool, true, false, ◌&&◌}
use mathlib.Core.List.{List}
use native.Mathlib.Omega.{arith}
use Prim.Native.Nat.{ℕ, ◌<◌}
use lib.ListN.{length}
use Rattle.rules.specs.Claim.{test}
use Rattle.rules.specs.Layout.{process, configuration, at, rd, live}
use Rattle.rules.specs.WellFormed.{well_formed}
use Rattle.rules.specs.SetUp.{can_set_up}
use Rattle.rules.specs.Step.{Call, bad_caller, step}
use Rattle.rules.specs.Work.{work_in}
use Rattle.rules.specs.Quick.{same_words}
use Rattle.laws.proofs.Tests.{cond-true, cond-false}
use Rattle.laws.proofs.Claims.{holds}
use Rattle.laws.proofs.Shape.{good_of}
use Rattle.kept.proofs.Kept.{conf-kept}
use Rattle.kept.proofs.Stepped.{caller}
use Rattle.follow.specs.Right.{Right, runs, rows_at}
use Rattle.calls.specs.declared.Answer.{Answer}
use Rattle.calls.specs.World.{words_of}
use Rattle.calls.specs.Did.{state_of, Did}
use Rattle.calls.specs.Tray.{Ready, no_hall, begun}
use Rattle.calls.specs.Quick.{RightIn, begun_quick}

-- ---- the judging of a quick tray

module _ (t w : List ℕ) (n count : ℕ) {x : Bool} (xe : x ≡ test (can_set_up t n) && same_words w (work_in t)) where
  pub begun-fits : x ≡ true → begun t n count ≡ begun_quick t n count w
  unfolding begun_quick
  begun-fits e = sym (cond-true _ (begun t n count) no_hall (sym xe ∙ e))

  pub begun-other : x ≡ false → no_hall ≡ begun_quick t n count w
  unfolding begun_quick
  begun-other e = sym (cond-false _ (begun t n count) no_hall (sym xe ∙ e))

-- ---- one call on a judged table

module _ {t s : List ℕ} {m : List (List Bool)} {hall : List ℕ} (j : Ready t s m hall) where
  -- a caller that is not refused is live
  pub caller-lives : (p : ℕ) {y : Bool} → y ≡ bad_caller (configuration t) (words_of t) p → y ≡ false → words_of t (at process p live) ≡ 1
  caller-lives p ye e = (caller (state_of t s) (holds (well_formed t (length s)) j.good) p (sym ye ∙ e)).alive

  -- a slice that is the table's has words: a count for each of its cells
  pub slice-some : (w : List ℕ) → RightIn t w → 0 < length w
  unfolding rows_at runs
  slice-some w right =
      omega (arith, right.size, (good_of t (length s) (holds (well_formed t (length s)) j.good)).shape.some-cells)

  -- the slice of what a call leaves, by the table that it leaves
  pub right_there : (k : Call) {r : Answer} {t' s' b' : List ℕ} → Did (step (state_of t s) k) r t' s' b' → (w : List ℕ)
      → Right (configuration t) (rd (configuration t) t') w → RightIn t' w
  right_there k did w right =
      let same : configuration _ ≡ configuration t = ap configuration did.table ∙ conf-kept (state_of t s) k (holds (well_formed t (length s)) j.good) in
      rw same right
