-- 02, CR 13: "A quick engine beside the plain one." A tray with a working slice lent beside it.
use Rattle.std.specs.Prelude.{Bool, true, false, cond, ◌&&◌, not, List, [], ◌∷◌, ◌++◌, ℕ, eqb}
use Rattle.rules.specs.Errors.{XOK, XbTab}
use Rattle.rules.specs.Rule.{Refusal, ◌⇒◌, first_refusal}
use Rattle.rules.specs.Step.{State}
use Rattle.rules.specs.Tray.{Record, Tray, left, in_order, tray_refusals}
use Rattle.rules.specs.Work.{work_in}

-- two slices have the same words
unfoldable pub same_words : List ℕ → List ℕ → Bool
same_words [] [] = true
same_words [] (y ∷ m) = false
same_words (x ∷ l) [] = false
same_words (x ∷ l) (y ∷ m) = eqb x y && same_words l m

-- "A working slice that isn't the table's is refused with 1", after a tray's own refusals
abbrev pub quick_refusals : State → List ℕ → List Record → List Refusal
quick_refusals s w rs = tray_refusals s rs ++ (not (same_words w (work_in s.table)) ⇒ XbTab) ∷ []

unfoldable pub quick_answer : State → List ℕ → List Record → ℕ
quick_answer s w rs = first_refusal (quick_refusals s w rs)

-- what a tray leaves, and the working slice
pub record Quick : Type 0 where
  pub tray : Tray
  pub work : List ℕ

abbrev pub beside : Tray → List ℕ → Quick
beside x w = record { tray = x; work = w }

-- "On a right one it gives the plain engine's answers, table, store and buffers for each call, and leaves the working slice right again." A refusal changes nothing.
unfoldable pub after_quick : State → List ℕ → List ℕ → List Record → Quick
after_quick s w bytes rs =
    let x : Tray = in_order s bytes rs in
    cond (eqb (quick_answer s w rs) XOK) (beside x (work_in x.state.table)) (beside (left s bytes rs) w)
