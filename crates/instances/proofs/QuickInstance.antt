-- The quick engine's promises speak of something: the working slice of Instance's table, word by word; a quick tray that runs on it and leaves another; a slice with one
-- word changed that is refused; and demand 3 of quick trays on two tables whose working slices differ. And each tray is to be lent its own table's: one that is not tells.
use mathlib.Core.Path.{◌≡◌, refl, sym, ap, ◌∙◌}
use mathlib.Core.Bool.{Bool}
use mathlib.Core.List.{List, [], ◌∷◌, ◌++◌}
use Prim.Native.Nat.{ℕ, ◌≤◌}
use native.Mathlib.Omega.{arith}
use lib.ListN.{length, get_or, set, replicate}
use borrow.Author.Tests.{leb-true}
use Rattle.rules.specs.Errors.{XOK, XbTab}
use Rattle.rules.specs.Step.{Answer, answer}
use Rattle.rules.specs.Observer.{observer}
use Rattle.rules.specs.Tray.{Record, Tray, left, in_order, most_records}
use Rattle.rules.specs.Work.{joined, key_at, insert, sorted, free_keys, list_words, lists, mask, names, masks, rows, work_of, work_in, filled}
use Rattle.rules.specs.Quick.{quick_answer, Quick, beside, after_quick}
use Rattle.promises.proofs.Tray.{tray-runs}
use Rattle.promises.proofs.Quick.{another-slice, another-left, own-tray, quick-zero, fills}
use Rattle.secrecy.proofs.Tray.{SameTrays, Premises}
use Rattle.secrecy.proofs.Quick.{Lent, lent_again, no-guard}
use Rattle.instances.proofs.Instance.{guarded, hall, fresh, other, secret, fresh-formed, other-formed, fresh-configuration, low-closed, agreed, unguarded}
use Rattle.instances.proofs.TrayInstance.{record_of, open-trays, divided, first-error}

-- to open this is to open the definitions that working slices compute with
unfoldable pub open-work : Unit {0}
unfolding open-trays joined key_at insert sorted free_keys list_words lists mask names masks rows work_of work_in
open-work = tt

-- ---- a table's working slice, word by word

-- of Instance's fresh table: two cells, each with a live process, a free process slot, no segment slots and two free file slots. How many are free and their keys, for
-- the processes of the two cells, their segments and their files; then the masks of the two cells, none of them open.
unfoldable pub words : List ℕ
words =
    (1 ∷ 1 ∷ 0 ∷ []) ++ ((1 ∷ 3 ∷ 0 ∷ []) ++ ((0 ∷ 0 ∷ []) ++ ((2 ∷ 1 ∷ 0 ∷ []) ++ ((2 ∷ 3 ∷ 2 ∷ [])
    ++ ((0 ∷ 0 ∷ 0 ∷ 0 ∷ []) ++ (0 ∷ 0 ∷ 0 ∷ 0 ∷ []))))))

pub words-own : words ≡ work_in (fresh 0).table
unfolding words guarded fresh open-work
words-own = refl

fresh-lent : Lent (fresh 0) words
fresh-lent = record { formed = fresh-formed 0 refl; own = words-own }

-- the fill function makes it, whatever stood there
abbrev room : List ℕ
room = replicate 22 9

room-long : length room ≡ length (work_in (fresh 0).table)
unfolding words
room-long = rw (← words-own) refl

pub words-filled : filled (fresh 0).table (length (fresh 0).store) room ≡ words
words-filled = (fills (fresh 0).table (length (fresh 0).store) room (fresh-formed 0 refl) room-long).1 ∙ sym words-own

-- ---- a quick tray, which leaves another

-- the low process creates a file, and a second, and closes the first, which is freed; the high process creates one
abbrev asks : ℕ → ℕ → ℕ → ℕ → Record
asks p k a b = record_of p k a b 0 0 0

unfoldable pub morning : List Record
morning = asks 0 7 420 3 ∷ asks 0 7 420 1 ∷ asks 0 9 0 0 ∷ asks 2 7 420 3 ∷ []

morning-short : length morning ≤ most_records
unfolding morning
morning-short = leb-true 4 most_records refl

abbrev noon : Quick
noon = after_quick (fresh 0) words [] morning

noon-tray : noon.tray ≡ in_order (fresh 0) [] morning
noon-tray = own-tray (fresh 0) words [] morning words-own ∙ tray-runs (fresh 0) [] morning (fresh-formed 0 refl) morning-short

noon-lent : Lent noon.tray.state noon.work
noon-lent = lent_again (fresh 0) words [] morning fresh-lent

-- it runs, and each record has its answer
pub morning-runs : quick_answer (fresh 0) words morning ≡ XOK
morning-runs = quick-zero (fresh 0) words [] morning words-own (fresh-formed 0 refl) morning-short

unfoldable pub answers_of : List Record → List Answer
answers_of [] = []
answers_of (r ∷ rs) = r.answer ∷ answers_of rs

pub morning-answers : answers_of noon.tray.records ≡ answer 0 2164260865 0 ∷ answer 0 2164326401 1 ∷ answer 0 0 0 ∷ answer 0 2164391937 0 ∷ []
unfolding morning guarded fresh answers_of open-work
morning-answers = rw noon-tray refl

-- slot 0 is free again, with serial 1, and so its key is 256; descriptor 1 of process 0 names file 1, and descriptor 0 of process 2 file 2
pub words_left : noon.work
    ≡ (1 ∷ 1 ∷ 0 ∷ []) ++ ((1 ∷ 3 ∷ 0 ∷ []) ++ ((0 ∷ 0 ∷ []) ++ ((1 ∷ 256 ∷ 0 ∷ []) ++ ((1 ∷ 3 ∷ 0 ∷ [])
    ++ ((0 ∷ 2 ∷ 0 ∷ 0 ∷ []) ++ (1 ∷ 0 ∷ 0 ∷ 0 ∷ []))))))
unfolding morning guarded fresh open-work
words_left = noon-lent.own ∙ ap (λ (x : Tray). work_in x.state.table) noon-tray ∙ refl

-- the next quick tray is lent what this one left, and runs: the file created takes slot 0, and its serial is 2
unfoldable pub evening : List Record
evening = asks 0 7 420 3 ∷ []

evening-short : length evening ≤ most_records
unfolding evening
evening-short = leb-true 1 most_records refl

pub evening-runs : quick_answer noon.tray.state noon.work evening ≡ XOK
evening-runs = quick-zero noon.tray.state noon.work [] evening noon-lent.own noon-lent.formed evening-short

pub evening-answers : answers_of (after_quick noon.tray.state noon.work [] evening).tray.records ≡ answer 0 2164260866 0 ∷ []
unfolding morning evening guarded fresh answers_of open-work
evening-answers =
    ap (λ (x : Tray). answers_of x.records) (own-tray noon.tray.state noon.work [] evening noon-lent.own
    ∙ tray-runs noon.tray.state [] evening noon-lent.formed evening-short)
    ∙ ap (λ (x : Tray). answers_of (in_order x.state [] evening).records) noon-tray ∙ refl

-- ---- a slice with one word changed

-- it says that descriptor 0 of process 3 names file 3
unfoldable pub spoiled : List ℕ
spoiled = set words 21 1

spoiled-other : spoiled ≡ work_in (fresh 0).table → ⊥
unfolding spoiled words
spoiled-other e = let z : ◌≡◌ {A = ℕ} 1 0 = ap (λ (w : List ℕ). get_or w 21 0) (e ∙ sym words-own) in omega (arith, z)

pub spoiled-refused : quick_answer (fresh 0) spoiled morning ≡ XbTab
spoiled-refused = another-slice (fresh 0) spoiled [] morning (fresh-formed 0 refl) morning-short spoiled-other

pub spoiled-left : after_quick (fresh 0) spoiled [] morning ≡ beside (left (fresh 0) [] morning) spoiled
spoiled-left = another-left (fresh 0) spoiled [] morning (fresh-formed 0 refl) morning-short spoiled-other

-- ---- demand 3 of quick trays

-- the working slice of the other table: in the high cell no process slot is free, and one file slot
unfoldable pub words' : List ℕ
words' =
    (1 ∷ 1 ∷ 0 ∷ []) ++ ((0 ∷ 0 ∷ 0 ∷ []) ++ ((0 ∷ 0 ∷ []) ++ ((2 ∷ 1 ∷ 0 ∷ []) ++ ((1 ∷ 3 ∷ 0 ∷ [])
    ++ ((0 ∷ 0 ∷ 0 ∷ 0 ∷ []) ++ (0 ∷ 0 ∷ 0 ∷ 0 ∷ []))))))

pub words-own' : words' ≡ work_in (other 0).table
unfolding words' other secret guarded fresh open-work
words-own' = refl

abbrev low : ℕ → Bool
low = observer hall 0

-- the low process asks what it asks in the morning; in the other table another process of the high cell creates a file, and before the rest
unfoldable pub morning' : List Record
morning' = asks 3 7 438 1 ∷ asks 0 7 420 3 ∷ asks 0 7 420 1 ∷ asks 0 9 0 0 ∷ []

pub premises : Premises hall low morning morning' [] []
unfolding morning morning' guarded open-trays
premises = record {
  short = leb-true 4 most_records refl;
  short' = leb-true 4 most_records refl;
  asked-same = refl;
  long = refl;
  equal = λ i e. refl;
  apart = divided hall low 0 morning refl;
  apart' = divided hall low 0 morning' refl;
}

other-lent : Lent (other 0) words'
other-lent = record { formed = other-formed 0 refl; own = words-own' }

-- Demand 3 at work: the low process gets the same answers, whatever stands in the high cell and so in the working slice, and whatever happens there.
pub at-work : SameTrays hall low morning noon.tray (after_quick (other 0) words' [] morning').tray
at-work = (rw (fresh-configuration 0) at (no-guard low (fresh 0) (other 0) words words' fresh-lent other-lent))
    (low-closed 0) (agreed 0) morning morning' [] [] premises unguarded

-- Why each is to be lent its own table's: lent the other's, a tray is refused, and its records are not answered.
words-differ : words' ≡ work_in (fresh 0).table → ⊥
unfolding words words'
words-differ e = let z : ◌≡◌ {A = ℕ} 0 1 = ap (λ (w : List ℕ). get_or w 3 0) (e ∙ sym words-own) in omega (arith, z)

others-left : after_quick (fresh 0) words' [] morning ≡ beside (left (fresh 0) [] morning) words'
others-left = another-left (fresh 0) words' [] morning (fresh-formed 0 refl) morning-short words-differ

pub others-tell : SameTrays hall low morning noon.tray (after_quick (fresh 0) words' [] morning).tray → ⊥
unfolding morning guarded fresh first-error open-work
others-tell same =
    let here = rw (noon-tray, others-left) at same in
    let z : ◌≡◌ {A = ℕ} 0 9 = ap (λ (rs : List Record). first-error rs) here.answers in
    omega (arith, z)
