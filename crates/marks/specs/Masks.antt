-- The masks of open entries, in the table's words: for a process and a file of its cell a word, with a bit for each descriptor that names the file.
use Rattle.std.specs.Prelude.{Bool, false, cond, ◌&&◌, ◌||◌, List, ℕ, zero, suc, ◌+◌, ◌*◌, ◌/◌, ◌%◌, ◌^◌, ◌-◌, ltb, leb, eqb, get_or, set}
use Rattle.std.proofs.lemmas.List.Edits.{sets}
use Rattle.rules.specs.Words.{part, some_below, tab_from}
use Rattle.rules.specs.Layout.{max_slots, process, record_words, entries}
use Rattle.rules.specs.Layout as rules
use Rattle.rules.specs.Seid.{class, class_of, index_of}
use Rattle.rules.specs.Work.{mask}
use Rattle.rules.specs.Quick.{same_words}
use Rattle.modes.specs.Clash.{clash_of}

-- descriptor d names file slot i; the process's descriptors begin at a place
unfoldable pub names_at : List ℕ → ℕ → ℕ → ℕ → Bool
names_at t at i d = eqb (class_of (get_or t (at + 2 * d) 0)) (class rules.file) && eqb (index_of (get_or t (at + 2 * d) 0)) i

-- the process's masks of n files from one on
unfoldable pub masks_at : List ℕ → ℕ → ℕ → ℕ → List ℕ
masks_at t at n from = tab_from from n (λ i. mask (names_at t at i) entries 0)

-- descriptor d holds s, with modes that clash with b
unfoldable pub clashes_here : List ℕ → ℕ → ℕ → ℕ → ℕ → Bool
clashes_here t at s b d = eqb (get_or t (at + 2 * d) 0) s && clash_of (get_or t (at + (2 * d + 1)) 0) b

-- some of the k descriptors from d on that the bits of x name does
unfoldable pub met : List ℕ → ℕ → ℕ → ℕ → ℕ → ℕ → ℕ → Bool
met t at s b zero x d = false
met t at s b (suc k) x d = (eqb (x % 2) 1 && clashes_here t at s b d) || met t at s b k (x / 2) (suc d)

-- and of n processes, the first one's descriptors at a place: their masks of one file stand at `at`, at + step, ..
unfoldable pub row_met : List ℕ → List ℕ → ℕ → ℕ → ℕ → ℕ → ℕ → ℕ → Bool
row_met t w first n at step s b = some_below n (λ i. met t (first + record_words process * i) s b entries (get_or w (at + step * i) 0) 0)

-- descriptor d comes to name a file, and ceases to; where the word has no such bit to give or to take, it stays
unfoldable pub marked : List ℕ → ℕ → ℕ → List ℕ
marked w at d = cond (ltb d entries && ltb (get_or w at 0) (2 ^ entries)) (set w at (get_or w at 0 + 2 ^ d)) w

unfoldable pub unmarked : List ℕ → ℕ → ℕ → List ℕ
unmarked w at d = cond (ltb d entries && leb (2 ^ d) (get_or w at 0)) (set w at (get_or w at 0 - 2 ^ d)) w

-- a process's masks of n files from one on are made anew; files that no table has make none
unfoldable pub masked : List ℕ → ℕ → ℕ → ℕ → List ℕ → ℕ → List ℕ
masked t first n from w at = cond (leb (from + n) max_slots) (sets w at (masks_at t first n from)) w

-- whether the words at a place are those masks
unfoldable pub are_masks : List ℕ → ℕ → ℕ → ℕ → List ℕ → ℕ → Bool
are_masks t first n from w at = leb (from + n) max_slots && same_words (part w at n) (masks_at t first n from)
