-- The lists of free slots in the working slice: what is laid down for a cell, and looked at, is the rules' list of it; and how many words the lists have.
use mathlib.Core.Path.{◌≡◌, refl, ap}
use mathlib.Core.List.{List}
use Prim.Native.Nat.{ℕ, zero, suc, ◌+◌, ◌<◌, ◌≤◌}
use native.Mathlib.Omega.{arith}
use lib.ListN.{length, length-append}
use lib.Seq.{sets}
use borrow.Author.Tests.{le-leb}
use Rattle.rules.specs.Words.{sum_below}
use Rattle.rules.specs.Layout.{max_slots, Kind, process, segment, file, record_words, cells, cell_slots, configuration, first_slot, rd}
use Rattle.rules.specs.Work.{most_work, joined, key_at, free_keys, list_words, lists}
use Rattle.laws.proofs.Tests.{cond-true}
use Rattle.laws.proofs.Cells.{first_next}
use Rattle.layout.specs.declared.Header.{Header}
use Rattle.layout.specs.Header.{base_of}
use Rattle.table.specs.Shape.{IsHeader, Small}
use Rattle.table.proofs.Config.{base_read}
use Rattle.lists.specs.Free.{free_test, serial_at, key_of, free_list}
use Rattle.lists.specs.Region.{relisted, is_list}
use Rattle.lists.proofs.Lists.{sorted-length}
use Rattle.lists.proofs.Shown.{length-words}
use Rattle.work.specs.Parts.{lists_at, lists_in, stands_at}
use Rattle.work.specs.Passes.{InTurn}
use Rattle.work.proofs.Joined.{pass-more}
use Rattle.work.proofs.Sized.{Walk, own-slots}

-- the words of a cell's list
abbrev pub list_in : List ℕ → Kind → ℕ → List ℕ
list_in t k c = list_words (free_keys (configuration t) (rd (configuration t) t) k c) (cell_slots (configuration t) k c)

pub list_length : (t : List ℕ) (k : Kind) (c : ℕ) → length (list_in t k c) ≡ cell_slots (configuration t) k c + 1
unfolding free_keys
list_length t k c = length-words _ (cell_slots (configuration t) k c) (sorted-length _ _ (cell_slots (configuration t) k c) (first_slot (configuration t) k c))

-- those of a run, as the table's words have them
module _ (t : List ℕ) (base size count from at : ℕ) (few : from + count ≤ max_slots) where
  abbrev run-words : List ℕ
  run-words = list_words (free_list t base size count from) count

  run-length : length run-words ≡ count + 1
  unfolding free_list
  run-length = length-words _ count (sorted-length _ _ count from)

  pub relisted-few : (w : List ℕ) → relisted t base size count from w at ≡ sets w at run-words
  unfolding relisted
  relisted-few w = cond-true _ _ _ (le-leb (from + count) max_slots few)

  pub is-list-few : (w : List ℕ) → is_list t base size count from w at ≡ stands_at w at run-words
  unfolding is_list stands_at
  is-list-few w = rw (le-leb (from + count) max_slots few, run-length) refl

-- those of the first cells
pub lists_length : (t : List ℕ) (k : Kind) (c : ℕ) → length (joined c (list_in t k)) ≡ first_slot (configuration t) k c + c
unfolding joined first_slot sum_below
lists_length t k zero = refl
lists_length t k (suc c) =
    omega (arith, length-append (joined c (list_in t k)) (list_in t k c), list_length t k c, lists_length t k c, first_next (configuration t) k c)

-- one cell more
module _ (t : List ℕ) (n : Header) (is : IsHeader t n) (k : Kind) (end c : ℕ) (x : Walk t end c) (l : c < end) (from count : ℕ)
    (f : from ≡ first_slot (configuration t) k c) (e : count ≡ cell_slots t k c) where
  free-list : free_list t (base_of n k) (record_words k) count from ≡ free_keys (configuration t) (rd (configuration t) t) k c
  unfolding free_list free_keys free_test key_of serial_at key_at rd
  free-list = rw (f, own-slots t end c x l k count e, ← (base_read t n is k))

  words-is : list_words (free_list t (base_of n k) (record_words k) count from) count ≡ list_in t k c
  words-is = rw free-list (ap (list_words (free_keys (configuration t) (rd (configuration t) t) k c)) (own-slots t end c x l k count e))

  place_is : (at : ℕ) → at + from + c ≡ at + length (joined c (list_in t k))
  place_is at = omega (arith, f, lists_length t k c)

  pub list-passed : {S : Type 0} {passed : S → S → ℕ → List ℕ → Type 0} (laws : InTurn passed) (s u v : S) (at : ℕ) → passed s u at (joined c (list_in t k))
      → passed u v (at + from + c) (list_words (free_list t (base_of n k) (record_words k) count from) count) → passed s v at (joined (c + 1) (list_in t k))
  list-passed laws s u v at a b = pass-more laws s u v at c (list_in t k) a (at + from + c) (place_is at) _ words-is b

-- all cells
pub all-lists : (t : List ℕ) (k : Kind) (c : ℕ) → c ≡ cells (configuration t) → joined c (list_in t k) ≡ lists_in t k
unfolding lists
all-lists t k c e = rw e

-- they begin at no large place
pub few-listed : (n : Header) → Small n → (k : Kind) (at : ℕ) → at ≡ lists_at n k → at ≤ most_work
few-listed n s process at e = omega (arith, e)
few-listed n s segment at e = omega (arith, e, s.few-processes, s.few-cells)
few-listed n s file at e = omega (arith, e, s.few-processes, s.few-segments, s.few-cells)
