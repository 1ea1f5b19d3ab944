-- The masks of open entries in the working slice: what is laid down for a process, and looked at, are the rules' masks; and how many words they have.
use mathlib.Core.Path.{◌≡◌, refl, sym, ap, ◌∙◌}
use mathlib.Core.List.{List}
use Prim.Native.Nat.{ℕ, zero, suc, ◌+◌, ◌*◌, ◌<◌, ◌≤◌}
use native.Mathlib.Omega.{arith}
use native.Mathlib.Nat.{suc-mul}
use lib.ListN.{length}
use lib.Seq.{sets}
use borrow.Author.Tests.{le-leb}
use Rattle.rules.specs.Words.{sum_below, tab_from}
use Rattle.rules.specs.Layout.{max_slots, process, file, entries, held_at, cell_slots, configuration, first_slot, at, offset, rd}
use Rattle.rules.specs.Work.{most_masks, most_work, joined, mask, names, masks, rows}
use Rattle.laws.proofs.Tests.{cond-true}
use Rattle.laws.proofs.Tab.{length-tab}
use Rattle.layout.specs.declared.Header.{Header}
use Rattle.layout.specs.Header.{record_of}
use Rattle.table.specs.Shape.{IsHeader, Small, Shaped}
use Rattle.table.proofs.Config.{base_read}
use Rattle.marks.specs.Masks.{names_at, masks_at, masked, are_masks}
use Rattle.work.specs.Parts.{rows_at, rows_size, rows_in, all_rows, rows_from, stands_at}
use Rattle.laws.proofs.Joined.{joined_same, length-joined}
use Rattle.work.specs.Passes.{InTurn}
use Rattle.work.proofs.Joined.{pass-more}
use Rattle.work.proofs.Sized.{Walk, walk_none, walk_more, walk-all, own-slots, first_more, run-few, size_few, size-more, rows_few}

-- ---- a process's, in the table's words

pub masks-length : (t : List ℕ) (first n from : ℕ) → length (masks_at t first n from) ≡ n
unfolding masks_at
masks-length t first n from = length-tab from n _

module _ (t : List ℕ) (first count from at : ℕ) (few : from + count ≤ max_slots) where
  pub masked-few : (w : List ℕ) → masked t first count from w at ≡ sets w at (masks_at t first count from)
  unfolding masked
  masked-few w = cond-true _ _ _ (le-leb (from + count) max_slots few)

  pub are-masks-few : (w : List ℕ) → are_masks t first count from w at ≡ stands_at w at (masks_at t first count from)
  unfolding are_masks stands_at
  are-masks-few w = rw (le-leb (from + count) max_slots few, masks-length t first count from) refl

-- ---- a cell's

abbrev pub row_from : List ℕ → Header → ℕ → ℕ → ℕ → ℕ → List ℕ
row_from t n p f files i = masks_at t (record_of n process (p + i) + held_at file 0) files f

sum-same-each : (n b : ℕ) → sum_below n (λ _. b) ≡ n * b
unfolding sum_below
sum-same-each zero b = omega arith
sum-same-each (suc n) b = rw (suc-mul n b) (ap (λ (x : ℕ). x + b) (sum-same-each n b))

pub rows-from-length : (t : List ℕ) (n : Header) (p f files i : ℕ) → length (joined i (row_from t n p f files)) ≡ i * files
rows-from-length t n p f files i =
    length-joined i (row_from t n p f files) (λ _. files) (λ j l. masks-length t (record_of n process (p + j) + held_at file 0) files f) ∙ sum-same-each i files

-- one process more
pub row-passed : (t : List ℕ) (n : Header) (p f files i : ℕ) {S : Type 0} {passed : S → S → ℕ → List ℕ → Type 0} (laws : InTurn passed) (s u v : S) (at : ℕ)
    → passed s u at (joined i (row_from t n p f files)) → passed u v (at + i * files) (row_from t n p f files i)
    → passed s v at (joined (i + 1) (row_from t n p f files))
row-passed t n p f files i laws s u v at a b =
    let place : at + i * files ≡ at + length (joined i (row_from t n p f files)) = rw (rows-from-length t n p f files i) in
    pass-more laws s u v at i (row_from t n p f files) a (at + i * files) place _ refl b

-- all processes
pub all-processes : (t : List ℕ) (n : Header) (p processes f files i : ℕ) → i ≤ processes → processes ≤ i
    → joined i (row_from t n p f files) ≡ rows_from t n p processes f files
unfolding rows_from
all-processes t n p processes f files i a b = let e : i ≡ processes = omega arith in rw e

-- as the rules have them
module _ (t : List ℕ) (n : Header) (is : IsHeader t n) where
  names-is : (q i d : ℕ) → names_at t (record_of n process q + held_at file 0) i d ≡ names (rd (configuration t) t) q i d
  unfolding names_at names rd
  names-is q i d =
      let e : record_of n process q + held_at file 0 + 2 * d ≡ offset (configuration t) (at process q (held_at file d)) = omega (arith, base_read t n is process) in
      rw e

  row_is : (c q : ℕ) → masks_at t (record_of n process q + held_at file 0) (cell_slots (configuration t) file c) (first_slot (configuration t) file c)
      ≡ masks (configuration t) (rd (configuration t) t) c q
  unfolding masks_at masks
  row_is c q = ap (tab_from (first_slot (configuration t) file c) (cell_slots (configuration t) file c)) (λ x i. mask (λ d. names-is q i d x) entries 0)

  rows_is : (c p processes f files : ℕ) → p ≡ first_slot (configuration t) process c → processes ≡ cell_slots (configuration t) process c
      → f ≡ first_slot (configuration t) file c → files ≡ cell_slots (configuration t) file c → rows_from t n p processes f files ≡ rows_in t c
  unfolding rows_from rows
  rows_is c p processes f files a b d e = rw (a, b, d, e) (joined_same _ _ _ (λ i l. row_is c (first_slot (configuration t) process c + i)))

pub rows-length : (t : List ℕ) (c : ℕ) → length (rows_in t c) ≡ rows_size t c
unfolding rows masks rows_size
rows-length t c =
    length-joined (cell_slots (configuration t) process c) _ (λ _. cell_slots (configuration t) file c)
    (λ i l. length-tab (first_slot (configuration t) file c) (cell_slots (configuration t) file c) _)
    ∙ sum-same-each (cell_slots (configuration t) process c) (cell_slots (configuration t) file c)

pub all-rows-length : (t : List ℕ) (c : ℕ) → length (joined c (rows_in t)) ≡ sum_below c (rows_size t)
all-rows-length t c = length-joined c (rows_in t) (rows_size t) (λ i l. rows-length t i)

-- ---- the walk over the cells, with the first process and the first file not passed yet and the place of their masks

pub record Passed (t : List ℕ) (from end c p f place : ℕ) : Type 0 where
  pub walk : Walk t end c
  pub processes-is : p ≡ first_slot (configuration t) process c
  pub files-is : f ≡ first_slot (configuration t) file c
  pub place_is : place ≡ from + sum_below c (rows_size t)

pub passed_none : (t : List ℕ) (n : Header) → Shaped t n → (from : ℕ) → Passed t from n.cells 0 0 0 from
unfolding first_slot sum_below
passed_none t n s from = record { walk = walk_none t n s; processes-is = refl; files-is = refl; place_is = omega arith }

pub few-passed : (t : List ℕ) (n : Header) → Small n → (from end c p f place : ℕ) → from ≡ rows_at n → Passed t from end c p f place → place ≤ most_work
few-passed t n s from end c p f place e x =
    omega (arith, e, x.place_is, rows_few t end c x.walk, s.few-processes, s.few-segments, s.few-files, s.few-cells)

-- one cell more
module _ (t : List ℕ) (from end c p f place : ℕ) (x : Passed t from end c p f place) (l : c < end) (processes files : ℕ)
    (a : processes ≡ cell_slots t process c) (b : files ≡ cell_slots t file c) where
  pub passed-more : Passed t from end (c + 1) (p + processes) (f + files) (place + processes * files)
  passed-more = record {
    walk = walk_more t end c x.walk l;
    processes-is = first_more t end c x.walk l process p processes x.processes-is a;
    files-is = first_more t end c x.walk l file f files x.files-is b;
    place_is = omega (arith, x.place_is, size-more t end c x.walk l processes files a b (sum_below c (rows_size t)) refl);
  }

  pub processes-few : p + processes ≤ max_slots
  processes-few = run-few t end c x.walk l process p processes x.processes-is a

  pub files-few : f + files ≤ max_slots
  files-few = run-few t end c x.walk l file f files x.files-is b

  pub rows-size-few : processes * files ≤ most_masks
  rows-size-few = size_few t end c x.walk l processes files a b

  here : place ≡ from + length (joined c (rows_in t))
  here = x.place_is ∙ ap (λ (s : ℕ). from + s) (sym (all-rows-length t c))

  module _ (n : Header) (is : IsHeader t n) where
    cell-is : rows_from t n p processes f files ≡ rows_in t c
    cell-is =
        rows_is t n is c p processes f files x.processes-is (own-slots t end c x.walk l process processes a)
        x.files-is (own-slots t end c x.walk l file files b)

    pub cell-passed : {S : Type 0} {passed : S → S → ℕ → List ℕ → Type 0} (laws : InTurn passed) (s u v : S) → passed s u from (joined c (rows_in t))
        → passed u v place (rows_from t n p processes f files) → passed s v from (joined (c + 1) (rows_in t))
    cell-passed laws s u v d e = pass-more laws s u v from c (rows_in t) d place here _ cell-is e

-- all cells
pub all-rows : (t : List ℕ) (from end c p f place : ℕ) → Passed t from end c p f place → end ≤ c
    → joined c (rows_in t) ≡ all_rows t
all-rows t from end c p f place x l = ap (λ (k : ℕ). joined k (rows_in t)) (walk-all t end c x.walk l)
