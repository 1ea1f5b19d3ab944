-- The walk over the cells of a table: how many slots each has, that all are few, and how many words the masks of those passed have.
use mathlib.Core.Path.{◌≡◌, refl, sym, ap, ◌∙◌}
use mathlib.Core.List.{List}
use Prim.Native.Nat.{ℕ, suc, ◌+◌, ◌*◌, ◌<◌, ◌≤◌}
use native.Mathlib.Omega.{arith}
use native.Mathlib.Nat.{le_trans, mul-le-mul}
use native.Mathlib.Numerals.{add-one}
use Rattle.rules.specs.Words.{sum_below}
use Rattle.rules.specs.Layout.{max_cells, max_slots, Kind, process, segment, file, cell_words, cells, cell_slots_word, cell_slots, configuration, first_slot}
use Rattle.rules.specs.Work.{most_masks}
use Rattle.laws.proofs.Below.{sum_more, sum-products}
use Rattle.laws.proofs.Cells.{first_next, first-grows}
use Rattle.laws.proofs.Places.{conf-cell, conf-cells}
use Rattle.layout.specs.declared.Header.{Header}
use Rattle.table.specs.Shape.{Shaped}
use Rattle.table.proofs.Config.{cells-read, slots_read, slots_small}
use Rattle.work.specs.Parts.{rows_size}

-- the first c cells are passed, of as many as there are
pub record Walk (t : List ℕ) (end c : ℕ) : Type 0 where
  pub count : end ≡ cells (configuration t)
  pub few-cells : end ≤ max_cells
  pub few : (k : Kind) → first_slot (configuration t) k end ≤ max_slots
  pub within : c ≤ end

pub walk_none : (t : List ℕ) (n : Header) → Shaped t n → Walk t n.cells 0
walk_none t n s =
    let e : n.cells ≡ cells (configuration t) = sym (cells-read t n s.framed.header) in
    record {
      count = e;
      few-cells = s.framed.small.few-cells;
      few = λ k. rw (e, s.sums k, slots_read t n s.framed.header k) (slots_small n s.framed.small k);
      within = omega arith;
    }

cell-slots-word : (k : Kind) → cell_slots_word k < cell_words
cell-slots-word process = omega arith
cell-slots-word segment = omega arith
cell-slots-word file = omega arith

module _ (t : List ℕ) (end c : ℕ) (x : Walk t end c) where
  -- the slots of the cells passed
  pub passed-few : (k : Kind) → first_slot (configuration t) k c ≤ max_slots
  passed-few k = omega (arith, x.few k, first-grows (configuration t) k c end x.within)

  pub walk-all : end ≤ c → c ≡ cells (configuration t)
  walk-all l = omega (arith, x.within, x.count)

  module _ (l : c < end) where
    pub walk_more : Walk t end (c + 1)
    walk_more = record { count = x.count; few-cells = x.few-cells; few = x.few; within = omega arith }

    -- the cell's own, by the table's word
    pub own-slots : (k : Kind) (n : ℕ) → n ≡ cell_slots t k c → n ≡ cell_slots (configuration t) k c
    own-slots k n e = e ∙ sym (conf-cell t c (cell_slots_word k) (omega (arith, x.count, conf-cells t)) (cell-slots-word k))

    pub first_more : (k : Kind) (from n : ℕ) → from ≡ first_slot (configuration t) k c → n ≡ cell_slots t k c → from + n ≡ first_slot (configuration t) k (c + 1)
    first_more k from n f e = rw (add-one c, first_next (configuration t) k c, f, own-slots k n e)

    pub run-few : (k : Kind) (from n : ℕ) → from ≡ first_slot (configuration t) k c → n ≡ cell_slots t k c → from + n ≤ max_slots
    run-few k from n f e =
        omega (arith, f, own-slots k n e, first_next (configuration t) k c, first-grows (configuration t) k (suc c) end l, x.few k)

    pub own-few : (k : Kind) (n : ℕ) → n ≡ cell_slots t k c → n ≤ max_slots
    own-few k n e = omega (arith, run-few k (first_slot (configuration t) k c) n refl e)

-- ---- the masks

pub pair-few : (p f : ℕ) → p ≤ max_slots → f ≤ max_slots → p * f ≤ most_masks
pair-few p f a b = mul-le-mul a b

-- one cell more
module _ (t : List ℕ) (end c : ℕ) (x : Walk t end c) (l : c < end) (p f : ℕ) (a : p ≡ cell_slots t process c) (b : f ≡ cell_slots t file c) where
  pub size_few : p * f ≤ most_masks
  size_few = pair-few p f (own-few t end c x l process p a) (own-few t end c x l file f b)

  pub size_is : p * f ≡ rows_size t c
  unfolding rows_size
  size_is = rw (own-slots t end c x l process p a, own-slots t end c x l file f b)

  pub size-more : (s : ℕ) → s ≡ sum_below c (rows_size t) → s + p * f ≡ sum_below (c + 1) (rows_size t)
  size-more s e = rw (sum_more c (rows_size t), e, size_is)

-- of the cells passed
pub rows_few : (t : List ℕ) (end c : ℕ) → Walk t end c → sum_below c (rows_size t) ≤ most_masks
unfolding rows_size first_slot
rows_few t end c x =
    le_trans (sum-products (cell_slots (configuration t) process) (cell_slots (configuration t) file) c)
    (mul-le-mul (passed-few t end c x process) (passed-few t end c x file))

-- of all cells
pub rows_all : (t : List ℕ) (end c : ℕ) → Walk t end c → end ≤ c → (s : ℕ) → s ≡ sum_below c (rows_size t)
    → (s ≡ sum_below (cells (configuration t)) (rows_size t)) × (s ≤ most_masks)
rows_all t end c x l s e = (e ∙ ap (λ (k : ℕ). sum_below k (rows_size t)) (walk-all t end c x l), omega (arith, e, rows_few t end c x))
