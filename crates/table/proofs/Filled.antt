-- A list of zeros that is filled from the front with the cell of each slot, run by run.
use Rattle.std.proofs.Common.{◌≡◌, ℕ, ◌+◌, ◌<◌, ◌≤◌, ltb, List, [], length, get_or, set, replicate, refl, sym, ap, ◌∙◌, zero, suc, add-zero, add-one, arith, le-ltb}
use lib.ListN.{length-replicate, get_or-replicate}
use lib.Seq.{paste}
use borrow.Rule.Slice.PartMut.{put_mid}
use Rattle.std.proofs.lemmas.List.Edits.{paste_none, fill_from_more}
use Rattle.std.proofs.lemmas.Slice.{put_mid-paste}
use Rattle.rules.specs.Words.{tab_from}
use Rattle.rules.specs.Layout.{max_slots, Kind, cell_words, cells, slots, cell_word, cell_slots, cell_slots_word, first_slot, cell_of, configuration, cell_at}
use Rattle.laws.proofs.Tests.{cond-false}
use Rattle.laws.proofs.Tab.{is-tab, length-tab}
use Rattle.laws.proofs.Fill.{up_to, up_to-more}
use Rattle.laws.proofs.Cells.{first_next, first-grows, cell-run}
use Rattle.layout.specs.declared.Header.{Header}
use Rattle.layout.specs.Hall.{slot_cells}
use Rattle.layout.proofs.Hall.{slot-cell}
use Rattle.table.specs.Shape.{Shaped, CellsOf}
use Rattle.table.proofs.Config.{cell-word, slots_read, slots_small}

-- the list that has the cell of each of the first i slots, and 0 from there on
abbrev pub cells_to : List ℕ → Kind → ℕ → List ℕ
cells_to h k i = tab_from 0 max_slots (up_to 0 (cell_of h k) i)

pub length-cells : (h : List ℕ) (k : Kind) (i : ℕ) → length (cells_to h k i) ≡ max_slots
length-cells h k i = length-tab 0 max_slots (up_to 0 (cell_of h k) i)

module _ (t : List ℕ) (n : Header) (s : Shaped t n) (k : Kind) where
  pub few-slots : slots (configuration t) k ≤ max_slots
  few-slots = omega (arith, slots_read t n s.framed.header k, slots_small n s.framed.small k)

  pub run_fits : (c : ℕ) → c < n.cells → n.cells ≡ cells (configuration t) → first_slot (configuration t) k (c + 1) ≤ max_slots
  run_fits c l e =
      omega (arith, first-grows (configuration t) k (c + 1) (cells (configuration t)) (omega arith), s.sums k, few-slots)

  -- the run of a cell ends where its words say
  pub run-next : (c w x : ℕ) → c < get_or t 0 0 → w < cell_words → cell_slots_word k ≡ w → x ≡ get_or t (cell_at c w) 0
      → first_slot (configuration t) k c + x ≡ first_slot (configuration t) k (c + 1)
  run-next c w x l m e q =
      rw add-one
      (ap (first_slot (configuration t) k c +◌) (q ∙ sym (cell-word t c w l m) ∙ ap (cell_word (configuration t) c) (sym e)) ∙ sym (first_next (configuration t) k c))

-- zeros are a list of which nothing is filled yet
zeros-are : (n : ℕ) (f : ℕ → ℕ) → replicate n 0 ≡ tab_from 0 n (up_to 0 f 0)
zeros-are n f =
    is-tab n (up_to 0 f 0) 0 (replicate n 0) (length-replicate n 0)
    (λ j lt. get_or-replicate n j 0 0 lt ∙ sym (cond-false (ltb j 0) (f j) 0 (le-ltb j 0 (omega arith))))

module _ (h : List ℕ) (k : Kind) where
  pub filled_none : (l : List ℕ) → l ≡ replicate max_slots 0 → l ≡ cells_to h k 0
  filled_none l e = e ∙ zeros-are max_slots (cell_of h k)

  pub filled_more : (l : List ℕ) (i c : ℕ) → i < max_slots → c < cells h → first_slot h k c ≤ i → i < first_slot h k (c + 1) → l ≡ cells_to h k i
      → set l i c ≡ cells_to h k (i + 1)
  filled_more l i c m lc lo hi e =
      let end : first_slot h k (c + 1) ≡ first_slot h k c + cell_slots h k c = ap (first_slot h k) (add-one c) ∙ first_next h k c in
      up_to-more 0 (cell_of h k) max_slots i l c m e (sym (cell-run h k i c lc lo (omega arith)))

  -- the run's slots from i on, n of them
  filled_from : (l : List ℕ) (i n c : ℕ) → i + n ≤ max_slots → c < cells h → first_slot h k c ≤ i → i + n ≤ first_slot h k (c + 1) → l ≡ cells_to h k i
      → paste l i (replicate n c) n ≡ cells_to h k (i + n)
  filled_from l i zero c m lc lo hi e = sym (paste_none l i []) ∙ e ∙ ap (cells_to h k) (sym (add-zero i))
  filled_from l i (suc n) c m lc lo hi e =
      let before = filled_from l i n c (omega arith) lc lo (omega arith) e in
      let fits : i + n < length l = omega (arith, ap length e, length-cells h k i) in
      let next : suc n ≡ n + 1 = omega arith in
      let end : i + n + 1 ≡ i + suc n = omega arith in
      ap (λ (m : ℕ). paste l i (replicate m c) m) next
      ∙ sym (fill_from_more l i n c fits)
      ∙ filled_more (paste l i (replicate n c) n) (i + n) c (omega arith) lc (omega arith) (omega arith) before
      ∙ ap (cells_to h k) end

  -- all of them
  pub filled_run : (l ys : List ℕ) (i n c : ℕ) → i + n ≤ max_slots → c < cells h → first_slot h k c ≤ i → i + n ≤ first_slot h k (c + 1) → l ≡ cells_to h k i
      → ys ≡ replicate n c → put_mid i n l ys ≡ cells_to h k (i + n)
  filled_run l ys i n c m lc lo hi e same =
      put_mid-paste i n l ys (replicate n c) n same refl (sym (length-replicate n c)) ∙ filled_from l i n c m lc lo hi e

  pub filled-all : (l : List ℕ) (i : ℕ) → i ≡ slots h k → l ≡ cells_to h k i → l ≡ slot_cells h k
  unfolding slot_cells
  filled-all l i q e = rw q at e

  -- which has the cell of every slot
  pub cells_of : (l : List ℕ) → slots h k ≤ max_slots → l ≡ slot_cells h k → CellsOf h k l
  cells_of l few e i lt = ap (λ (x : List ℕ). get_or x i 0) e ∙ slot-cell h k i few lt
