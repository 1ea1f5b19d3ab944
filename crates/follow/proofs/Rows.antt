-- A file's row of masks answers call 8's search for a clash.
use mathlib.Core.Path.{◌≡◌, sym, ap, ◌∙◌}
use mathlib.Core.Bool.{true, ◌&&◌, and-false}
use mathlib.Core.List.{List}
use Prim.Native.Nat.{ℕ, ◌+◌, ◌*◌, ◌-◌, ◌<◌}
use native.Mathlib.Omega.{arith}
use native.Mathlib.Nat.{mul_comm}
use lib.Dec.{eqb}
use lib.ListN.{get_or}
use borrow.Author.Tests.{eqb-true, eq-eqb}
use Rattle.rules.specs.Layout.{process, file, record_words, slots, cells, cell_slots, first_slot, cell_of, at, offset, rd, entries, held_at, used_at}
use Rattle.rules.specs.Seid.{class, class_of, index_of, formed}
use Rattle.rules.specs.Modes.{valid_modes}
use Rattle.rules.specs.Work.{mask, names}
use Rattle.rules.specs.Call08.{clashes_at, clashes}
use Rattle.laws.proofs.Tests.{split}
use Rattle.laws.proofs.Below.{some_same}
use Rattle.laws.proofs.Cells.{run_end}
use Rattle.laws.proofs.Seids.{Formed, is-formed, class-some}
use Rattle.laws.proofs.Shape.{Shape, in-run}
use Rattle.kept.proofs.Fine.{Fine}
use Rattle.modes.proofs.Numbers.{clash-valid}
use Rattle.marks.specs.Masks.{clashes_here, row_met}
use Rattle.marks.proofs.Bits.{row-some}
use Rattle.follow.specs.Right.{mark_at, Right}

module _ (h t w : List ℕ) (shape : Shape h) (fine : Fine h (rd h t)) (right : Right h (rd h t) w) (s b : ℕ) (form : formed h file s ≡ true) (valid : valid_modes b ≡ true)
    (c first : ℕ) (cell : cell_of h file (index_of s) ≡ c) (there : first ≡ offset h (at process (first_slot h process c) (held_at file 0))) where
  named : Formed (class file) (slots h file) s
  named = is-formed (class file) (slots h file) s form

  -- the file's place in its cell
  abbrev place : ℕ
  place = index_of s - first_slot h file c

  run : (c < cells h) × (first_slot h file c + place ≡ index_of s) × (place < cell_slots h file c)
  run = rw (sym cell) (let x = in-run h shape file (index_of s) named.index_in in (x.0, omega (arith, x.1), omega (arith, x.1, x.2)))

  -- the masks of its row, a step apart
  row-mask : (i : ℕ) → i < cell_slots h process c
      → get_or w (mark_at h c place 0 + cell_slots h file c * i) 0 ≡ mask (names (rd h t) (first_slot h process c + i) (index_of s)) entries 0
  unfolding mark_at
  row-mask i l =
      let e : mark_at h c place i ≡ mark_at h c place 0 + cell_slots h file c * i = omega (arith, mul_comm i (cell_slots h file c)) in
      ap (λ (k : ℕ). get_or w k 0) (sym e) ∙ right.marks c place i run.0 run.2 l
      ∙ ap (λ (f : ℕ). mask (names (rd h t) (first_slot h process c + i) f) entries 0) run.1

  -- the two words of a descriptor, from the first process's first on
  held_word : (i d : ℕ) → get_or t (first + record_words process * i + 2 * d) 0 ≡ rd h t (at process (first_slot h process c + i) (held_at file d))
  unfolding rd
  held_word i d = ap (λ (k : ℕ). get_or t k 0) (omega (arith, there))

  used-word : (i d : ℕ) → get_or t (first + record_words process * i + (2 * d + 1)) 0 ≡ rd h t (at process (first_slot h process c + i) (used_at file d))
  unfolding rd
  used-word i d = ap (λ (k : ℕ). get_or t k 0) (omega (arith, there))

  -- a descriptor that clashes is marked
  clash-same : (i d : ℕ) → i < cell_slots h process c → d < entries
      → names (rd h t) (first_slot h process c + i) (index_of s) d && clashes_here t (first + record_words process * i) s b d
      ≡ clashes_at (rd h t) s b (first_slot h process c + i) d
  unfolding names clashes_here clashes_at
  clash-same i d il dl =
      let q : ℕ = first_slot h process c + i in
      let x : ℕ = rd h t (at process q (held_at file d)) in
      let ql : q < slots h process = rw (sym (shape.sums process)) (omega (arith, run_end h process c run.0)) in
      rw (held_word i d, used-word i d) (split _ (eqb x s)
      (λ e. let is : x ≡ s = eqb-true x s e in
      let some : x ≡ 0 → ⊥ = λ z. class-some s (class file) (omega arith) named.class-is (sym is ∙ z) in
      let k : eqb (class_of x) (class file) ≡ true = eq-eqb _ _ (ap class_of is ∙ named.class-is) in
      let j : eqb (index_of x) (index_of s) ≡ true = eq-eqb _ _ (ap index_of is) in
      rw (k, j, e, clash-valid _ b ((fine.entry file tt q d ql dl).valid some) valid))
      (λ e. rw (e, and-false)))

  pub row-clashes : row_met t w first (cell_slots h process c) (mark_at h c place 0) (cell_slots h file c) s b ≡ clashes h (rd h t) c s b
  unfolding clashes
  row-clashes =
      row-some t w first (cell_slots h process c) (mark_at h c place 0) (cell_slots h file c) s b (λ i. names (rd h t) (first_slot h process c + i) (index_of s)) row-mask
      ∙ some_same (cell_slots h process c) _ _ (λ i il. some_same entries _ (clashes_at (rd h t) s b (first_slot h process c + i)) (λ d dl. clash-same i d il dl))
