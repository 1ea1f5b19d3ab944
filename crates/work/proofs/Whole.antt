-- The whole working slice: its four parts one behind the other, how long it is, and the answers of the functions over it.
use mathlib.Core.Path.{◌≡◌, refl, sym, ap, ◌∙◌}
use mathlib.Core.Bool.{Bool, true, false, ◌&&◌}
use mathlib.Core.List.{List, ◌++◌}
use Prim.Native.Nat.{ℕ, ◌+◌}
use native.Mathlib.Omega.{arith}
use lib.ListN.{length, length-append}
use lib.Seq.{sets}
use borrow.Author.Tests.{eq-eqb, ne_eqb}
use Rattle.rules.specs.Words.{sum_below}
use Rattle.rules.specs.Claim.{test}
use Rattle.rules.specs.Layout.{Kind, process, segment, file, cells, configuration}
use Rattle.rules.specs.WellFormed.{well_formed}
use Rattle.rules.specs.SetUp.{can_set_up}
use Rattle.rules.specs.Errors.{XOK, XbTab, XbSz}
use Rattle.rules.specs.Work.{work_of, work_in, work_length, fill_answer, filled}
use Rattle.rules.specs.Quick.{same_words}
use Rattle.laws.proofs.Tests.{split, both_ways, cond-true, cond-false}
use Rattle.layout.specs.declared.Header.{Header}
use Rattle.layout.specs.Header.{header_of, slots_of}
use Rattle.table.specs.Shape.{Shaped}
use Rattle.table.proofs.Config.{header_read, cells-read, slots_read}
use Rattle.table.proofs.Formed.{shaped_of, misshapen}
use Rattle.work.specs.Parts.{lists_at, rows_at, rows_size, lists_in, all_rows}
use Rattle.work.specs.Passes.{InTurn}
use Rattle.words.proofs.Copies.{sets-all}
use Rattle.work.proofs.Joined.{four-passed, not_same}
use Rattle.work.proofs.Listed.{lists_length, all-lists}
use Rattle.work.proofs.Masked.{all-rows-length}

-- ---- those of a table

module _ (t : List ℕ) (n : Header) (s : Shaped t n) where
  part_length : (k : Kind) → length (lists_in t k) ≡ slots_of n k + n.cells
  part_length k =
      ap length (sym (all-lists t k (cells (configuration t)) refl)) ∙ lists_length t k (cells (configuration t))
      ∙ rw (s.sums k, slots_read t n s.framed.header k, cells-read t n s.framed.header)

  at-segments : lists_at n segment ≡ length (lists_in t process)
  at-segments = sym (part_length process)

  at-files : lists_at n file ≡ length (lists_in t process) + length (lists_in t segment)
  at-files = omega (arith, part_length process, part_length segment)

  at_rows : rows_at n ≡ length (lists_in t process) + length (lists_in t segment) + length (lists_in t file)
  at_rows = omega (arith, part_length process, part_length segment, part_length file)

  pub whole_long : (a b r : ℕ) → a ≡ rows_at n → b ≡ sum_below (cells (configuration t)) (rows_size t) → r ≡ a + b → r ≡ length (work_in t)
  unfolding work_in work_of
  whole_long a b r d e f =
      omega (
        arith,
        d,
        e,
        f,
        at_rows,
        all-rows-length t (cells (configuration t)),
        length-append (lists_in t process) (lists_in t segment ++ (lists_in t file ++ all_rows t)),
        length-append (lists_in t segment) (lists_in t file ++ all_rows t),
        length-append (lists_in t file) (all_rows t),
      )

  pub all-passed : {S : Type 0} {passed : S → S → ℕ → List ℕ → Type 0} (laws : InTurn passed) (s₀ s₁ s₂ s₃ s₄ : S)
      → passed s₀ s₁ (lists_at n process) (lists_in t process) → passed s₁ s₂ (lists_at n segment) (lists_in t segment)
      → passed s₂ s₃ (lists_at n file) (lists_in t file) → passed s₃ s₄ (rows_at n) (all_rows t) → passed s₀ s₄ 0 (work_in t)
  unfolding work_in work_of
  all-passed laws =
      four-passed laws (lists_in t process) (lists_in t segment) (lists_in t file) (all_rows t) _ _ _ at-segments at-files at_rows

-- ---- the answers

module _ (t : List ℕ) (m : ℕ) where
  -- a table that is well formed has its shape
  pub well-shaped : test (well_formed t m) ≡ true → (n : Header) → n ≡ header_of t → Shaped t n
  well-shaped e n f = shaped_of t m (split _ (test (can_set_up t m)) (λ g. g) (λ g. both_ways _ e (misshapen t m g))) n (header_read t n f)

  pub length-bad : test (well_formed t m) ≡ false → 0 ≡ work_length t m
  unfolding work_length
  length-bad e = sym (cond-false _ _ _ e)

  pub length-good : test (well_formed t m) ≡ true → (r : ℕ) → r ≡ length (work_in t) → r ≡ work_length t m
  unfolding work_length
  length-good e r f = f ∙ sym (cond-true _ _ _ e)

  module _ (w : List ℕ) where
    pub fill-bad : test (well_formed t m) ≡ false → (XbTab ≡ fill_answer t m w) × (w ≡ filled t m w)
    unfolding fill_answer filled
    fill-bad e = (rw e refl, rw e refl)

    module _ (e : test (well_formed t m) ≡ true) where
      pub fill-other : (length w ≡ length (work_in t) → ⊥) → (XbSz ≡ fill_answer t m w) × (w ≡ filled t m w)
      unfolding fill_answer filled
      fill-other l = let f = ne_eqb (length w) (length (work_in t)) l in (rw (e, f) refl, rw (e, f) refl)

      pub fill_done : length w ≡ length (work_in t) → (v u : List ℕ) → u ≡ t → v ≡ sets w 0 (work_in u) → (XOK ≡ fill_answer t m w) × (v ≡ filled t m w)
      unfolding fill_answer filled
      fill_done l v u same g =
          let f = eq-eqb (length w) (length (work_in t)) l in
          let put : v ≡ work_in t = rw same at g ∙ sets-all w (work_in t) (sym l) in
          (rw (e, f) refl, rw (e, f) put)

    pub fits-bad : test (can_set_up t m) ≡ false → false ≡ test (can_set_up t m) && same_words w (work_in t)
    fits-bad e = rw e

    module _ (e : test (can_set_up t m) ≡ true) where
      pub fits-other : (length w ≡ length (work_in t) → ⊥) → false ≡ test (can_set_up t m) && same_words w (work_in t)
      fits-other l = rw (e, not_same w (work_in t) l)

      pub fits-seen : (b : Bool) → b ≡ same_words w (work_in t) → b ≡ test (can_set_up t m) && same_words w (work_in t)
      fits-seen b f = rw e f
