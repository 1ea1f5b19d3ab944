-- No two lists share a word, and the rows come after all of them.
use mathlib.Core.Path.{◌≡◌, refl, sym, ap}
use mathlib.Core.List.{List}
use mathlib.Core.Logic.{◌⊎◌, inl, inr}
use Prim.Native.Nat.{ℕ, suc, ◌+◌, ◌*◌, ◌≤◌, ◌<◌}
use native.Mathlib.Omega.{arith}
use native.Mathlib.Decide.{ℕ_discrete, dec_lt}
use Rattle.rules.specs.Layout.{Kind, process, segment, file, cells, cell_slots, first_slot}
use Rattle.laws.proofs.Cells.{first_next, first-grows, run_end}
use native.Mathlib.Nat.{mul-le-mul_right, suc-mul}
use Rattle.rules.specs.Words.{sum_below}
use Rattle.laws.proofs.Below.{sum-grows}
use Rattle.follow.specs.Right.{runs, kind_at, list_at, rows_at, rows_to, mark_at}

module _ (h : List ℕ) where
  -- a list ends before the next kind begins
  list-in : (k : Kind) (c : ℕ) → c < cells h → list_at h k c + cell_slots h k c < kind_at h k + runs h k
  unfolding list_at runs
  list-in k c l = omega (arith, run_end h k c l)

  list-from : (k : Kind) (c : ℕ) → kind_at h k ≤ list_at h k c
  unfolding list_at
  list-from k c = omega arith

  -- one kind, two cells
  same_kind : (k : Kind) (c e : ℕ) → c < e → list_at h k c + cell_slots h k c < list_at h k e
  unfolding list_at
  same_kind k c e l = omega (arith, first_next h k c, first-grows h k (suc c) e l)

  abbrev pub Far : Kind → ℕ → Kind → ℕ → Type 0
  Far k c m e = (list_at h k c + cell_slots h k c < list_at h m e) ⊎ (list_at h m e + cell_slots h m e < list_at h k c)

  far-cells : (k : Kind) (c e : ℕ) → (c ≡ e → ⊥) → Far k c k e
  far-cells k c e ne = elim (dec_lt c e) [
    | yes l ↦ inl (same_kind k c e l)
    | no n ↦ inr (same_kind k e c (omega arith))
  ]

  -- another list than (k, c)
  pub far : (k m : Kind) (c e : ℕ) → c < cells h → e < cells h → (k ≡ m → c ≡ e → ⊥) → Far k c m e
  far process process c e a b ne = far-cells process c e (ne refl)
  far process segment c e a b ne = inl (omega (arith, list-in process c a, list-from segment e))
  far process file c e a b ne = inl (omega (arith, list-in process c a, list-from file e))
  far segment process c e a b ne = inr (omega (arith, list-in process e b, list-from segment c))
  far segment segment c e a b ne = far-cells segment c e (ne refl)
  far segment file c e a b ne = inl (omega (arith, list-in segment c a, list-from file e))
  far file process c e a b ne = inr (omega (arith, list-in process e b, list-from file c))
  far file segment c e a b ne = inr (omega (arith, list-in segment e b, list-from file c))
  far file file c e a b ne = far-cells file c e (ne refl)

  pub before-rows : (k : Kind) (c e f i : ℕ) → c < cells h → list_at h k c + cell_slots h k c < mark_at h e f i
  unfolding mark_at rows_at
  before-rows process c e f i l = omega (arith, list-in process c l)
  before-rows segment c e f i l = omega (arith, list-in segment c l)
  before-rows file c e f i l = omega (arith, list-in file c l)

  -- the runs of two cells share no slot
  pub run-apart : (k : Kind) (c e i : ℕ) → first_slot h k c ≤ i → i < first_slot h k c + cell_slots h k c → first_slot h k e ≤ i → i < first_slot h k e + cell_slots h k e
      → c ≡ e
  run-apart k c e i a b x y = elim (ℕ_discrete c e) [
    | yes q ↦ q
    | no n ↦ elim (dec_lt c e) [
      | yes l ↦ absurd (omega (arith, first_next h k c, first-grows h k (suc c) e l))
      | no g ↦ absurd (omega (arith, first_next h k e, first-grows h k (suc e) c (omega arith)))
    ]
  ]

  -- no two masks share a word
  pub rows_next : (c : ℕ) → rows_to h (suc c) ≡ rows_to h c + cell_slots h process c * cell_slots h file c
  unfolding rows_to sum_below
  rows_next c = refl

  rows_grow : (c e : ℕ) → c ≤ e → rows_to h c ≤ rows_to h e
  unfolding rows_to
  rows_grow c e l = sum-grows (λ c. cell_slots h process c * cell_slots h file c) c e l

  pub in_row : (n f g i : ℕ) → f < g → i < n → f * n + i < g * n
  in_row n f g i l b = omega (arith, mul-le-mul_right n l, suc-mul f n)

  mark-before : (c e f i g j : ℕ) → c < e → f < cell_slots h file c → i < cell_slots h process c → mark_at h c f i < mark_at h e g j
  unfolding mark_at
  mark-before c e f i g j l a b = omega (arith, in_row (cell_slots h file c) i (cell_slots h process c) f b a, rows_next c, rows_grow (suc c) e l)

  same_place : (n f g i j : ℕ) → i < n → j < n → f * n + i ≡ g * n + j → (f ≡ g) × (i ≡ j)
  same_place n f g i j a b e = elim (ℕ_discrete f g) [
    | yes q ↦ (q, let z : f * n ≡ g * n = ap (λ (x : ℕ). x * n) q in omega arith)
    | no ne ↦ elim (dec_lt f g) [
      | yes l ↦ absurd (omega (arith, in_row n f g i l a))
      | no nl ↦ absurd (omega (arith, in_row n g f j (omega arith) b))
    ]
  ]

  pub mark-inj : (c e f i g j : ℕ) → f < cell_slots h file c → i < cell_slots h process c → g < cell_slots h file e → j < cell_slots h process e
      → mark_at h c f i ≡ mark_at h e g j → (c ≡ e) × (f ≡ g) × (i ≡ j)
  unfolding mark_at
  mark-inj c e f i g j a b x y q = elim (ℕ_discrete c e) [
    | yes ce ↦ let z : i * cell_slots h file c + f ≡ j * cell_slots h file c + g = places c e f i g j ce q in
        let x2 : g < cell_slots h file c = rw (sym ce) at x in
        let s = same_place (cell_slots h file c) i j f g a x2 z in (ce, s.1, s.0)
    | no ne ↦ elim (dec_lt c e) [
      | yes l ↦ absurd (omega (arith, mark-before c e f i g j l a b))
      | no nl ↦ absurd (omega (arith, mark-before e c g j f i (omega arith) x y))
    ]
  ]
    where
      places : (c e f i g j : ℕ) → c ≡ e → mark_at h c f i ≡ mark_at h e g j → i * cell_slots h file c + f ≡ j * cell_slots h file c + g
      places c e f i g j ce q = let z : mark_at h c f i ≡ mark_at h c g j = rw (sym ce) at q in omega arith

  pub mark-inside : (c f i : ℕ) → c < cells h → f < cell_slots h file c → i < cell_slots h process c → mark_at h c f i < rows_at h + rows_to h (cells h)
  unfolding mark_at
  mark-inside c f i l a b = omega (arith, in_row (cell_slots h file c) i (cell_slots h process c) f b a, rows_next c, rows_grow (suc c) (cells h) l)
