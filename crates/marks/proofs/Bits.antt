-- Masks: one bit more or less, the bits of a mask, and the search by bits.
use mathlib.Core.Path.{◌≡◌, refl, sym, ap, ◌∙◌}
use mathlib.Core.Bool.{Bool, true, false, cond, ◌&&◌, ◌||◌}
use mathlib.Core.List.{List}
use Prim.Native.Nat.pow
use Prim.Native.Nat.{ℕ, zero, suc, ◌+◌, ◌-◌, ◌*◌, ◌/◌, ◌%◌, ◌^◌, ◌≤◌, ◌<◌}
use native.Mathlib.Omega.{arith}
use native.Mathlib.Decide.{ℕ_discrete}
use lib.Dec.{eqb}
use lib.ListN.{get_or}
use Rattle.rules.specs.Words.{some_below}
use Rattle.rules.specs.Layout.{process, record_words, entries}
use Rattle.rules.specs.Work.{mask}
use Rattle.laws.proofs.Tests.{split, both_ways, same_test, cond-true, cond-false, or_left, or_right, or-neither}
use Rattle.laws.proofs.Below.{one-le, some-none, none-at, some_same}
use Rattle.marks.specs.Masks.{clashes_here, met, row_met}

pub mask-same : (f g : ℕ → Bool) (k i : ℕ) → ((j : ℕ) → i ≤ j → j < i + k → f j ≡ g j) → mask f k i ≡ mask g k i
unfolding mask
mask-same f g zero i e = refl
mask-same f g (suc k) i e = rw (e i (omega arith) (omega arith), mask-same f g k (suc i) (λ j a b. e j (omega arith) (omega arith)))

pub mask-small : (f : ℕ → Bool) (k i : ℕ) → mask f k i < 2 ^ k
unfolding mask
mask-small f zero i = omega arith
mask-small f (suc k) i = omega (arith, pow.suc 2 k, one-le (f i), mask-small f k (suc i))

-- where one number more passes its bit is added
pub mask-more : (f g : ℕ → Bool) (x : ℕ) → f x ≡ false → g x ≡ true → (k i : ℕ) → i ≤ x → x < i + k → ((j : ℕ) → i ≤ j → j < i + k → (j ≡ x → ⊥) → f j ≡ g j)
    → mask g k i ≡ mask f k i + 2 ^ (x - i)
unfolding mask
mask-more f g x was is zero i lo hi e = absurd (omega arith)
mask-more f g x was is (suc k) i lo hi e = elim (ℕ_discrete x i) [
  | yes q ↦
      let a : ◌≡◌ {A = ℕ} (cond (g i) 1 0) 1 = cond-true (g i) 1 0 (rw (sym q) is) in
      let b : ◌≡◌ {A = ℕ} (cond (f i) 1 0) 0 = cond-false (f i) 1 0 (rw (sym q) was) in
      let rest : mask f k (suc i) ≡ mask g k (suc i) = mask-same f g k (suc i) (λ j p r. e j (omega arith) (omega arith) (λ z. omega arith)) in
      let z : x - i ≡ 0 = omega arith in
      rw (z, a, b, rest) (omega arith)
  | no ne ↦
      let here : f i ≡ g i = e i (omega arith) (omega arith) (λ z. ne (sym z)) in
      let rest : mask g k (suc i) ≡ mask f k (suc i) + 2 ^ (x - suc i)
      = mask-more f g x was is k (suc i) (omega arith) (omega arith) (λ j p r. e j (omega arith) (omega arith)) in
      let z : x - i ≡ suc (x - suc i) = omega arith in
      let two : 2 ^ suc (x - suc i) ≡ 2 * 2 ^ (x - suc i) = omega (arith, pow.suc 2 (x - suc i)) in
      rw (z, two, here, rest) (omega arith)
]

-- the same of the numbers from 0 on
pub mask-gains : (f g : ℕ → Bool) (k x : ℕ) → x < k → f x ≡ false → g x ≡ true → ((j : ℕ) → j < k → (j ≡ x → ⊥) → f j ≡ g j) → mask g k 0 ≡ mask f k 0 + 2 ^ x
mask-gains f g k x l was is e = let z : x - 0 ≡ x = omega arith in
    rw z at (mask-more f g x was is k 0 (omega arith) (omega arith) (λ j a b ne. e j (omega arith) ne))

-- and where one ceases to pass its bit is taken
pub mask-loses : (f g : ℕ → Bool) (k x : ℕ) → x < k → f x ≡ true → g x ≡ false → ((j : ℕ) → j < k → (j ≡ x → ⊥) → f j ≡ g j) → mask g k 0 ≡ mask f k 0 - 2 ^ x
mask-loses f g k x l was is e = omega (arith, mask-gains g f k x l is was (λ j b ne. sym (e j b ne)))

-- a bit that is there can be taken
bit_le : (f : ℕ → Bool) (x : ℕ) → f x ≡ true → (k i : ℕ) → i ≤ x → x < i + k → 2 ^ (x - i) ≤ mask f k i
unfolding mask
bit_le f x is zero i lo hi = absurd (omega arith)
bit_le f x is (suc k) i lo hi = elim (ℕ_discrete x i) [
  | yes q ↦
      let a : ◌≡◌ {A = ℕ} (cond (f i) 1 0) 1 = cond-true (f i) 1 0 (rw (sym q) is) in
      let z : x - i ≡ 0 = omega arith in
      rw (z, a) (omega arith)
  | no ne ↦
      let z : x - i ≡ suc (x - suc i) = omega arith in
      let two : 2 ^ suc (x - suc i) ≡ 2 * 2 ^ (x - suc i) = omega (arith, pow.suc 2 (x - suc i)) in
      rw (z, two) (omega (arith, bit_le f x is k (suc i) (omega arith) (omega arith)))
]

pub mask-has : (f : ℕ → Bool) (k x : ℕ) → x < k → f x ≡ true → 2 ^ x ≤ mask f k 0
mask-has f k x l is = let z : x - 0 ≡ x = omega arith in rw z at (bit_le f x is k 0 (omega arith) (omega arith))

-- ---- one number more: its bit is the highest

twice : (b : Bool) (x : ℕ) → 2 * cond b x 0 ≡ cond b (2 * x) 0
twice true x = refl
twice false x = refl

next : (f : ℕ → Bool) (k i : ℕ) → mask f (suc k) i ≡ mask f k i + cond (f (i + k)) (2 ^ k) 0
unfolding mask
next f zero i = let z : i + 0 ≡ i = omega arith in rw z (omega arith)
next f (suc k) i =
    let z : i + suc k ≡ suc i + k = omega arith in
    let two : 2 ^ suc k ≡ 2 * 2 ^ k = omega (arith, pow.suc 2 k) in
    rw (z, two) (omega (arith, next f k (suc i), twice (f (suc i + k)) (2 ^ k)))

pub mask_next : (f : ℕ → Bool) (k : ℕ) → mask f (k + 1) 0 ≡ mask f k 0 + cond (f k) (2 ^ k) 0
mask_next f k = let z : k + 1 ≡ suc k = omega arith in let y : 0 + k ≡ k = omega arith in rw z (rw y at (next f k 0))

-- ---- the lowest bit, and the others

pub mask-parity : (f : ℕ → Bool) (k i : ℕ) → mask f (suc k) i % 2 ≡ cond (f i) 1 0
unfolding mask
mask-parity f k i = omega (arith, one-le (f i))

pub mask-half : (f : ℕ → Bool) (k i : ℕ) → mask f (suc k) i / 2 ≡ mask f k (suc i)
unfolding mask
mask-half f k i = omega (arith, one-le (f i))

one-test : (b : Bool) → eqb (cond b 1 0) 1 ≡ b
one-test true = refl
one-test false = refl

-- ---- the search by bits is the search by descriptors

module _ (t : List ℕ) (at s b : ℕ) (f : ℕ → Bool) where
  abbrev both : ℕ → Bool
  both d = f d && clashes_here t at s b d

  met-step : (k i : ℕ) → met t at s b (suc k) (mask f (suc k) i) i ≡ both i || met t at s b k (mask f k (suc i)) (suc i)
  unfolding met
  met-step k i = rw (mask-parity f k i, mask-half f k i, one-test (f i))

  met-miss : (k i : ℕ) → ((j : ℕ) → i ≤ j → j < i + k → both j ≡ false) → met t at s b k (mask f k i) i ≡ false
  unfolding met
  met-miss zero i e = refl
  met-miss (suc k) i e = met-step k i
      ∙ or-neither (both i) (met t at s b k (mask f k (suc i)) (suc i)) (e i (omega arith) (omega arith)) (met-miss k (suc i) (λ j p q. e j (omega arith) (omega arith)))

  met-none : (k i : ℕ) → met t at s b k (mask f k i) i ≡ false → (j : ℕ) → i ≤ j → j < i + k → both j ≡ false
  met-none zero i e j p q = absurd (omega arith)
  met-none (suc k) i e j p q =
      let rest : Bool = met t at s b k (mask f k (suc i)) (suc i) in
      let z : both i || rest ≡ false = sym (met-step k i) ∙ e in
      elim (ℕ_discrete j i) [
        | yes y ↦ rw y (or_left (both i) rest z)
        | no n ↦ met-none k (suc i) (or_right (both i) rest z) j (omega arith) (omega arith)
      ]

  pub met_some : (k : ℕ) → met t at s b k (mask f k 0) 0 ≡ some_below k (λ d. f d && clashes_here t at s b d)
  met_some k = same_test (met t at s b k (mask f k 0) 0) (some_below k both)
      (λ e. split _ (some_below k both) (λ y. y)
      (λ y. both_ways (met t at s b k (mask f k 0) 0) e (met-miss k 0 (λ j p q. none-at k both y j (omega arith)))))
      (λ e. split _ (met t at s b k (mask f k 0) 0) (λ y. y)
      (λ y. both_ways (some_below k both) e (some-none k both (λ j q. met-none k 0 y j (omega arith) (omega arith)))))

-- where the words are masks, of g i for process i, a row answers the search by processes and descriptors
pub row-some : (t w : List ℕ) (first n at step s b : ℕ) (g : ℕ → ℕ → Bool) → ((i : ℕ) → i < n → get_or w (at + step * i) 0 ≡ mask (g i) entries 0)
    → row_met t w first n at step s b ≡ some_below n (λ i. some_below entries (λ d. g i d && clashes_here t (first + record_words process * i) s b d))
unfolding row_met
row-some t w first n at step s b g e =
    some_same n (λ i. met t (first + record_words process * i) s b entries (get_or w (at + step * i) 0) 0)
    (λ i. some_below entries (λ d. g i d && clashes_here t (first + record_words process * i) s b d))
    (λ i l. ap (λ (x : ℕ). met t (first + record_words process * i) s b entries x 0) (e i l) ∙ met_some t (first + record_words process * i) s b (g i) entries)
