-- The code's test on two words, `a & b == a`, is the rule's: every compartment of a is in b.
use mathlib.Core.Bool.{Bool, true, false, ◌||◌, not}
use mathlib.Core.Path.{◌≡◌, refl, sym, ap, ◌∙◌}
use Prim.Native.Nat.{ℕ, zero, suc, ◌/◌, ◌%◌, ◌^◌, ◌<◌, ◌≤◌}
use native.Mathlib.Omega.{arith}
use native.Mathlib.Nat.{div-div-eq-div-mul, pow-suc, mul_comm}
use lib.Bits.{bit_and, and_step, and_shr, and_le_l}
use lib.Dec.{eqb}
use borrow.Author.Tests.{eqb-true, eq-eqb}
use Rattle.rules.specs.Level.{has, within}
use Rattle.laws.proofs.Tests.{or-rest, same_test}
use Rattle.laws.proofs.Below.{all-at, all_of}

-- ---- the rule's test, compartment by compartment

implies : (a b : Bool) → (a ≡ true → b ≡ true) → not a || b ≡ true
implies true b f = f refl
implies false b f = refl

pub within-at : (a b : ℕ) → within a b ≡ true → (k : ℕ) → k < 32 → has a k ≡ true → has b k ≡ true
unfolding within
within-at a b e k l p = or-rest (not (has a k)) (has b k) (all-at 32 (λ k. not (has a k) || has b k) e k l) (ap not p)

pub within_of : (a b : ℕ) → ((k : ℕ) → k < 32 → has a k ≡ true → has b k ≡ true) → within a b ≡ true
unfolding within
within_of a b h = all_of 32 (λ k. not (has a k) || has b k) (λ k l. implies (has a k) (has b k) (h k l))

-- ---- from the word test to the compartments

digit : (x y : ℕ) → bit_and x y ≡ x → x % 2 ≡ 1 → y % 2 ≡ 1
digit x y e o = omega (arith, and_step x y, and_le_l (x / 2) (y / 2))

and-has : (a b : ℕ) → bit_and a b ≡ a → (k : ℕ) → has a k ≡ true → has b k ≡ true
and-has a b e k h =
    eq-eqb _ _
    (digit (a / 2 ^ k) (b / 2 ^ k)
    (sym (and_shr a b k) ∙ ap (λ (x : ℕ). x / 2 ^ k) e)
    (eqb-true _ _ h))

-- ---- and back, from the lowest compartment up

half : (a k : ℕ) → a / 2 / 2 ^ k ≡ a / 2 ^ suc k
half a k = div-div-eq-div-mul a 2 (2 ^ k) ∙ ap (λ (x : ℕ). a / x) (mul_comm 2 (2 ^ k) ∙ sym (pow-suc 2 k))

low-le : (x y : ℕ) → x < 2 → (x ≡ 1 → y ≡ 1) → x ≤ y
low-le zero y l f = omega arith
low-le (suc zero) y l f = let e : y ≡ 1 = f refl in omega arith
low-le (suc (suc x)) y l f = omega arith

join : (a b : ℕ) → a % 2 ≤ b % 2 → bit_and (a / 2) (b / 2) ≡ a / 2 → bit_and a b ≡ a
join a b low high = omega (arith, and_step a b)

pub has-and : (n a b : ℕ) → a < 2 ^ n → ((k : ℕ) → k < n → has a k ≡ true → has b k ≡ true) → bit_and a b ≡ a
has-and zero a b l h = ap (λ (x : ℕ). bit_and x b) z ∙ sym z
  where
    z : a ≡ 0
    z = omega arith
has-and (suc n) a b l h =
    join a b
    (low-le (a % 2) (b % 2) (omega arith) (λ o. let e : b / 2 ^ 0 % 2 ≡ 1 = eqb-true (b / 2 ^ 0 % 2) 1
    (h 0 (omega arith) (eq-eqb (a / 2 ^ 0 % 2) 1 (omega (arith, o)))) in omega arith))
    (has-and n (a / 2) (b / 2) (omega (arith, pow-suc 2 n))
    (λ k m p. rw half (h (suc k) (omega arith) (rw half at p))))

pub and-within : (a b : ℕ) → a < 2 ^ 32 → eqb (bit_and a b) a ≡ within a b
and-within a b l =
    same_test (eqb (bit_and a b) a) (within a b)
    (λ e. within_of a b (λ k m. and-has a b (eqb-true _ _ e) k))
    (λ e. eq-eqb _ _ (has-and 32 a b l (within-at a b e)))
