-- Words one behind the other: a pass over them part by part, and what looking at all of them comes to.
use mathlib.Core.Path.{◌≡◌, ap}
use mathlib.Core.Bool.{false}
use mathlib.Core.List.{List, ◌++◌}
use Prim.Native.Nat.{ℕ, ◌+◌}
use native.Mathlib.Omega.{arith}
use lib.ListN.{length}
use lib.Seq.{take-length}
use Rattle.rules.specs.Words.{part}
use Rattle.rules.specs.Work.{joined}
use Rattle.rules.specs.Quick.{same_words}
use Rattle.laws.proofs.Joined.{joined-more}
use Rattle.laws.proofs.Same.{same_not}
use Rattle.work.specs.Parts.{stands_at}
use Rattle.work.specs.Passes.{InTurn}

-- ---- passed

module _ {S : Type 0} {passed : S → S → ℕ → List ℕ → Type 0} (laws : InTurn passed) where
  pub pass-none : (s : S) (at : ℕ) (f : ℕ → List ℕ) → passed s s at (joined 0 f)
  unfolding joined
  pass-none s at f = laws.none s at

  -- one part more
  pub pass-more : (s u v : S) (at n : ℕ) (f : ℕ → List ℕ) → passed s u at (joined n f) → (place : ℕ) → place ≡ at + length (joined n f)
      → (l : List ℕ) → l ≡ f n → passed u v place l → passed s v at (joined (n + 1) f)
  pass-more s u v at n f a place p l e b = rw joined-more (laws.more s u v at (joined n f) (f n) a (rw (p, e) at b))

  -- four parts
  module _ (x y z u : List ℕ) (i j k : ℕ) (a : i ≡ length x) (b : j ≡ length x + length y) (c : k ≡ length x + length y + length z) where
    second : i ≡ 0 + length x
    second = omega (arith, a)

    third : j ≡ 0 + length x + length y
    third = omega (arith, b)

    fourth : k ≡ 0 + length x + length y + length z
    fourth = omega (arith, c)

    pub four-passed : (s₀ s₁ s₂ s₃ s₄ : S) → passed s₀ s₁ 0 x → passed s₁ s₂ i y → passed s₂ s₃ j z → passed s₃ s₄ k u → passed s₀ s₄ 0 (x ++ (y ++ (z ++ u)))
    four-passed s₀ s₁ s₂ s₃ s₄ p q r t =
        laws.more s₀ s₁ s₄ 0 x (y ++ (z ++ u)) p
        (laws.more s₁ s₂ s₄ (0 + length x) y (z ++ u) (rw second at q)
        (laws.more s₂ s₃ s₄ (0 + length x + length y) z u (rw third at r) (rw fourth at t)))

-- ---- standing there

-- words of another number are others
pub not_same : (l m : List ℕ) → (length l ≡ length m → ⊥) → same_words l m ≡ false
not_same l m n = same_not l m (λ e. n (ap length e))

-- as many words as there are
pub stands-all : (w l : List ℕ) → length w ≡ length l → stands_at w 0 l ≡ same_words w l
unfolding stands_at part
stands-all w l e = rw (← e, take-length w)
