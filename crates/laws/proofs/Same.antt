-- Two slices have the same words exactly where they are equal.
use mathlib.Core.Path.{◌≡◌, refl, sym, ap₂}
use mathlib.Core.Bool.{true, false, true≢false}
use mathlib.Core.List.{List, [], ◌∷◌}
use Prim.Native.Nat.{ℕ}
use lib.Dec.{eqb}
use borrow.Author.Tests.{eqb-true, eq-eqb}
use Rattle.rules.specs.Quick.{same_words}
use Rattle.laws.proofs.Tests.{and_left, and_right, and_both, refuted}

pub same_self : (l : List ℕ) → same_words l l ≡ true
unfolding same_words
same_self [] = refl
same_self (x ∷ l) = and_both (eqb x x) (same_words l l) (eq-eqb x x refl) (same_self l)

pub same-equal : (l m : List ℕ) → same_words l m ≡ true → l ≡ m
unfolding same_words
same-equal [] [] e = refl
same-equal [] (y ∷ m) e = absurd (true≢false (sym e))
same-equal (x ∷ l) [] e = absurd (true≢false (sym e))
same-equal (x ∷ l) (y ∷ m) e =
    ap₂ ◌∷◌ (eqb-true x y (and_left (eqb x y) (same_words l m) e)) (same-equal l m (and_right (eqb x y) (same_words l m) e))

pub same_not : (l m : List ℕ) → (l ≡ m → ⊥) → same_words l m ≡ false
same_not l m n = refuted (same_words l m) (λ e. n (same-equal l m e))
