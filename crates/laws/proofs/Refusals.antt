-- A call that is carried out: none of its refusals holds.
use mathlib.Core.Path.{◌≡◌, sym, ◌∙◌}
use mathlib.Core.Bool.{Bool, true, false, ◌&&◌, not}
use mathlib.Core.List.{List, [], ◌∷◌}
use Prim.Native.Nat.{ℕ, ◌<◌}
use native.Mathlib.Omega.{arith}
use lib.Dec.{ltb, eqb}
use borrow.Author.Tests.{ltb-true, eqb-false}
use Rattle.rules.specs.Rule.{Refusal, first_refusal}
use Rattle.laws.proofs.Tests.{failed, and_left, and_right, split, cond-true, cond-false}

-- no test of the list holds
abbrev pub Clear : List Refusal → Type 0
Clear [] = Unit {0}
Clear (x ∷ xs) = (x.test ≡ false) × Clear xs

-- every refusal has a number
abbrev pub numbered : List Refusal → Bool
numbered [] = true
numbered (x ∷ xs) = ltb 0 x.number && numbered xs

pub clear_first : (x : Refusal) (xs : List Refusal) → 0 < x.number → first_refusal (x ∷ xs) ≡ 0 → (x.test ≡ false) × (first_refusal xs ≡ 0)
clear_first x xs n e = split _ x.test
    (λ t. absurd (omega (arith, cond-true x.test x.number (first_refusal xs) t)))
    (λ f. (f, sym (cond-false x.test x.number (first_refusal xs) f) ∙ e))

pub clear : (xs : List Refusal) → numbered xs ≡ true → first_refusal xs ≡ 0 → Clear xs
clear [] n e = tt
clear (x ∷ xs) n e =
    let f = clear_first x xs (ltb-true 0 x.number (and_left (ltb 0 x.number) (numbered xs) n)) e in
    (f.0, clear xs (and_right (ltb 0 x.number) (numbered xs) n) f.1)

-- no refusal has the number n
abbrev pub without : ℕ → List Refusal → Bool
without n [] = true
without n (x ∷ xs) = not (eqb x.number n) && without n xs

pub never : (n : ℕ) (xs : List Refusal) → 0 < n → without n xs ≡ true → first_refusal xs ≡ n → ⊥
never n [] l w e = omega arith
never n (x ∷ xs) l w e = split ⊥ x.test
    (λ t. eqb-false x.number n (failed _ (and_left (not (eqb x.number n)) (without n xs) w)) (sym (cond-true x.test x.number (first_refusal xs) t) ∙ e))
    (λ f. never n xs l (and_right (not (eqb x.number n)) (without n xs) w) (sym (cond-false x.test x.number (first_refusal xs) f) ∙ e))
