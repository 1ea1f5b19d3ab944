-- Lists of refusals: what the first that holds in one says of a longer; and that it is what is found by one test after the other.
use mathlib.Core.Path.{◌≡◌, refl, sym, ◌∙◌}
use mathlib.Core.Bool.{Bool, true, false, cond}
use mathlib.Core.List.{List, [], ◌∷◌, ◌++◌}
use Prim.Native.Nat.{ℕ}
use native.Mathlib.Omega.{arith}
use lib.Dec.{ltb, eqb}
use borrow.Author.Tests.{eqb-true, eqb-false, ne_eqb, ltb-true}
use Rattle.rules.specs.Rule.{Refusal, ◌⇒◌, first_refusal}
use Rattle.laws.proofs.Tests.{split, and_left, and_right}
use Rattle.laws.proofs.Refusals.{Clear, numbered, clear}

-- ---- "Refusals in order": from the number found so far, one test after the other. `refuse` finds what that finds (Refused, `one-by-one`)

abbrev pub or_refuse : ℕ → Bool → ℕ → ℕ
or_refuse e b n = cond (eqb e 0) (cond b n 0) e

abbrev pub refusing : ℕ → List Refusal → ℕ
refusing e [] = e
refusing e (x ∷ xs) = refusing (or_refuse e x.test x.number) xs

-- a number found stays
found-stays : (e : ℕ) (xs : List Refusal) → eqb e 0 ≡ false → refusing e xs ≡ e
found-stays e [] n = refl
found-stays e (x ∷ xs) n = rw n (found-stays e xs n)

one_more : (x : Refusal) (xs : List Refusal) → numbered (x ∷ xs) ≡ true → refusing 0 xs ≡ first_refusal xs → (b : Bool) → x.test ≡ b
    → refusing 0 (x ∷ xs) ≡ first_refusal (x ∷ xs)
one_more x xs n h true e = rw e (found-stays x.number xs (ne_eqb x.number 0 (λ z. omega (arith, ltb-true 0 x.number (and_left (ltb 0 x.number) (numbered xs) n)))))
one_more x xs n h false e = rw e h

pub refusing-first : (xs : List Refusal) → numbered xs ≡ true → refusing 0 xs ≡ first_refusal xs
refusing-first [] n = refl
refusing-first (x ∷ xs) n = one_more x xs n (refusing-first xs (and_right (ltb 0 x.number) _ n)) x.test refl

-- so also after a number found before: lists of one first refusal refuse alike, and where nothing was found, nothing of the list holds
pub refusing-alike : (e : ℕ) (xs ys : List Refusal) → numbered xs ≡ true → numbered ys ≡ true → first_refusal xs ≡ first_refusal ys → refusing e xs ≡ refusing e ys
refusing-alike e xs ys n m same = split _ (eqb e 0)
    (λ z. rw (eqb-true e 0 z) (refusing-first xs n ∙ same ∙ sym (refusing-first ys m)))
    (λ f. found-stays e xs f ∙ sym (found-stays e ys f))

pub none_found : (e : ℕ) (xs : List Refusal) → numbered xs ≡ true → refusing e xs ≡ 0 → first_refusal xs ≡ 0
none_found e xs n z = split _ (eqb e 0)
    (λ y. sym (refusing-first xs n) ∙ (rw (eqb-true e 0 y) at z))
    (λ f. absurd (eqb-false e 0 f (sym (found-stays e xs f) ∙ z)))

-- ---- a list and a longer one

-- past a refusal that does not hold, what follows may be known by that
pub past : (b : Bool) (n : ℕ) (xs ys : List Refusal) → (b ≡ false → first_refusal xs ≡ first_refusal ys) → first_refusal ((b ⇒ n) ∷ xs) ≡ first_refusal ((b ⇒ n) ∷ ys)
past true n xs ys f = refl
past false n xs ys f = f refl

-- what follows a list of refusals counts only where none of the list holds
pub first_stops : (xs ys : List Refusal) → (first_refusal xs ≡ 0 → ⊥) → first_refusal xs ≡ first_refusal (xs ++ ys)
first_stops [] ys n = absurd (n refl)
first_stops (x ∷ xs) ys n = by-test x.test (first_refusal xs) _ (first_stops xs ys) n
  where
    by-test : (b : Bool) (y z : ℕ) → ((y ≡ 0 → ⊥) → y ≡ z) → (cond b x.number y ≡ 0 → ⊥) → cond b x.number y ≡ cond b x.number z
    by-test true y z f n = refl
    by-test false y z f n = f n

clear-passes : (xs ys : List Refusal) → Clear xs → first_refusal (xs ++ ys) ≡ first_refusal ys
clear-passes [] ys c = refl
clear-passes (x ∷ xs) ys c = rw c.0 (clear-passes xs ys c.1)

pub first_passes : (xs ys : List Refusal) → numbered xs ≡ true → first_refusal xs ≡ 0 → first_refusal (xs ++ ys) ≡ first_refusal ys
first_passes xs ys n z = clear-passes xs ys (clear xs n z)
