-- Refusals in order, in several steps: what an early end of one step, or its passing, says of the rule's whole list.
use mathlib.Core.Path.{◌≡◌, refl, sym, ap, ◌∙◌}
use mathlib.Core.Bool.{Bool, true}
use mathlib.Core.List.{List, [], ◌∷◌, ◌++◌}
use Prim.Native.Nat.{ℕ}
use Rattle.std.specs.Prelude.{Result, Ok, Err, IsErr, IsErrAnd}
use Rattle.rules.specs.Rule.{Refusal, first_refusal, Rule}
use Rattle.laws.proofs.Refusals.{numbered}
use Rattle.calls.specs.declared.error.Error.{Error}
use Rattle.calls.specs.Refusing.{number_of, listed, found}
use Rattle.calls.specs.Left.{told, answer_of}
use Rattle.calls.proofs.Refusals.{refusing, refusing-first, first_stops, first_passes}
use Rattle.calls.proofs.Leaves.{number-some, refusal-some, answer-refused}

-- every test of the code's lists has a number
listed-numbered : (xs : List (Bool × Error)) → numbered (listed xs) ≡ true
listed-numbered [] = refl
listed-numbered (x ∷ xs) = rw (number-some x.1) (listed-numbered xs)

-- what `refuse` finds of a list, by its contract, is what one test after the other finds
pub one-by-one : {A : Type 0} (xs : List (Bool × Error)) (r : Result A Error) → found r ≡ first_refusal (listed xs) → found r ≡ refusing 0 (listed xs)
one-by-one xs r e = e ∙ sym (refusing-first (listed xs) (listed-numbered xs))

-- a step that ends the call: what stands behind it does not count
pub stopped : (xs ys : List Refusal) (e : Error) → number_of e ≡ first_refusal xs → number_of e ≡ first_refusal (xs ++ ys)
stopped xs ys e found = found ∙ first_stops xs ys (λ z. refusal-some e (found ∙ z))

-- a step that passes: what stands behind it decides
pub later : (xs ys : List Refusal) → numbered xs ≡ true → 0 ≡ first_refusal xs → {n : ℕ} → n ≡ first_refusal ys → n ≡ first_refusal (xs ++ ys)
later xs ys some none found = found ∙ sym (first_passes xs ys some (sym none))

-- the answer of a call that ends so
pub answer-stopped : (k : Rule) (e : Error) (r : Result (ℕ × ℕ) Error) → number_of e ≡ first_refusal k.refusals
    → IsErr r → IsErrAnd r (λ x. x ≡ e) → told r ≡ answer_of k
answer-stopped k e (Ok w) found is same = absurd same
answer-stopped k e (Err x) found is same = ap (λ (y : Error). told (Err y)) same ∙ answer-refused k found (refusal-some e)
