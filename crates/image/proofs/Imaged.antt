-- The image by the ways of its code: no length, a short buffer, and neither.
use mathlib.Core.Bool.{true, false}
use mathlib.Core.List.{List, ◌++◌}
use mathlib.Core.Path.{◌≡◌, refl, sym, ap, ◌∙◌}
use Prim.Native.Nat.{ℕ, ◌+◌, ◌<◌, ◌≤◌}
use native.Mathlib.Omega.{arith}
use native.Mathlib.Nat.{zero-add}
use lib.Dec.{ltb}
use lib.ListN.{length, drop, length-append}
use lib.Seq.{sets, sets-eq}
use borrow.Author.Tests.{lt-ltb, le-ltb}
use Rattle.std.specs.Prelude.{Option, Some, None, MatchOption, unwrap_or}
use Rattle.rules.specs.Claim.{test}
use Rattle.rules.specs.WellFormed.{well_formed}
use Rattle.rules.specs.Errors.{XOK, XbTab, XbSz}
use Rattle.output.specs.Wrote.{Wrote}
use Rattle.output.proofs.Laws.{sets-append}
use Rattle.laws.proofs.Tests.{cond-true, cond-false}
use Rattle.rules.specs.Image.{word_bytes, image_of, image_length, image_answer, image_out}

-- ---- the length
pub length_told : (t : List ℕ) (m : ℕ) (o : Option ℕ)
    → MatchOption o (test (well_formed t m) ≡ false) (λ n. (test (well_formed t m) ≡ true) × (n ≡ length (word_bytes t) + m))
    → unwrap_or o 0 ≡ image_length t m
unfolding image_length
length_told t m None e = sym (cond-false _ _ _ e)
length_told t m (Some n) e = e.1 ∙ sym (cond-true _ _ _ e.0)

-- ---- the image

-- the words, and the store where they end
both-put : (t s out : List ℕ) (at : ℕ) (out' : List ℕ) → Wrote out 0 (word_bytes t) at out' → length (image_of t s) ≤ length out
    → sets out' at s ≡ image_of t s ++ drop (length (image_of t s)) out
unfolding image_of
both-put t s out at out' w l =
    let a : at ≡ 0 + length (word_bytes t) = omega (arith, w.next, length-append (word_bytes t) s) in
    rw (w.left, a)
    (sets-append out 0 (word_bytes t) s ∙ sets-eq (word_bytes t ++ s) out 0 (omega arith)
    ∙ ap (λ (k : ℕ). word_bytes t ++ s ++ drop k out) (zero-add (length (word_bytes t ++ s))))

abbrev pub Answers : List ℕ → List ℕ → List ℕ → ℕ → List ℕ → Type 0
Answers t s out r out' = (r ≡ image_answer t s out) × (out' ≡ image_out t s out)

module _ (t s out : List ℕ) where
  pub no-image : test (well_formed t (length s)) ≡ false → Answers t s out XbTab out
  unfolding image_answer image_out
  no-image f = (rw f refl, rw f refl)

  module _ (n : ℕ) (told : (test (well_formed t (length s)) ≡ true) × (n ≡ length (word_bytes t) + length s)) where
    exact : n ≡ length (image_of t s)
    unfolding image_of
    exact = told.1 ∙ sym (length-append (word_bytes t) s)

    pub too_short : length out < n → Answers t s out XbSz out
    unfolding image_answer image_out
    too_short l =
        let f : ltb (length out) (length (image_of t s)) ≡ true = lt-ltb (length out) (length (image_of t s)) (omega (arith, exact)) in
        (rw (told.0, f) refl, rw (told.0, f) refl)

    pub is-put : n ≤ length out → (at : ℕ) (out' out'' : List ℕ) → Wrote out 0 (word_bytes t) at out' → out'' ≡ sets out' at s → Answers t s out XOK out''
    unfolding image_answer image_out
    is-put l at out' out'' w e =
        let f : ltb (length out) (length (image_of t s)) ≡ false = le-ltb (length out) (length (image_of t s)) (omega (arith, exact)) in
        (rw (told.0, f) refl, e ∙ both-put t s out at out' w (omega (arith, exact)) ∙ sym (rw (told.0, f) refl))
