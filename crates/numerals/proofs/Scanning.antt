-- The bytes of a number, one after the other: what the first of them leaves to the rest.
use mathlib.Core.List.{List, [], ◌∷◌}
use mathlib.Core.Path.{◌≡◌, refl, sym, ap, ◌∙◌}
use Prim.Native.Nat.{ℕ, ◌+◌, ◌≤◌, ◌<◌}
use native.Mathlib.Omega.{arith}
use native.Mathlib.Numerals.{add-one}
use lib.ListN.{get_or, drop, length, drop_of_length-le}
use lib.Seq.{drop-cons}
use Rattle.numerals.specs.declared.Part.{Part}
use Rattle.numerals.specs.declared.Fed.{Fed}
use Rattle.numerals.specs.declared.Fed.TheVariants.{More, Done, Bad}
use Rattle.numerals.specs.Fed.{fed_by, scan, scan_of}

module _ (p : Part) (b : ℕ) (s : List ℕ) (i : ℕ) where
  pub scan-more : (q : Part) → fed_by p b ≡ More q → scan_of p (b ∷ s) i ≡ scan_of q s (i + 1)
  unfolding scan_of
  scan-more q e = rw (e, scan_of)

  pub scan-done : (v : ℕ) → fed_by p b ≡ Done v → scan_of p (b ∷ s) i ≡ scan (Done v) p (i + 1)
  unfolding scan_of
  scan-done v e = rw (e, scan_of)

  pub scan-bad : fed_by p b ≡ Bad → scan_of p (b ∷ s) i ≡ scan Bad p (i + 1)
  unfolding scan_of
  scan-bad e = rw (e, scan_of)

pub scan-end : (p : Part) (i : ℕ) → scan_of p [] i ≡ scan (More p) p i
unfolding scan_of
scan-end p i = refl

-- it goes past the first byte, and never back
past : (p : Part) (b : ℕ) (s : List ℕ) (i : ℕ) → ((q : Part) → i + 1 ≤ (scan_of q s (i + 1)).next) → (f : Fed) → fed_by p b ≡ f → i < (scan_of p (b ∷ s) i).next
past p b s i later (More q) e = rw (scan-more p b s i q e) (let z = later q in omega arith)
past p b s i later (Done v) e = rw (scan-done p b s i v e) (omega arith)
past p b s i later Bad e = rw (scan-bad p b s i e) (omega arith)

not_back : (p : Part) (s : List ℕ) (i : ℕ) → i ≤ (scan_of p s i).next
not_back p [] i = rw (scan-end p i) (omega arith)
not_back p (b ∷ s) i = let z = past p b s i (λ q. not_back q s (i + 1)) (fed_by p b) refl in omega arith

pub scan-past : (p : Part) (b : ℕ) (s : List ℕ) (i : ℕ) → i < (scan_of p (b ∷ s) i).next
scan-past p b s i = past p b s i (λ q. not_back q s (i + 1)) (fed_by p b) refl

-- a byte that is not followed by another of the number
stops : (p : Part) (b : ℕ) (s : List ℕ) (i : ℕ) (f : Fed) → ((q : Part) → f ≡ More q → ⊥) → fed_by p b ≡ f → scan f p (i + 1) ≡ scan_of p (b ∷ s) i
stops p b s i (More q) n e = absurd (n q refl)
stops p b s i (Done v) n e = sym (scan-done p b s i v e)
stops p b s i Bad n e = sym (scan-bad p b s i e)

-- ---- the same at place i of s, as the code has it
module _ (p : Part) (s : List ℕ) (i : ℕ) (h : i < length s) where
  front : drop i s ≡ get_or s i 0 ∷ drop (i + 1) s
  front = rw (add-one, drop-cons s i 0 h)

  -- f is what the byte there made of the part
  module _ (f : Fed) (fed : f ≡ fed_by p (get_or s i 0)) where
    pub code-more : (q : Part) → f ≡ More q → scan_of q (drop (i + 1) s) (i + 1) ≡ scan_of p (drop i s) i
    code-more q e = sym (ap (λ (x : List ℕ). scan_of p x i) front ∙ scan-more p (get_or s i 0) (drop (i + 1) s) i q (sym fed ∙ e))

    pub code-stops : ((q : Part) → f ≡ More q → ⊥) → scan f p (i + 1) ≡ scan_of p (drop i s) i
    code-stops n = stops p (get_or s i 0) (drop (i + 1) s) i f n (sym fed) ∙ sym (ap (λ (x : List ℕ). scan_of p x i) front)

pub code-end : (p : Part) (s : List ℕ) (i : ℕ) → length s ≤ i → scan (More p) p i ≡ scan_of p (drop i s) i
code-end p s i h = sym (ap (λ (x : List ℕ). scan_of p x i) (drop_of_length-le s h) ∙ scan-end p i)
