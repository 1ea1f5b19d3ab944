-- Loops that test or add up for each number below a bound: before the first turn, one turn more, after the last.
use Rattle.std.proofs.Common.{◌≡◌, ℕ, zero, suc, ◌+◌, ◌≤◌, Bool, true, ◌&&◌, sym, refl, ap, ◌∙◌, ap₂, arith}
use mathlib.Core.Bool.{and-true, and_assoc}
use Rattle.rules.specs.Words.{all_below, sum_below}
use Rattle.laws.proofs.Below.{all_more, sum_more}

module _ (f : ℕ → Bool) where
  pub all_first : true ≡ all_below 0 f
  unfolding all_below
  all_first = refl

  pub all-next : {ok r : Bool} {i : ℕ} → ok ≡ all_below i f → r ≡ f i → ok && r ≡ all_below (i + 1) f
  all-next {i = i} e h = ap₂ ◌&&◌ e h ∙ sym (all_more i f)

  pub all-last : {ok : Bool} {i n m : ℕ} → ok ≡ all_below i f → i ≤ n → n ≤ i → n ≡ m → ok ≡ all_below m f
  all-last {i = i} {m = m} e a b q = e ∙ ap (λ (k : ℕ). all_below k f) (omega arith)

-- what passes below k + n passes below k, and n more from there on
pub all-sum : (k n : ℕ) (f : ℕ → Bool) → all_below (k + n) f ≡ all_below k f && all_below n (λ j. f (k + j))
unfolding all_below
all-sum k zero f =
    let none_more : k + 0 ≡ k = omega arith in
    ap (λ (i : ℕ). all_below i f) none_more ∙ sym (and-true (all_below k f))
all-sum k (suc n) f =
    let one_more : k + suc n ≡ k + n + 1 = omega arith in
    ap (λ (i : ℕ). all_below i f) one_more ∙ all_more (k + n) f ∙ ap (λ (b : Bool). b && f (k + n)) (all-sum k n f)
    ∙ and_assoc (all_below k f) (all_below n (λ j. f (k + j))) (f (k + n))

-- a loop in a loop that tests each pair of numbers below a bound, the lower one second: those of the turns before, and those of this turn so far
module _ (f : ℕ → ℕ → Bool) where
  abbrev pub pairs_below : ℕ → Bool
  pairs_below d = all_below d (λ d. all_below d (f d))

  pub pair-first : (d : ℕ) {ok : Bool} → ok ≡ pairs_below d → ok ≡ pairs_below d && all_below 0 (f d)
  unfolding all_below
  pair-first d e = e ∙ sym (and-true (pairs_below d))

  pub pair-next : (d i : ℕ) {ok r : Bool} → ok ≡ pairs_below d && all_below i (f d) → r ≡ f d i → ok && r ≡ pairs_below d && all_below (i + 1) (f d)
  pair-next d i e h =
      ap₂ ◌&&◌ e h ∙ and_assoc (pairs_below d) (all_below i (f d)) (f d i) ∙ ap (pairs_below d &&◌) (sym (all_more i (f d)))

  pub pair-last : (d i : ℕ) {ok : Bool} → ok ≡ pairs_below d && all_below i (f d) → i ≤ d → d ≤ i → ok ≡ pairs_below (d + 1)
  pair-last d i e a b = e ∙ ap (λ (k : ℕ). pairs_below d && all_below k (f d)) (omega arith) ∙ sym (all_more d (λ d. all_below d (f d)))

module _ (f : ℕ → ℕ) where
  pub sum_first : 0 ≡ sum_below 0 f
  unfolding sum_below
  sum_first = refl

  pub sum-next : {s x i : ℕ} → s ≡ sum_below i f → x ≡ f i → s + x ≡ sum_below (i + 1) f
  sum-next {i = i} e h = ap₂ ◌+◌ e h ∙ sym (sum_more i f)

  pub sum-last : {s i n m : ℕ} → s ≡ sum_below i f → i ≤ n → n ≤ i → n ≡ m → s ≡ sum_below m f
  sum-last {i = i} {m = m} e a b q = e ∙ ap (λ (k : ℕ). sum_below k f) (omega arith)
