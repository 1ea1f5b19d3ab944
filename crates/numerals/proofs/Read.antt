-- A number fed a byte at a time is the number that the rules read.
use mathlib.Core.Bool.{false, cond, ◌&&◌, ◌||◌, not}
use mathlib.Core.List.{List, [], ◌∷◌}
use mathlib.Core.Path.{◌≡◌, subst}
use Prim.Native.Nat.{ℕ, ◌+◌, ◌*◌, ◌%◌, ◌^◌, ◌<◌, ◌≤◌}
use native.Mathlib.Omega.{arith}
use lib.Dec.{ltb, leb, eqb}
use borrow.Author.Tests.{lt-ltb, le-ltb, lt-leb, le-leb, leb-true, leb-false}
use Rattle.rules.specs.Replay.{max_groups, Taken, took, bad, number_from}
use Rattle.laws.proofs.Tests.{split}
use Rattle.numerals.specs.declared.Part.{Part}
use Rattle.numerals.specs.declared.Fed.{Fed}
use Rattle.numerals.specs.declared.Fed.TheVariants.{More, Done, Bad}
use Rattle.numerals.specs.Fed.{start, grown, fed_by}
use Rattle.numerals.proofs.Weights.{next-weight, weight-grows, group-small}

-- ---- the rules' reading, at a last group and at any other
module _ (n v b : ℕ) (s : List ℕ) where
  pub last-group : b < 128
      → number_from n v (b ∷ s) ≡ cond (ltb (v + b % 128 * 128 ^ n) (2 ^ 32) && (eqb n 0 || not (eqb b 0))) (took (v + b % 128 * 128 ^ n) s) bad
  unfolding number_from
  last-group h = rw (lt-ltb b 128 h, number_from)

  pub other-group : 128 ≤ b → number_from n v (b ∷ s) ≡ cond (ltb (n + 1) max_groups) (number_from (n + 1) (v + b % 128 * 128 ^ n) s) bad
  unfolding number_from
  other-group h = rw (le-ltb b 128 h, number_from)

-- ---- a part, fed a byte

-- the rules read on from a number of which p is read
abbrev pub read_on : Part → List ℕ → Taken ℕ
read_on p s = number_from p.count p.value s

-- what they make of the rest, once a byte was taken
unfoldable pub after_byte : Fed → List ℕ → Taken ℕ
after_byte (More q) s = read_on q s
after_byte (Done v) s = took v s
after_byte Bad s = bad

-- a part that can come up: fewer than five groups, and their value
pub record Small (p : Part) : Type 0 where
  pub few : p.count < max_groups
  pub below : p.value < 128 ^ p.count

pub small-start : Small start
small-start = record { few = omega arith; below = omega arith }

module _ (p : Part) (b : ℕ) (s : List ℕ) (h : Small p) where
  grown-below : grown p b < 128 ^ (p.count + 1)
  grown-below = rw next-weight (omega (arith, h.below, group-small b p.count))

  fits : p.count + 1 < max_groups → grown p b < 2 ^ 32
  fits l = omega (arith, grown-below, weight-grows (p.count + 1) 4 (omega arith))

  -- a group with the high bit
  high : 128 ≤ b → read_on p (b ∷ s) ≡ after_byte (fed_by p b) s
  unfolding fed_by after_byte
  high l =
      rw (other-group p.count p.value b s l, lt-leb max_groups p.count h.few, le-leb 128 b l)
      (split _ (leb max_groups (p.count + 1))
      (λ e. rw (e, le-ltb (p.count + 1) max_groups (leb-true _ _ e)) (split _ (leb (2 ^ 32) (grown p b)) (λ f. rw f) (λ f. rw f)))
      (λ e. rw (e, lt-ltb (p.count + 1) max_groups (leb-false _ _ e), lt-leb (2 ^ 32) (grown p b) (fits (leb-false _ _ e)))))

  -- a last group
  low : b < 128 → read_on p (b ∷ s) ≡ after_byte (fed_by p b) s
  unfolding fed_by after_byte
  low l =
      rw (last-group p.count p.value b s l, lt-leb max_groups p.count h.few, lt-leb 128 b l)
      (split _ (leb (2 ^ 32) (grown p b))
      (λ e. rw (e, le-ltb (grown p b) (2 ^ 32) (leb-true _ _ e)))
      (λ e. rw (e, lt-ltb (grown p b) (2 ^ 32) (leb-false _ _ e))
      (split _ (eqb p.count 0 || not (eqb b 0)) (λ f. rw f) (λ f. rw f))))

  -- one byte
  pub read_byte : read_on p (b ∷ s) ≡ after_byte (fed_by p b) s
  read_byte = split _ (leb 128 b) (λ e. high (leb-true _ _ e)) (λ e. low (leb-false _ _ e))

-- what a byte leaves of a part is one that can come up, and something of it is read
data Kept : Fed → Type 0 where
  more : {q : Part} → Small q → 0 < q.count → Kept (More q)
  done : {v : ℕ} → Kept (Done v)
  none : Kept Bad

small-grown : (p : Part) (b : ℕ) → Small p → leb max_groups (p.count + 1) ≡ false → Small (record { value = grown p b; count = p.count + 1 })
small-grown p b h k = record { few = leb-false max_groups (p.count + 1) k; below = grown-below p b [] h }

kept : (p : Part) (b : ℕ) → Small p → Kept (fed_by p b)
unfolding fed_by
kept p b h =
    split _ (leb max_groups p.count) (λ e. rw e none)
    (λ e. rw e (split _ (leb (2 ^ 32) (grown p b)) (λ f. rw f none)
    (λ f. rw f (split _ (leb 128 b)
    (λ g. rw g (split _ (leb max_groups (p.count + 1)) (λ k. rw k none) (λ k. rw k (more (small-grown p b h k) (omega arith)))))
    (λ g. rw g (split _ (eqb p.count 0 || not (eqb b 0)) (λ k. rw k done) (λ k. rw k none)))))))

pub small-more : (p q : Part) (b : ℕ) → Small p → fed_by p b ≡ More q → Small q × (0 < q.count)
small-more p q b h e = of (subst Kept e (kept p b h))
  where
    of : {q : Part} → Kept (More q) → Small q × (0 < q.count)
    of (more s c) = (s, c)
