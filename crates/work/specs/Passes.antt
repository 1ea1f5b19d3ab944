-- What a pass over a working slice keeps to, and that laying words down and looking at them do.
use mathlib.Core.Path.{◌≡◌, refl, sym, ap, ◌∙◌}
use mathlib.Core.Bool.{Bool, true, false, ◌&&◌, and_assoc}
use mathlib.Core.List.{List, [], ◌∷◌, ◌++◌}
use Prim.Native.Nat.{ℕ, ◌+◌}
use native.Mathlib.Nat.{zero-add, suc-add}
use lib.Dec.{eqb}
use lib.ListN.{length, take, drop, length-append}
use lib.Seq.{sets, drop-drop}
use Rattle.rules.specs.Words.{part}
use Rattle.rules.specs.Quick.{same_words}
use Rattle.output.proofs.Laws.{sets-append}
use Rattle.work.specs.Parts.{stands_at}

-- No words are passed at once, and words one behind the other as the first and then the others.
pub record InTurn {S : Type 0} (passed : S → S → ℕ → List ℕ → Type 0) : Type 0 where
  pub none : (s : S) (at : ℕ) → passed s s at []
  pub more : (s u v : S) (at : ℕ) (x y : List ℕ) → passed s u at x → passed u v (at + length x) y → passed s v at (x ++ y)

-- ---- laid down

-- the first, and then the others
pub put-then : (w u v : List ℕ) (at : ℕ) (x y : List ℕ) → u ≡ sets w at x → v ≡ sets u (at + length x) y → v ≡ sets w at (x ++ y)
put-then w u v at x y a b = rw (b, a) (sets-append w at x y)

-- ---- standing there

same-append : (x y l : List ℕ) → same_words (take (length x + length y) l) (x ++ y) ≡ same_words (take (length x) l) x && same_words (take (length y) (drop (length x) l)) y
unfolding same_words
same-append [] y l = rw (zero-add (length y))
same-append (a ∷ x) y [] = rw (suc-add (length x) (length y))
same-append (a ∷ x) y (b ∷ l) =
    rw (suc-add (length x) (length y))
    (ap (λ (s : Bool). eqb b a && s) (same-append x y l) ∙ sym (and_assoc (eqb b a) (same_words (take (length x) l) x) (same_words (take (length y) (drop (length x) l)) y)))

pub stands-append : (w : List ℕ) (at : ℕ) (x y : List ℕ) → stands_at w at (x ++ y) ≡ stands_at w at x && stands_at w (at + length x) y
unfolding stands_at part
stands-append w at x y = rw (length-append x y, ← (drop-drop (length x) at w)) (same-append x y (drop at w))

-- none is looked at yet
pub stands-none : (w : List ℕ) (at : ℕ) (a : Bool) → a ≡ (a && stands_at w at [])
unfolding stands_at same_words part
stands-none w at true = refl
stands-none w at false = refl

-- the first, and then the others
pub stands-then : (w u : List ℕ) (a b c : Bool) (at : ℕ) (x y : List ℕ) → u ≡ w → b ≡ (a && stands_at w at x) → c ≡ (b && stands_at u (at + length x) y)
    → c ≡ (a && stands_at w at (x ++ y))
stands-then w u a b c at x y same first others =
    rw (others, first, same, stands-append w at x y) (and_assoc a (stands_at w at x) (stands_at w (at + length x) y))
