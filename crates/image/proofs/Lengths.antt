-- How many bytes numbers take: by the five ranges of a number, and word by word of a table.
use mathlib.Core.List.{List, [], ◌∷◌, ◌++◌, append_assoc, append-nil}
use mathlib.Core.Path.{◌≡◌, refl, sym, ap, ◌∙◌}
use Prim.Native.Nat.{ℕ, zero, suc, ◌+◌, ◌*◌, ◌/◌, ◌^◌, ◌<◌, ◌≤◌}
use native.Mathlib.Omega.{arith}
use native.Mathlib.Decide.{dec_lt}
use lib.ListN.{length, get_or, take, length-append}
use Rattle.rules.specs.Replay.{groups, encoded}
use Rattle.numerals.proofs.Groups.{groups-one, groups-more}
use Rattle.rules.specs.Image.{word_bytes}
use Rattle.std.specs.List.{sum_by}
use Rattle.std.proofs.lemmas.List.{take_more}
use Rattle.std.proofs.lemmas.List.Recursion.{is_sum_by}

-- ---- a number

last : (k v : ℕ) → v < 128 → length (groups (suc k) v) ≡ 1
last k v h = ap length (groups-one k v h)

more : (k v n : ℕ) → 128 ≤ v → length (groups k (v / 128)) ≡ n → length (groups (suc k) v) ≡ suc n
more k v n h e = ap length (groups-more k v h) ∙ ap suc e

module _ (v : ℕ) where
  pub one_byte : v < 128 → 1 ≡ length (encoded v)
  one_byte h = sym (last 4 v h)

  pub two_bytes : 128 ≤ v → v < 16384 → 2 ≡ length (encoded v)
  two_bytes l h = sym (more 4 v 1 l (last 3 (v / 128) (omega arith)))

  pub three-bytes : 16384 ≤ v → v < 2097152 → 3 ≡ length (encoded v)
  three-bytes l h = sym (more 4 v 2 (omega arith) (more 3 (v / 128) 1 (omega arith) (last 2 (v / 128 / 128) (omega arith))))

  pub four_bytes : 2097152 ≤ v → v < 268435456 → 4 ≡ length (encoded v)
  four_bytes l h =
      sym (more 4 v 3 (omega arith) (more 3 (v / 128) 2 (omega arith) (more 2 (v / 128 / 128) 1 (omega arith)
      (last 1 (v / 128 / 128 / 128) (omega arith)))))

  pub five-bytes : 268435456 ≤ v → v < 2 ^ 32 → 5 ≡ length (encoded v)
  five-bytes l h =
      sym (more 4 v 4 (omega arith) (more 3 (v / 128) 3 (omega arith) (more 2 (v / 128 / 128) 2 (omega arith)
      (more 1 (v / 128 / 128 / 128) 1 (omega arith) (last 0 (v / 128 / 128 / 128 / 128) (omega arith))))))

-- by the range of the number
pub ruleset ranges = (one_byte, two_bytes, three-bytes, four_bytes, five-bytes)

-- at most five
few-groups : (k v : ℕ) → length (groups k v) ≤ k
unfolding groups
few-groups zero v = omega arith
few-groups (suc k) v = elim (dec_lt v 128) [
  | yes h ↦ omega (arith, last k v h)
  | no n ↦ omega (arith, more k v (length (groups k (v / 128))) (omega arith) refl, few-groups k (v / 128))
]

-- ---- the words of a table

pub words_append : (a b : List ℕ) → word_bytes (a ++ b) ≡ word_bytes a ++ word_bytes b
unfolding word_bytes
words_append [] b = refl
words_append (v ∷ a) b = ap (λ (x : List ℕ). encoded v ++ x) (words_append a b) ∙ sym (append_assoc (encoded v) (word_bytes a) (word_bytes b))

one_word : (v : ℕ) → word_bytes (v ∷ []) ≡ encoded v
unfolding word_bytes
one_word v = append-nil (encoded v)

pub few_bytes : (t : List ℕ) → length (word_bytes t) ≤ 5 * length t
unfolding word_bytes
few_bytes [] = omega arith
few_bytes (v ∷ t) = omega (arith, length-append (encoded v) (word_bytes t), few-groups 5 v, few_bytes t)

-- one word more
pub next_word : (t : List ℕ) (i : ℕ) → i < length t → word_bytes (take (i + 1) t) ≡ word_bytes (take i t) ++ encoded (get_or t i 0)
next_word t i h =
    ap word_bytes (take_more t i 0 h)
    ∙ words_append (take i t) (get_or t i 0 ∷ [])
    ∙ ap (λ (x : List ℕ). word_bytes (take i t) ++ x) (one_word (get_or t i 0))

-- a table's words take as many bytes as they do one by one
pub words-long : (t : List ℕ) → sum_by (λ v. length (encoded v)) t ≡ length (word_bytes t)
unfolding word_bytes
words-long t = sym (is_sum_by (λ t. length (word_bytes t)) (λ v. length (encoded v)) refl (λ v t. length-append (encoded v) (word_bytes t)) t)
