-- A number that is kept: it follows those that were read, and the rest stays.
use mathlib.Core.List.{List, [], ◌∷◌, ◌++◌}
use mathlib.Core.Path.{◌≡◌, sym, ap, ◌∙◌}
use Prim.Native.Nat.{ℕ, ◌+◌, ◌<◌, ◌≤◌}
use native.Mathlib.Omega.{arith}
use lib.ListN.{length, get_or, take, drop, set, length-set, length-drop}
use Rattle.std.proofs.lemmas.List.{take_more_set}
use lib.Seq.{drop-set-add, take-set-le, get_or-set_other, take-add, drop-cons}
use Rattle.rules.specs.Layout.{header_words, cells, subtypes, configuration_words, configuration}
use Rattle.rules.specs.Replay.{header_numbers, numbers_after}
use Rattle.script.proofs.Meaning.{Roomy}

-- one element more at the front's end
pub take-more-past : (n : ℕ) (l : List ℕ) (i v : ℕ) → n + i < length l → take (i + 1) (drop n (set l (n + i) v)) ≡ take i (drop n l) ++ (v ∷ [])
take-more-past n l i v h = rw (drop-set-add n l i v) (take_more_set (drop n l) i v (let e = length-drop n l in omega arith))

-- a word of the header, and a word of the body
pub roomy-header : (t : List ℕ) (f v : ℕ) → f ≤ 6 → Roomy t → Roomy (set t f v)
roomy-header t f v h p =
    record {
      room = rw (length-set t f v) p.room;
      zero7 = get_or-set_other t f 7 v 0 (λ e. omega arith) ∙ p.zero7;
    }

pub roomy-body : (t : List ℕ) (f v : ℕ) → Roomy t → Roomy (set t (header_words + f) v)
roomy-body t f v p =
    record {
      room = rw (length-set t (header_words + f) v) p.room;
      zero7 = get_or-set_other t (header_words + f) 7 v 0 (λ e. omega arith) ∙ p.zero7;
    }

pub cells-kept : (t : List ℕ) (f v : ℕ) → get_or (set t (header_words + f) v) 0 0 ≡ get_or t 0 0
cells-kept t f v = get_or-set_other t (header_words + f) 0 v 0 (λ e. omega arith)

pub subtypes-kept : (t : List ℕ) (f v : ℕ) → get_or (set t (header_words + f) v) 6 0 ≡ get_or t 6 0
subtypes-kept t f v = get_or-set_other t (header_words + f) 6 v 0 (λ e. omega arith)

pub header-kept : (t : List ℕ) (f v : ℕ) → take header_numbers (set t (header_words + f) v) ≡ take header_numbers t
header-kept t f v = take-set-le header_numbers t (header_words + f) v (omega arith)

-- the configuration is the header's numbers, a zero and the body's numbers
one-zero : (t : List ℕ) → Roomy t → take 1 (drop 7 t) ≡ 0 ∷ []
one-zero t p = rw (drop-cons t 7 0 (omega (arith, p.room)), p.zero7)

pub whole : (t : List ℕ) → Roomy t → take header_numbers t ++ (0 ∷ []) ++ take (numbers_after t) (drop header_words t) ≡ configuration t
unfolding configuration cells subtypes
whole t p =
    ap (λ (l : List ℕ). (take 7 t ++ l) ++ take (numbers_after t) (drop header_words t)) (sym (one-zero t p))
    ∙ ap (λ (l : List ℕ). l ++ take (numbers_after t) (drop header_words t)) (sym (take-add 7 1 t))
    ∙ sym (take-add header_words (numbers_after t) t)
    ∙ ap (λ (n : ℕ). take n t) (let z : header_words + numbers_after t ≡ configuration_words t = omega arith in z)
