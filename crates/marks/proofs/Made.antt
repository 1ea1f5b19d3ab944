-- A process's masks made descriptor by descriptor, stored, and compared.
use mathlib.Core.Path.{◌≡◌, refl, sym, ap, ◌∙◌}
use mathlib.Core.Bool.{Bool, true, false, cond, ◌&&◌}
use mathlib.Core.List.{List, [], ◌∷◌}
use Prim.Native.Nat.{ℕ, ◌+◌, ◌-◌, ◌*◌, ◌^◌, ◌≤◌, ◌<◌}
use native.Mathlib.Omega.{arith}
use native.Mathlib.Decide.{ℕ_discrete}
use lib.Dec.{eqb}
use lib.ListN.{get_or, length, set, length-set, drop, length-take, length-drop}
use lib.Pointwise.{pointwise}
use lib.Pow.{pow-lt}
use native.Mathlib.Numerals.{add-one}
use lib.ListN.{take}
use lib.Seq.{sets, take-suc, take_all, length-take-le, ext_get_or, get_or-set_same, get_or-set_other}
use borrow.Author.Tests.{eq-eqb, ne_eqb, le-leb}
use Rattle.rules.specs.Words.{part, tab_from}
use Rattle.rules.specs.Layout.{entries, max_slots}
use Rattle.rules.specs.Layout as rules
use Rattle.rules.specs.Seid.{class, class_of, index_of}
use Rattle.rules.specs.Work.{mask}
use Rattle.rules.specs.Quick.{same_words}
use Rattle.laws.proofs.Tests.{cond-false}
use Rattle.laws.proofs.Tab.{length-tab, get_or-tab, is-tab}
use Rattle.laws.proofs.Parts.{part-long, part_at}
use Rattle.laws.proofs.Stored.{sets_more}
use Rattle.marks.specs.Masks.{names_at, masks_at, masked, are_masks}
use Rattle.marks.proofs.Bits.{mask-small, mask_next}
use Rattle.laws.proofs.Same.{same_not}

-- ---- the loop over the descriptors

-- the masks of the first d of them, of every file that there may be
pub record Made (t : List ℕ) (at d : ℕ) (l : List ℕ) : Type 0 where
  pub long : length l ≡ max_slots
  pub here : (i : ℕ) → i < max_slots → get_or l i 0 ≡ mask (names_at t at i) d 0

pub made_none : (t : List ℕ) (at : ℕ) (l : List ℕ) → length l ≡ max_slots → ((i : ℕ) → i < max_slots → get_or l i 0 ≡ 0) → Made t at 0 l
unfolding mask
made_none t at l e z = record { long = e; here = z }

module _ {t : List ℕ} {at d : ℕ} {l : List ℕ} (p : Made t at d l) where
  -- the next descriptor's word names one file at most, the one at its index: y, its bit, is added there
  module _
      {s i c power y : ℕ} (word : s ≡ get_or t (at + 2 * d) 0) (index : i ≡ index_of s) (of : c ≡ class_of s) (two : power ≡ 2 ^ d)
      (told : y ≡ cond (eqb c (class rules.file)) power 0)
    where
      bit : y ≡ cond (eqb (class_of s) (class rules.file)) (2 ^ d) 0
      bit = rw (told, of, two)

      inside : i < max_slots
      unfolding index_of
      inside = omega arith

      mine : names_at t at i d ≡ eqb (class_of s) (class rules.file)
      unfolding names_at
      mine = rw (← word, ← index) (and-this (eqb (class_of s) (class rules.file)) (eqb i i) (eq-eqb i i refl))
        where
          and-this : (a b : Bool) → b ≡ true → a && b ≡ a
          and-this true b e = e
          and-this false b e = refl

      others : (j : ℕ) → (j ≡ i → ⊥) → names_at t at j d ≡ false
      unfolding names_at
      others j n = rw (← word, ← index) (and-that (eqb (class_of s) (class rules.file)) (eqb i j) (ne_eqb i j (λ e. n (sym e))))
        where
          and-that : (a b : Bool) → b ≡ false → a && b ≡ false
          and-that true b e = e
          and-that false b e = refl

      entry : (j : ℕ) → j < max_slots → get_or (set l i (get_or l i 0 + y)) j 0 ≡ mask (names_at t at j) (d + 1) 0
      entry j b = elim (ℕ_discrete j i) [
        | yes e ↦
            let fits : i < length l = omega (arith, inside, p.long) in
            rw e (get_or-set_same l i (get_or l i 0 + y) 0 fits ∙ rw (bit, p.here i inside, mask_next (names_at t at i) d, mine))
        | no n ↦
            let z : ◌≡◌ {A = ℕ} (cond (names_at t at j d) (2 ^ d) 0) 0 = cond-false (names_at t at j d) (2 ^ d) 0 (others j n) in
            get_or-set_other l i j (get_or l i 0 + y) 0 n ∙ p.here j b ∙ omega (arith, z, mask_next (names_at t at j) d)
      ]

      -- for which there is room
      pub made-fits : d < entries → get_or l i 0 + y < 2 ^ (entries + 1)
      made-fits f =
          omega (arith, p.here i inside, mask-small (names_at t at i) d 0, bit, cond-le (eqb (class_of s) (class rules.file)) (2 ^ d), pow-lt {i = d} {j = entries} f)
        where
          cond-le : (b : Bool) (x : ℕ) → cond b x 0 ≤ x
          cond-le true x = omega arith
          cond-le false x = omega arith

      pub made_more : Made t at (d + 1) (set l i (get_or l i 0 + y))
      made_more = record { long = length-set l i (get_or l i 0 + y) ∙ p.long; here = entry }

pub made_all : {t : List ℕ} {at : ℕ} {l : List ℕ} (d : ℕ) → d ≡ entries → Made t at d l → l ≡ masks_at t at max_slots 0
unfolding masks_at
made_all {t = t} {at = at} {l = l} d e p = is-tab max_slots (λ i. mask (names_at t at i) entries 0) 0 l p.long (λ i b. rw e at (p.here i b))

-- ---- some of all the masks

masks-long : (t : List ℕ) (at n from : ℕ) → length (masks_at t at n from) ≡ n
unfolding masks_at
masks-long t at n from = length-tab from n (λ i. mask (names_at t at i) entries 0)

masks-at : (t : List ℕ) (at from n i : ℕ) → from + n ≤ max_slots → i < n → get_or (masks_at t at max_slots 0) (from + i) 0 ≡ get_or (masks_at t at n from) i 0
unfolding masks_at
masks-at t at from n i f l =
    let z : 0 + (from + i) ≡ from + i = omega arith in
    get_or-tab 0 max_slots (λ j. mask (names_at t at j) entries 0) (from + i) 0 (omega arith)
    ∙ ap (λ (j : ℕ). mask (names_at t at j) entries 0) z
    ∙ sym (get_or-tab from n (λ j. mask (names_at t at j) entries 0) i 0 l)

-- words that are not there are wanting in a part
part-less : (w : List ℕ) (at n : ℕ) → (n ≡ 0 → ⊥) → length w < at + n → length (part w at n) < n
unfolding part
part-less w at n z h = omega (arith, length-take n (drop at w), length-drop at w, z)

-- they stand among all of them
some-masks : (t : List ℕ) (at from n : ℕ) → from + n ≤ max_slots → part (masks_at t at max_slots 0) from n ≡ masks_at t at n from
some-masks t at from n f =
    let all = masks_at t at max_slots 0 in
    let long : length (part all from n) ≡ n = part-long all from n (omega (arith, masks-long t at max_slots 0)) in
    ext_get_or 0 (part all from n) (masks_at t at n from) (long ∙ sym (masks-long t at n from)) (λ i b.
    let k : i < n = rw long at b in
    part_at all from n i k ∙ masks-at t at from n i f k)

-- two slices are equal where they have the same words
equal-words : (l m : List ℕ) → pointwise eqb l m ≡ same_words l m
unfolding same_words
equal-words [] [] = refl
equal-words [] (y ∷ m) = refl
equal-words (x ∷ l) [] = refl
equal-words (x ∷ l) (y ∷ m) = ap (λ (s : Bool). eqb x y && s) (equal-words l m)

-- one word more is stored
pub stored-more : (w v l : List ℕ) (at i : ℕ) → i < length l → v ≡ sets w at (take i l) → set v (at + i) (get_or l i 0) ≡ sets w at (take (i + 1) l)
stored-more w v l at i h e =
    let more : sets w at (take (i + 1) l) ≡ set (sets w at (take i l)) (at + length (take i l)) (get_or l i 0)
    = ap (λ (k : ℕ). sets w at (take k l)) (add-one i) ∙ ap (sets w at) (take-suc l i 0 h) ∙ sets_more w at (take i l) (get_or l i 0) in
    rw e (sym (more ∙ ap (λ (k : ℕ). set (sets w at (take i l)) (at + k) (get_or l i 0)) (length-take-le i l (omega arith))))

module _ (t : List ℕ) (first : ℕ) (w : List ℕ) {files from at n f p : ℕ} (a : n ≡ files) (b : f ≡ from) (c : p ≡ at) where
  -- ---- stored

  pub stored-all : {masks : List ℕ} {held : ℕ} {m : List ℕ} → f + n ≤ max_slots → held ≡ first → masks ≡ masks_at t held max_slots 0
      → (i : ℕ) → length (take (f + n - f) (drop f masks)) ≤ i → m ≡ sets w p (take i (take (f + n - f) (drop f masks))) → m ≡ masked t first files from w at
  unfolding masked part
  stored-all {masks = masks} l h q i all s =
      let count : f + n - f ≡ n = omega arith in
      let whole : take i (take (f + n - f) (drop f masks)) ≡ part masks f n = take_all i _ all ∙ ap (λ (k : ℕ). take k (drop f masks)) count in
      rw (s, whole, q, h, a, b, c, le-leb (from + files) max_slots (omega arith), some-masks t first from files (omega arith))

  -- ---- compared

  pub compared-none : f + n ≤ max_slots → n ≡ 0 → true ≡ are_masks t first files from w at
  unfolding are_masks masks_at tab_from part same_words
  compared-none l z =
      let y : files ≡ 0 = sym a ∙ z in
      rw (le-leb (from + files) max_slots (omega arith), y)

  pub compared-short : f + n ≤ max_slots → (n ≡ 0 → ⊥) → length w < p + n → false ≡ are_masks t first files from w at
  unfolding are_masks
  compared-short l z h =
      let y : length (masks_at t first files from) ≡ files = masks-long t first files from in
      let x : length (part w at files) < files = part-less w at files (λ q. z (a ∙ q)) (omega arith) in
      rw (le-leb (from + files) max_slots (omega arith)) (sym (same_not (part w at files) (masks_at t first files from) (λ q. omega (arith, ap length q))))

  pub compared-all : {masks : List ℕ} {held : ℕ} {r : Bool} → f + n ≤ max_slots → held ≡ first → masks ≡ masks_at t held max_slots 0
      → r ≡ pointwise eqb (take (p + n - p) (drop p w)) (take (f + n - f) (drop f masks)) → r ≡ are_masks t first files from w at
  unfolding are_masks part
  compared-all l o e q =
      let here : p + n - p ≡ n = omega arith in
      let there : f + n - f ≡ n = omega arith in
      rw (q, here, there, e, o, a, b, c, le-leb (from + files) max_slots (omega arith), some-masks t first from files (omega arith))
      (equal-words (part w at files) (masks_at t first files from))
