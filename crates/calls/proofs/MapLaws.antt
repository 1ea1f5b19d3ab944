-- The address map: a map as the code holds it is the rule's, page by page; what is judged of it, and what is written.
use mathlib.Core.Path.{◌≡◌, refl, sym, ap, ◌∙◌}
use mathlib.Core.Bool.{Bool, true, false, cond, ◌&&◌, ◌||◌, not}
use mathlib.Core.List.{List, [], ◌∷◌}
use Prim.Native.Nat.{ℕ, zero, suc, ◌+◌, ◌-◌, ◌≤◌, ◌<◌, min}
use native.Mathlib.Omega.{arith}
use native.Mathlib.Nat.{zero-add}
use native.Mathlib.Numerals.{add-one}
use lib.Dec.{ltb, leb, eqb}
use lib.ListN.{length, get_or, set, take, drop, replicate, length-take, length-drop, length-replicate}
use lib.Seq.{sets, length-sets, get_or-take, get_or-drop}
use borrow.Rule.Slice.PartMut.{mid_of, put_mid}
use Rattle.std.proofs.lemmas.List.{get_or-replicate}
use Rattle.std.specs.List.{list_any}
use borrow.Author.Tests.{ltb-true, ltb-false, leb-true, lt-ltb, le-leb}
use Rattle.rules.specs.Words.{some_below, tab_from}
use Rattle.rules.specs.Layout.{process, segment, configuration, Addr, at, held_at, pages, page_at}
use Rattle.rules.specs.Rule.{Word, ◌≔◌, write}
use Rattle.rules.specs.Find.{page_left, pages_set, pages_cleared}
use Rattle.rules.specs.Call19.{named, is_mapped, pages_of, conflict, page_taken, remapped}
use Rattle.laws.proofs.Below.{some_same}
use Rattle.laws.proofs.Tests.{and_left, and_right, and_both, both_ways, split}
use Rattle.laws.proofs.Stored.{sets-in, sets-out}
use Rattle.laws.proofs.Tab.{tab-more, is-tab}
use Rattle.laws.proofs.Fill.{tab-at, tab-same}
use Rattle.laws.proofs.Written.{write-append}
use Rattle.layout.specs.declared.Header.{Header}
use Rattle.layout.specs.Header.{place_of}
use Rattle.calls.specs.World.{Known}
use Rattle.calls.specs.Map.{held, map_of, left_by, taken_by}
use Rattle.calls.proofs.Worlds.{spot}
use Rattle.words.proofs.Copies.{sets-all}
use Rattle.calls.proofs.BlocksLaws.{part_length, mid-sets}

-- ---- pages written

-- the first n of them
abbrev pub pages_to : ℕ → (ℕ → ℕ) → ℕ → List Word
pages_to p f n = tab_from 0 n (λ g. at process p (page_at g) ≔ f g)

pub pages-none : (h t : List ℕ) (p : ℕ) (f : ℕ → ℕ) → t ≡ write h t (pages_to p f 0)
unfolding tab_from
pages-none h t p f = refl

-- one more: t is the table at the start, u once g of them are written
pub pages-more : {t : List ℕ} {n : Header} → Known t n → (p : ℕ) (f : ℕ → ℕ) (g : ℕ) {u u' : List ℕ} → u ≡ write (configuration t) t (pages_to p f g)
    → u' ≡ set u (place_of n (at process p (page_at g))) (f g) → u' ≡ write (configuration t) t (pages_to p f (g + 1))
pages-more {t} known p f g {u} ue e =
    rw (add-one g, tab-more 0 g (λ g. at process p (page_at g) ≔ f g), zero-add g, write-append, ← ue)
    (e ∙ ap (λ (i : ℕ). set u i (f g)) (spot known (at process p (page_at g))))

-- two maps that agree on the pages are written alike
pub pages-same : (p : ℕ) (f g : ℕ → ℕ) → ((k : ℕ) → k < pages → f k ≡ g k) → pages_set p f ≡ pages_set p g
unfolding pages_set
pages-same p f g e =
    tab-same pages (λ k. at process p (page_at k) ≔ f k) (λ k. at process p (page_at k) ≔ g k) (at process p 0 ≔ 0)
    (λ k l. ap (λ (v : ℕ). at process p (page_at k) ≔ v) (e k l))

-- ---- whether some page passes a test

or-again : (a b c : Bool) → (a || b) || c ≡ a || (b || c)
or-again true b c = refl
or-again false b c = refl

or-none : (a : Bool) → false || a ≡ a || false
or-none true = refl
or-none false = refl

-- the first of them or one of the others
some_front : (n : ℕ) (f : ℕ → Bool) → some_below (suc n) f ≡ f 0 || some_below n (λ k. f (suc k))
unfolding some_below
some_front zero f = or-none (f 0)
some_front (suc n) f = ap (λ (b : Bool). b || f (suc n)) (some_front n f) ∙ or-again (f 0) (some_below n (λ k. f (suc k))) (f (suc n))

pub some_listed : (p : ℕ → Bool) (l : List ℕ) → list_any p l ≡ some_below (length l) (λ k. p (get_or l k 0))
unfolding some_below
some_listed p [] = refl
some_listed p (x ∷ l) = ap (λ (b : Bool). p x || b) (some_listed p l) ∙ sym (some_front (length l) (λ k. p (get_or (x ∷ l) k 0)))

-- the same of a part: n of them from a place on
pub some_part : (p : ℕ → Bool) (l : List ℕ) (at n : ℕ) {k : ℕ} → k ≡ n → at + n ≤ length l
    → list_any p (take k (drop at l)) ≡ some_below n (λ i. p (get_or l (at + i) 0))
some_part p l at n {k} ke fits =
    let long : length (take k (drop at l)) ≡ n = omega (arith, length-take k (drop at l), length-drop at l) in
    (rw long at (some_listed p (take k (drop at l))))
    ∙ some_same n _ _ (λ i h. ap p (get_or-take k (drop at l) i 0 (omega arith) ∙ get_or-drop at l i 0))

-- ---- v stored in n of the pages from b on, as far as there are pages

module _ (m : List ℕ) (v b n : ℕ) (long : length m ≡ pages) where
  a : ℕ
  a = min b pages

  k : ℕ
  k = min (b + n) pages - min b pages

  stored-at : (g : ℕ) → g < pages → (z : Bool) → leb b g && ltb g (b + n) ≡ z → get_or (sets m a (replicate k v)) g 0 ≡ cond z v (held m g)
  unfolding a k
  stored-at g l true q =
      let low : b ≤ g = leb-true b g (and_left (leb b g) (ltb g (b + n)) q) in
      let high : g < b + n = ltb-true g (b + n) (and_right (leb b g) (ltb g (b + n)) q) in
      let at : a + (g - a) ≡ g = omega arith in
      let near : g - a < k = omega arith in
      (rw at at (sets-in (replicate k v) m a (g - a) (omega (arith, length-replicate k v)) (omega arith))) ∙ get_or-replicate k (g - a) v 0 near
  stored-at g l false q =
      sets-out (replicate k v) m a g (λ low high.
      let in_run : leb b g && ltb g (b + n) ≡ true
      = and_both (leb b g) (ltb g (b + n)) (le-leb b g (omega arith)) (lt-ltb g (b + n) (omega (arith, length-replicate k v))) in
      both_ways (leb b g && ltb g (b + n)) in_run q)

  stored-all : sets m a (replicate k v) ≡ tab_from 0 pages (λ g. cond (leb b g && ltb g (b + n)) v (held m g))
  stored-all =
      is-tab pages _ 0 (sets m a (replicate k v)) (length-sets m a (replicate k v) ∙ long)
      (λ g l. stored-at g l (leb b g && ltb g (b + n)) refl)

  pub taken-part : {comes : Bool} → comes ≡ true → {from to : ℕ} → from ≡ min b pages → to ≡ min (b + n) pages
      → {part : List ℕ} → part ≡ replicate (length (take (to - from) (drop from m))) v → put_mid from (to - from) m part ≡ taken_by m comes v b n
  unfolding a k
  taken-part e fe te pe =
      let whole : length (take k (drop a m)) ≡ k = part_length m a k (omega arith) in
      rw (e, pe, fe, te, whole)
      (ap (put_mid a k m) (sym (sets-all (mid_of a k m) (replicate k v) (length-replicate k v ∙ sym whole)))
      ∙ mid-sets a k (replicate k v) m 0 (omega (arith, length-replicate k v)) ∙ ap (λ (i : ℕ). sets m i (replicate k v)) (omega arith) ∙ stored-all)

pub taken-none : (m : List ℕ) (v b n : ℕ) → length m ≡ pages → {comes : Bool} → comes ≡ false → m ≡ taken_by m comes v b n
taken-none m v b n long e = rw e (is-tab pages (held m) 0 m long (λ k l. refl))

-- ---- the map m of process p as the code holds it, and what is left of it once designator d has left

module _ (r : Addr → ℕ) (p d : ℕ) {m rest : List ℕ} (map_is : m ≡ map_of r p) (left_is : rest ≡ left_by m d) where
  held-is : (g : ℕ) → g < pages → held m g ≡ r (at process p (page_at g))
  held-is g l = ap (λ (x : List ℕ). held x g) map_is ∙ tab-at pages (λ g. r (at process p (page_at g))) g 0 l

  rest-is : (g : ℕ) → g < pages → held rest g ≡ page_left r p d g
  unfolding page_left
  rest-is g l =
      ap (λ (x : List ℕ). held x g) left_is ∙ tab-at pages (λ g. cond (eqb (held m g) (d + 1)) 0 (held m g)) g 0 l
      ∙ ap (λ (x : ℕ). cond (eqb x (d + 1)) 0 x) (held-is g l)

  pub cleared-is : pages_set p (held rest) ≡ pages_cleared r segment p d
  cleared-is = pages-same p (held rest) (page_left r p d) rest-is

  pub mapped-is : is_mapped (held m) d ≡ is_mapped (λ g. r (at process p (page_at g))) d
  unfolding is_mapped
  mapped-is =
      some_same pages (λ g. eqb (held m g) (d + 1)) (λ g. eqb (r (at process p (page_at g))) (d + 1)) (λ g l. ap (λ (x : ℕ). eqb x (d + 1)) (held-is g l))

  pub still-mapped : (a : ℕ) → is_mapped (held rest) a ≡ is_mapped (page_left r p d) a
  unfolding is_mapped
  still-mapped a =
      some_same pages (λ g. eqb (held rest g) (a + 1)) (λ g. eqb (page_left r p d g) (a + 1)) (λ g l. ap (λ (x : ℕ). eqb x (a + 1)) (rest-is g l))

  pub conflict-is : (b n : ℕ) → conflict (held rest) b n ≡ conflict (page_left r p d) b n
  unfolding conflict
  conflict-is b n =
      split _ (ltb pages (b + n))
      (λ e. rw e)
      (λ e. rw e (some_same n (λ i. not (eqb (held rest (b + i)) 0)) (λ i. not (eqb (page_left r p d (b + i)) 0))
      (λ i l. ap (λ (x : ℕ). not (eqb x 0)) (rest-is (b + i) (omega (arith, ltb-false pages (b + n) e))))))

  -- what comes in: run is its segment's, if one comes
  module _ (a b run : ℕ) (run_is : named a ≡ true → run ≡ pages_of r (r (at process p (held_at segment a)))) where
    page-is : (g : ℕ) (z : Bool) → named a ≡ z → cond (z && (leb b g && ltb g (b + run))) (a + 1) (page_left r p d g) ≡ remapped r p a b d g
    unfolding remapped page_taken
    page-is g true e = rw (e, run_is e)
    page-is g false e = rw e

    pub taken_is : {to : List ℕ} → to ≡ taken_by rest (named a) (a + 1) b run → pages_set p (held to) ≡ pages_set p (remapped r p a b d)
    taken_is {to} te = pages-same p (held to) (remapped r p a b d) (λ g l.
        ap (λ (x : List ℕ). held x g) te ∙ tab-at pages (λ g. cond (named a && (leb b g && ltb g (b + run))) (a + 1) (held rest g)) g 0 l
        ∙ ap (λ (x : ℕ). cond (named a && (leb b g && ltb g (b + run))) (a + 1) x) (rest-is g l) ∙ page-is g (named a) refl)
