-- The used entries, listed: one number more, and what is asked of the listed is asked of all.
use Rattle.std.proofs.Common.{◌≡◌, ℕ, ◌+◌, ◌*◌, ◌<◌, ◌≤◌, Bool, true, false, cond, not, ◌&&◌, ◌||◌, eqb, List, length, get_or, set, replicate, refl, sym, ap, ◌∙◌, ap₂, true≢false, add-zero, arith, length-set, get_or-set_other, get_or-set_same, take, length-take-le, get_or-take, below_more, ne_eqb, eqb-true}
use mathlib.Core.Bool.{and-true}
use borrow.Author.Tests.{eqb-false}
use lib.ListN.{length-replicate}
use Rattle.std.specs.Int.{from_bool}
use Rattle.rules.specs.Words.{all_below, sum_below, count_below}
use Rattle.laws.proofs.Tests.{and_both, same_test, split}
use Rattle.laws.proofs.Below.{one-le, all-at, all_of, all_more, count_none, count-more, count_same}
use Rattle.rules.specs.Layout.{entries}
use Rattle.table.specs.declared.entry.Entry.{Entry}
use Rattle.table.specs.Entries.{held_word, used_word, entry_at, unused, Lists, Squeezed, Apart, fresh}

-- a test as a number
pub bool-number : (b : Bool) → ◌≡◌ {A = ℕ} (from_bool b) (cond b 1 0)
bool-number true = refl
bool-number false = refl

pub all_same : (n : ℕ) (f g : ℕ → Bool) → ((k : ℕ) → k < n → f k ≡ g k) → all_below n f ≡ all_below n g
all_same n f g h =
    same_test (all_below n f) (all_below n g)
    (λ e. all_of n g (λ k l. sym (h k l) ∙ all-at n f e k l))
    (λ e. all_of n f (λ k l. h k l ∙ all-at n g e k l))

module _ (idle : ℕ → Bool) where
  -- where every number below m is idle, none is listed
  pub lists-idle : (l : List ℕ) (m : ℕ) → ((d : ℕ) → d < m → idle d ≡ true) → Lists idle l 0 m
  unfolding all_below count_below sum_below
  lists-idle l m h =
      record {
        few = omega arith;
        low = λ j k. absurd (omega arith);
        busy = λ j k. absurd (omega arith);
        all = λ f. sym (all_of m (λ d. idle d || f d) (λ d k. rw (h d k)));
        before = λ j k. absurd (omega arith);
        count = λ f. sym (count_none m (λ d. not (idle d) && f d) (λ d k. rw (h d k)));
      }

  -- number m is put at place n, and counts if it is not idle
  module _ (l : List ℕ) (n m : ℕ) (x : Lists idle l n m) (room : n < length l) where
    abbrev put : List ℕ
    put = set l n m

    here : get_or put n 0 ≡ m
    here = get_or-set_same l n m 0 room

    there : (j : ℕ) → j < n → get_or put j 0 ≡ get_or l j 0
    there j k = get_or-set_other l n j m 0 (omega arith)

    all-kept : (f : ℕ → Bool) (k : ℕ) → k ≤ n → all_below k (λ j. f (get_or put j 0)) ≡ all_below k (λ j. f (get_or l j 0))
    all-kept f k a = all_same k (λ j. f (get_or put j 0)) (λ j. f (get_or l j 0)) (λ j b. ap f (there j (omega arith)))

    count_kept : (f : ℕ → Bool) → count_below n (λ j. f (get_or put j 0)) ≡ count_below n (λ j. f (get_or l j 0))
    count_kept f = count_same n (λ j. f (get_or put j 0)) (λ j. f (get_or l j 0)) (λ j b. ap f (there j b))

    pass : idle m ≡ true → Lists idle put n (m + 1)
    pass e =
        record {
          few = omega (arith, x.few);
          low = λ j k. omega (arith, there j k, x.low j k);
          busy = λ j k. ap idle (there j k) ∙ x.busy j k;
          all = λ f. all-kept f n (omega arith) ∙ x.all f ∙ sym (all_more m (λ d. idle d || f d) ∙ rw e (and-true (all_below m (λ d. idle d || f d))));
          before = λ j k f. all-kept f j (omega arith) ∙ x.before j k f ∙ ap (λ (b : ℕ). all_below b (λ d. idle d || f d)) (sym (there j k));
          count = λ f. count_kept f ∙ x.count f ∙ sym (count-more m (λ d. not (idle d) && f d) ∙ rw e (add-zero (count_below m (λ d. not (idle d) && f d))));
        }

    keep : idle m ≡ false → Lists idle put (n + 1) (m + 1)
    keep e =
        record {
          few = omega (arith, x.few);
          low = below_more (λ j. get_or put j 0 < m + 1) n (λ j k. omega (arith, there j k, x.low j k)) (omega (arith, here));
          busy = below_more (λ j. idle (get_or put j 0) ≡ false) n (λ j k. ap idle (there j k) ∙ x.busy j k) (ap idle here ∙ e);
          all = λ f.
              let left : all_below (n + 1) (λ j. f (get_or put j 0)) ≡ all_below m (λ d. idle d || f d) && f m =
              all_more n (λ j. f (get_or put j 0)) ∙ ap₂ ◌&&◌ (all-kept f n (omega arith) ∙ x.all f) (ap f here) in
              let right : all_below (m + 1) (λ d. idle d || f d) ≡ all_below m (λ d. idle d || f d) && f m =
              all_more m (λ d. idle d || f d) ∙ ap (λ (b : Bool). all_below m (λ d. idle d || f d) && (b || f m)) e in
              left ∙ sym right;
          before =
              below_more (λ j. (f : ℕ → Bool) → all_below j (λ i. f (get_or put i 0)) ≡ all_below (get_or put j 0) (λ d. idle d || f d)) n
              (λ j k f. all-kept f j (omega arith) ∙ x.before j k f ∙ ap (λ (b : ℕ). all_below b (λ d. idle d || f d)) (sym (there j k)))
              (λ f. all-kept f n (omega arith) ∙ x.all f ∙ ap (λ (b : ℕ). all_below b (λ d. idle d || f d)) (sym here));
          count = λ f.
              let left : count_below (n + 1) (λ j. f (get_or put j 0)) ≡ count_below m (λ d. not (idle d) && f d) + cond (f m) 1 0 =
              count-more n (λ j. f (get_or put j 0)) ∙ ap₂ ◌+◌ (count_kept f ∙ x.count f) (ap (λ (v : ℕ). cond (f v) 1 0) here) in
              let right : count_below (m + 1) (λ d. not (idle d) && f d) ≡ count_below m (λ d. not (idle d) && f d) + cond (f m) 1 0 =
              count-more m (λ d. not (idle d) && f d) ∙ ap (λ (b : Bool). count_below m (λ d. not (idle d) && f d) + cond (not b && f m) 1 0) e in
              left ∙ sym right;
        }

    pub lists-next : (more : ℕ) → more ≡ cond (not (idle m)) 1 0 → Lists idle put (n + more) (m + 1)
    lists-next more q =
        split (Lists idle put (n + more) (m + 1)) (idle m)
        (λ e. let z : more ≡ 0 = q ∙ rw e in rw (z, add-zero) (pass e))
        (λ e. let z : more ≡ 1 = q ∙ rw e in rw z (keep e))

  -- what every idle number passes is passed by all where the listed pass it; what none passes is counted in the list
  module _ (l : List ℕ) (n m : ℕ) (x : Lists idle l n m) (f : ℕ → Bool) where
    pub all_listed : ((d : ℕ) → d < m → idle d ≡ true → f d ≡ true) → all_below n (λ j. f (get_or l j 0)) ≡ all_below m f
    all_listed h =
        x.all f
        ∙ all_same m (λ d. idle d || f d) f (λ d k. split (idle d || f d ≡ f d) (idle d) (λ e. rw e (sym (h d k e))) (λ e. rw e))

    pub count-listed : ((d : ℕ) → d < m → idle d ≡ true → f d ≡ false) → count_below n (λ j. f (get_or l j 0)) ≡ count_below m f
    count-listed h =
        x.count f
        ∙ count_same m (λ d. not (idle d) && f d) f (λ d k. split (not (idle d) && f d ≡ f d) (idle d) (λ e. rw e (sym (h d k e))) (λ e. rw e))

  -- entries that hold w: an idle one holds 0, and if no two of those listed hold the same, every one is fresh
  module _ (w : ℕ → ℕ) (l : List ℕ) (n m : ℕ) (x : Lists idle l n m) (none : (d : ℕ) → idle d ≡ true → w d ≡ 0) (far : Apart (λ j. w (get_or l j 0)) n) where
    not-held : (j : ℕ) → j < n → (w (get_or l j 0) ≡ 0 → ⊥) → (d : ℕ) → d < get_or l j 0 → not (eqb (w d) (w (get_or l j 0))) ≡ true
    not-held j k some d b =
        let s = w (get_or l j 0) in
        let listed : all_below (get_or l j 0) (λ d. idle d || not (eqb (w d) s)) ≡ true =
        sym (x.before j k (λ d. not (eqb (w d) s))) ∙ all_of j (λ i. not (eqb (w (get_or l i 0)) s)) (λ i a. ap not (ne_eqb (w (get_or l i 0)) s (far j k i a))) in
        split (not (eqb (w d) s) ≡ true) (idle d)
        (λ e. ap not (ne_eqb (w d) s (λ q. some (sym q ∙ none d e))))
        (λ e. rw e at (all-at (get_or l j 0) (λ d. idle d || not (eqb (w d) s)) listed d b))

    fresh-listed : (j : ℕ) → j < n → fresh w (get_or l j 0) ≡ true
    fresh-listed j k =
        let s = w (get_or l j 0) in
        split (fresh w (get_or l j 0) ≡ true) (eqb s 0)
        (λ e. all_of (get_or l j 0) _ (λ d b. rw e))
        (λ e. all_of (get_or l j 0) _ (λ d b. rw e (not-held j k (eqb-false s 0 e) d b)))

    pub all_apart : all_below m (fresh w) ≡ true
    all_apart =
        sym (all_listed l n m x (fresh w) (λ d k e. all_of d _ (λ c b. rw (none d e))))
        ∙ all_of n (λ j. fresh w (get_or l j 0)) fresh-listed

-- ---- the used entries, squeezed to the front

module _ (t : List ℕ) (from : ℕ) where
  pub squeezed-idle : (l : List Entry) (m : ℕ) → ((d : ℕ) → d < m → unused t from d ≡ true) → Squeezed t from l 0 m
  squeezed-idle l m h =
      record {
        numbers = replicate entries 0;
        long = length-replicate {A = ℕ} entries 0;
        lists = lists-idle (unused t from) (replicate entries 0) m h;
        entry-is = λ j k. absurd (omega arith);
      }

  -- before the first entry
  pub squeezed-none : (l : List Entry) → Squeezed t from l 0 0
  squeezed-none l = squeezed-idle l 0 (λ d k. absurd (omega arith))

  -- where all their words are zero no entry is used
  pub squeezed-zeros : (l : List Entry) → all_below (2 * entries) (λ j. eqb (get_or t (from + (0 + j)) 0) 0) ≡ true → Squeezed t from l 0 entries
  squeezed-zeros l e =
      let zero-at : (j : ℕ) → j < 2 * entries → eqb (get_or t (from + j) 0) 0 ≡ true = λ j k.
      let place : from + j ≡ from + (0 + j) = omega arith in
      ap (λ (i : ℕ). eqb (get_or t i 0) 0) place ∙ all-at (2 * entries) (λ j. eqb (get_or t (from + (0 + j)) 0) 0) e j k in
      squeezed-idle l entries (λ d k.
      and_both (eqb (held_word t from d) 0) (eqb (used_word t from d) 0) (zero-at (2 * d) (omega arith)) (zero-at (1 + 2 * d) (omega arith)))

  -- entry m is put at place n, and counts if it is used
  module _ (l : List Entry) (n m : ℕ) (x : Squeezed t from l n m) (room : n < entries) (long : length l ≡ entries) where
    abbrev squeezed : List Entry
    squeezed = set l n (entry_at t from m)

    abbrev more_numbers : List ℕ
    more_numbers = set x.numbers n m

    entry-here : (none : Entry) (j : ℕ) → j < n + 1 → get_or squeezed j none ≡ entry_at t from (get_or more_numbers j 0)
    entry-here none =
        below_more (λ j. get_or squeezed j none ≡ entry_at t from (get_or more_numbers j 0)) n
        (λ j k.
        get_or-set_other l n j (entry_at t from m) none (omega arith)
        ∙ x.entry-is j k none
        ∙ ap (λ (d : ℕ). entry_at t from d) (sym (get_or-set_other x.numbers n j m 0 (omega arith))))
        (get_or-set_same l n (entry_at t from m) none (omega (arith, long))
        ∙ ap (λ (d : ℕ). entry_at t from d) (sym (get_or-set_same x.numbers n m 0 (omega (arith, x.long)))))

    pub squeezed-next : (more : ℕ) → more ≡ cond (not (unused t from m)) 1 0 → Squeezed t from squeezed (n + more) (m + 1)
    squeezed-next more q =
        let few : more ≤ 1 = omega (arith, q, one-le (not (unused t from m))) in
        record {
          numbers = more_numbers;
          long = simp length-set x.long;
          lists = lists-next (unused t from) x.numbers n m x.lists (omega (arith, x.long)) more q;
          entry-is = λ j k none. entry-here none j (omega (arith, few));
        }

  -- the front alone
  pub squeezed-front : (l : List Entry) (n m : ℕ) → Squeezed t from l n m → n ≤ length l → Squeezed t from (take n l) (length (take n l)) m
  squeezed-front l n m x fits =
      let long : length (take n l) ≡ n = length-take-le n l fits in
      record {
        numbers = x.numbers;
        long = x.long;
        lists = rw long x.lists;
        entry-is = λ j k none. get_or-take n l j none (omega arith) ∙ x.entry-is j (omega arith) none;
      }

-- ---- keys

-- one entry more, whose key has not been seen
module _ (w key : ℕ → ℕ) where
  -- the keys of what the first n hold have been seen
  abbrev pub Seen : ℕ → List Bool → Type 0
  Seen n seen = (j : ℕ) → j < n → get_or seen (key (w j)) false ≡ true

  pub seen_next : (n k : ℕ) (seen : List Bool) → k < length seen → k ≡ key (w n) → Seen n seen → Seen (n + 1) (set seen k true)
  seen_next n k seen m e s =
      below_more (λ j. get_or (set seen k true) (key (w j)) false ≡ true) n
      (λ j a. stays (key (w j)) (s j a))
      (rw (← e) (get_or-set_same seen k true false m))
    where
      stays : (i : ℕ) → get_or seen i false ≡ true → get_or (set seen k true) i false ≡ true
      stays i q =
          split _ (eqb k i)
          (λ c. rw (← eqb-true k i c) (get_or-set_same seen k true false m))
          (λ c. get_or-set_other seen k i true false (λ z. eqb-false k i c (sym z)) ∙ q)

  pub apart_next : (n k : ℕ) (seen : List Bool) → k ≡ key (w n) → Seen n seen → get_or seen k false ≡ false → Apart w n → Apart w (n + 1)
  apart_next n k seen e s new far =
      below_more (λ j. (i : ℕ) → i < j → w i ≡ w j → ⊥) n far
      (λ i a q. true≢false (sym (s i a) ∙ ap (λ (x : ℕ). get_or seen (key x) false) q ∙ rw (← e) new))
