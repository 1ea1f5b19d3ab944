-- The header's numbers are the configuration's: places, readings and cells by the one are those of the other.
use mathlib.Core.Path.{◌≡◌, refl, sym, ap, ◌∙◌}
use mathlib.Core.Bool.{Bool, true, false, cond}
use mathlib.Core.List.{List}
use Prim.Native.Nat.{ℕ, ◌+◌, ◌≤◌, ◌<◌}
use native.Mathlib.Omega.{arith}
use native.Mathlib.Decide.{ℕ_discrete}
use lib.Dec.{leb, ltb}
use lib.ListN.{get_or}
use borrow.Author.Tests.{lt-ltb, le-ltb, leb-true, leb-false}
use Rattle.rules.specs.Words.{sum_below}
use Rattle.rules.specs.Layout.{max_slots, Kind, process, segment, file, cell_words, cells, slots, blocks, guard, cell_word, cell_slots_word, configuration, first_slot, cell_of, Addr, at, base, offset, rd, cell_at}
use Rattle.laws.proofs.Below.{sum_more, sum-grows}
use Rattle.laws.proofs.Search.{lowest-is, lowest-none}
use Rattle.laws.proofs.Tests.{cond-true, cond-false, split}
use Rattle.laws.proofs.Places.{conf-cells, conf-cell}
use Rattle.laws.proofs.Shape.{Shape, shape_of}
use Rattle.layout.specs.declared.Header.{Header}
use Rattle.layout.specs.Header.{slots_of, base_of, record_of, place_of}
use Rattle.calls.specs.World.{Known, words_of, first_by, cell_by}

-- ---- places and readings

module _ {t : List ℕ} {n : Header} (s : Known t n) where
  base-is : (k : Kind) → base_of n k ≡ base (configuration t) k
  base-is process = rw s.header refl
  base-is segment = rw s.header refl
  base-is file = rw s.header refl

  pub spot : (a : Addr) → place_of n a ≡ offset (configuration t) a
  spot a = rw (base-is a.kind)

  -- what is read at a place that the code has found
  pub see : (k : Kind) (i j : ℕ) {x y : ℕ} → y ≡ record_of n k i → x ≡ get_or t (y + j) 0 → x ≡ words_of t (at k i j)
  unfolding rd
  see k i j ye xe = xe ∙ rw (ye, base-is k)

  pub shape : Shape (configuration t)
  shape = shape_of (configuration t) s.conf

  pub cells_is : n.cells ≡ cells (configuration t)
  cells_is = ap (λ (x : Header). x.cells) s.header

  pub blocks_is : n.blocks ≡ blocks (configuration t)
  blocks_is = ap (λ (x : Header). x.blocks) s.header

  pub guard-is : n.guard ≡ guard (configuration t)
  guard-is = ap (λ (x : Header). x.guard) s.header

  pub slots-is : (k : Kind) → slots_of n k ≡ slots (configuration t) k
  slots-is process = ap (λ (x : Header). x.processes) s.header
  slots-is segment = ap (λ (x : Header). x.segments) s.header
  slots-is file = ap (λ (x : Header). x.files) s.header

-- ---- the cell of a slot

pub by_kind : (h : List ℕ) (k : Kind) (i : ℕ) → cell_by h (cell_slots_word k) i ≡ cell_of h k i
unfolding cell_by cell_of first_by first_slot
by_kind h k i = refl

pub first-by-kind : (h : List ℕ) (k : Kind) (c : ℕ) → first_by h (cell_slots_word k) c ≡ first_slot h k c
unfolding first_by first_slot
first-by-kind h k c = refl

-- word k of cell c, read at the number y of the cell
pub cell-word : (t : List ℕ) {c k x y : ℕ} → c < cells (configuration t) → k < cell_words → y ≡ c → x ≡ get_or t (cell_at y k) 0
    → x ≡ cell_word (configuration t) c k
unfolding cell_word
cell-word t {c} {k} l m ye xe =
    let n : c < cells t = omega (arith, conf-cells t) in
    (rw ye at xe) ∙ sym (conf-cell t c k n m)

-- the runs passed: none, one more, and no fewer
pub first-none : (h : List ℕ) (k : ℕ) → 0 ≡ first_by h k 0
unfolding first_by sum_below
first-none h k = refl

pub first_more : (h : List ℕ) (k c : ℕ) → first_by h k c + cell_word h c k ≡ first_by h k (c + 1)
unfolding first_by
first_more h k c = sym (sum_more c (λ c. cell_word h c k))

pub first-bound : (h : List ℕ) (k c n : ℕ) → c ≤ n → first_by h k c ≤ first_by h k n
unfolding first_by
first-bound h k c n l = sum-grows (λ c. cell_word h c k) c n l

-- whether the run of cell c ends past slot i
abbrev past_slot : List ℕ → ℕ → ℕ → ℕ → Bool
past_slot h k i c = ltb i (first_by h k c + cell_word h c k)

-- c cells whose runs end at `end`, and the slot's cell as far as they tell: no cell before it ends past slot i, and where it is one of them, it does
pub record Passed (t : List ℕ) (k i n end cell c : ℕ) : Type 0 where
  pub count : n ≡ cells (configuration t)
  pub upto : c ≤ n
  pub sum : end ≡ first_by (configuration t) k c
  pub within : cell ≤ c
  pub none : (j : ℕ) → 0 ≤ j → j < cell → past_slot (configuration t) k i j ≡ false
  pub hit : cell < c → (past_slot (configuration t) k i cell ≡ true) × (i < end)

pub passed_none : (t : List ℕ) (k i n : ℕ) → n ≡ cells (configuration t) → Passed t k i n 0 0 0
passed_none t k i n e = record {
  count = e;
  upto = omega arith;
  sum = first-none (configuration t) k;
  within = omega arith;
  none = λ j a b. absurd (omega arith);
  hit = λ l. absurd (omega arith);
}

module _ {t : List ℕ} {k i n end cell c : ℕ} (kl : k < cell_words) (p : Passed t k i n end cell c) where
  pub at-end : n ≤ c → cell ≡ cell_by (configuration t) k i
  unfolding cell_by
  at-end l =
      let e : cells (configuration t) ≡ c = omega (arith, p.count, p.upto) in
      elim (ℕ_discrete cell c) [
        | yes f ↦ sym (lowest-none (past_slot (configuration t) k i) (cells (configuration t)) 0 (λ j a b. p.none j a (omega arith)) ∙ omega arith)
        | no ne ↦
            let h : cell < c = omega (arith, p.within) in
            sym (lowest-is (past_slot (configuration t) k i) (cells (configuration t)) 0 cell (omega arith) (omega arith) (p.hit h).0 p.none)
      ]

  -- the next cell: x is its word, read at the number y of the cell
  module _ (l : c < n) {x y : ℕ} (yc : y ≡ c) (e : x ≡ get_or t (cell_at y k) 0) where
    word-is : x ≡ cell_word (configuration t) c k
    word-is = cell-word t (omega (arith, p.count)) kl yc e

    end_is : end + x ≡ first_by (configuration t) k c + cell_word (configuration t) c k
    end_is = omega (arith, p.sum, word-is)

    next-sum : end + x ≡ first_by (configuration t) k (c + 1)
    next-sum = end_is ∙ first_more (configuration t) k c

    pub sum-small : first_by (configuration t) k (cells (configuration t)) ≤ max_slots → end + x ≤ max_slots
    sum-small b = omega (arith, next-sum, first-bound (configuration t) k (c + 1) (cells (configuration t)) (omega (arith, p.count)))

    -- its run ends before the slot, and so do those before it
    beyond : end + x ≤ i → {w : ℕ} → w ≡ cell + 1 → Passed t k i n (end + x) w (c + 1)
    beyond q we =
        let f : cell ≡ c = elim (ℕ_discrete cell c) [
          | yes f ↦ f
          | no ne ↦ absurd (omega (arith, (p.hit (omega (arith, p.within))).1))
        ] in
        record {
          count = p.count;
          upto = omega arith;
          sum = next-sum;
          within = omega arith;
          none = λ j a b. elim (ℕ_discrete j c) [
            | yes g ↦ rw g (le-ltb i _ (rw end_is at q))
            | no ne ↦ p.none j a (omega arith)
          ];
          hit = λ h. absurd (omega arith);
        }

    -- its run ends past the slot: it is the slot's cell, if none before it was
    there : i < end + x → {w : ℕ} → w ≡ cell → Passed t k i n (end + x) w (c + 1)
    there q we = record {
      count = p.count;
      upto = omega arith;
      sum = next-sum;
      within = omega (arith, p.within);
      none = λ j a b. p.none j a (omega arith);
      hit = λ h. rw we (elim (ℕ_discrete cell c) [
        | yes f ↦ (rw f (lt-ltb i _ (rw end_is at q)), q)
        | no ne ↦ ((p.hit (omega arith)).0, q)
      ]);
    }

    -- r is 1 where its run ends before the slot, else 0
    module _ {r : ℕ} (g : r ≡ cond (leb (end + x) i) 1 0) where
      pub further : Passed t k i n (end + x) (cell + r) (c + 1)
      further = split (Passed t k i n (end + x) (cell + r) (c + 1)) (leb (end + x) i)
          (λ h. beyond (leb-true _ _ h) (omega (arith, g ∙ cond-true {A = ℕ} _ 1 0 h)))
          (λ h. there (leb-false _ _ h) (omega (arith, g ∙ cond-false {A = ℕ} _ 1 0 h)))

-- the word of a cell's record that counts the slots of a kind
pub word-of-kind : (h : List ℕ) → Shape h → (k : Kind) → (cell_slots_word k < cell_words) × (first_by h (cell_slots_word k) (cells h) ≤ max_slots)
word-of-kind h s k = (small k, rw (first-by-kind h k (cells h), s.sums k) (s.few k))
  where
    small : (k : Kind) → cell_slots_word k < cell_words
    small process = omega arith
    small segment = omega arith
    small file = omega arith

pub kind-word : {t : List ℕ} {n : Header} → Known t n → (k : Kind) {x : ℕ} → x ≡ cell_slots_word k
    → (x < cell_words) × (first_by (configuration t) x (cells (configuration t)) ≤ max_slots)
kind-word {t} s k e = rw e (word-of-kind (configuration t) (shape s) k)
