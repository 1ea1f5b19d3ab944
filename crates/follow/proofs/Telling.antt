-- What a working slice tells, in the rules' words: it has at most 66,352 words; a list has the keys of its cell's free slots, all of them and nothing else, the last that of
-- the slot that creation takes; a mask's bits are the descriptors that name the file.
use mathlib.Core.Path.{◌≡◌, refl, sym, ap, ◌∙◌}
use mathlib.Core.Bool.{Bool, true, false, cond}
use mathlib.Core.List.{List, [], ◌∷◌, ◌++◌}
use Prim.Native.Nat.{ℕ, zero, suc, ◌+◌, ◌/◌, ◌%◌, ◌^◌, ◌≤◌, ◌<◌}
use native.Mathlib.Omega.{arith}
use native.Mathlib.Nat.{div-one, le_trans, mul-le-mul}
use native.Mathlib.Decide.{ℕ_discrete, dec_lt}
use lib.Dec.{eqb}
use lib.ListN.{length, get_or, length-append}
use lib.Pow.{shr-shr}
use borrow.Author.Tests.{eqb-true, ne_eqb, leb-true, leb-false}
use Rattle.rules.specs.Words.{least}
use Rattle.rules.specs.Claim.{Holds}
use Rattle.rules.specs.Layout.{max_slots, Kind, process, segment, file, cells, slots, cell_slots, first_slot, cell_of, configuration, Addr, at, rd, live, serial, entries, held_at}
use Rattle.rules.specs.Seid.{class, subtype_class, class_of, index_of, serial_of}
use Rattle.rules.specs.WellFormed.{well_formed}
use Rattle.rules.specs.Find.{can_take, free_slot, no_slot}
use Rattle.rules.specs.Work.{most_masks, most_work, key_at, insert, sorted, free_keys, mask, names, work_in}
use Rattle.laws.proofs.Tests.{and_left, and_right, split}
use Rattle.laws.proofs.Least.{least-choice}
use Rattle.laws.proofs.Below.{sum-products}
use Rattle.laws.proofs.Shape.{Shape, Object, good_of, descriptor}
use Rattle.laws.proofs.Seids.{class-some, class-pos}
use Rattle.laws.proofs.Written.{AllOf}
use Rattle.lists.proofs.Sorting.{length-insert, sorted-hit, sorted-miss, sorted_all, without}
use Rattle.lists.proofs.Rank.{rank, rank-le, insert-low, insert-here, insert-high, Falling, sorted-falling}
use Rattle.lists.proofs.Lists.{last-is, none_is}
use Rattle.marks.proofs.Bits.{mask-parity, mask-half}
use Rattle.follow.specs.Right.{runs, rows_at, rows_to}
use Rattle.follow.proofs.Made.{made-right}
use Rattle.follow.proofs.Slots.{run_small}

-- ---- how long it is

pub work-short : (t : List ℕ) (m : ℕ) → Holds (well_formed t m) → length (work_in t) ≤ most_work
unfolding work_in runs rows_at rows_to first_slot
work-short t m f =
    let h : List ℕ = configuration t in
    let x : Shape h = (good_of t m f).shape in
    let n : ℕ = cells h in
    let whole = (made-right h (rd h t)).size in
    let few : (k : Kind) → first_slot h k n ≤ max_slots = λ k. omega (arith, x.sums k, x.few k) in
    let few-masks : rows_to h n ≤ most_masks
    = le_trans (sum-products (cell_slots h process) (cell_slots h file) n) (mul-le-mul (few process) (few file)) in
    omega (arith, whole, x.few-cells, few process, few segment, few file, few-masks)

-- ---- what its words say

-- a key is a serial and an index
pub key-parts : (r : Addr → ℕ) (k : Kind) (i : ℕ) → i < max_slots → (key_at r k i / max_slots ≡ r (at k i serial)) × (key_at r k i % max_slots ≡ i)
unfolding key_at
key-parts r k i l = (omega arith, omega arith)

-- x stands in a list
pub record Among (x : ℕ) (l : List ℕ) : Type 0 where
  pub place : ℕ
  pub inside : place < length l
  pub here : get_or l place 0 ≡ x

among-insert : (x y : ℕ) (l : List ℕ) → Among y l → Among y (insert x l)
among-insert x y l a = elim (dec_lt a.place (rank x l)) [
  | yes b ↦ record { place = a.place; inside = omega (arith, a.inside, length-insert x l); here = insert-low x l a.place b ∙ a.here }
  | no b ↦ record { place = suc a.place; inside = omega (arith, a.inside, length-insert x l); here = insert-high x l a.place (omega arith) ∙ a.here }
]

among-sorted : (f : ℕ → Bool) (key : ℕ → ℕ) (n i j : ℕ) → i ≤ j → j < i + n → f j ≡ true → Among (key j) (sorted f key n i)
among-sorted f key zero i j a b t = absurd (omega arith)
among-sorted f key (suc n) i j a b t = elim (ℕ_discrete i j) [
  | yes e ↦ let l : List ℕ = sorted f key n (suc i) in rw (sorted-hit f key n i (rw e t), ← e)
      (record { place = rank (key i) l; inside = omega (arith, rank-le (key i) l, length-insert (key i) l); here = insert-here (key i) l })
  | no ne ↦
      let x : Among (key j) (sorted f key n (suc i)) = among-sorted f key n (suc i) j (omega arith) (omega arith) t in
      split _ (f i)
      (λ e. rw (sorted-hit f key n i e) (among-insert (key i) (key j) (sorted f key n (suc i)) x))
      (λ e. rw (sorted-miss f key n i e) x)
]

-- x is the key of a slot of the cell that can be taken
pub record FreeKey (h : List ℕ) (r : Addr → ℕ) (k : Kind) (c x : ℕ) : Type 0 where
  pub slot : ℕ
  pub low : first_slot h k c ≤ slot
  pub high : slot < first_slot h k c + cell_slots h k c
  pub free : can_take r k slot ≡ true
  pub key : x ≡ key_at r k slot

-- "per cell, lists of free slots": a list has the keys of the cell's free slots, all of them and nothing else, falling
module _ (h : List ℕ) (r : Addr → ℕ) (k : Kind) (c : ℕ) where
  pub all_listed : (x : ℕ) → FreeKey h r k c x → Among x (free_keys h r k c)
  unfolding free_keys
  all_listed x y = rw y.key (among-sorted (can_take r k) (key_at r k) (cell_slots h k c) (first_slot h k c) y.slot y.low y.high y.free)

  pub nothing-else : AllOf (FreeKey h r k c) (free_keys h r k c)
  unfolding free_keys
  nothing-else = sorted_all {P = FreeKey h r k c} (can_take r k) (key_at r k) (cell_slots h k c) (first_slot h k c)
      (λ i a b t. record { slot = i; low = a; high = b; free = t; key = refl })

  pub falling : Falling (free_keys h r k c)
  unfolding free_keys
  falling = sorted-falling (can_take r k) (key_at r k) (cell_slots h k c) (first_slot h k c)

module _ (h : List ℕ) (shape : Shape h) (r : Addr → ℕ) (k : Kind) (c : ℕ) (l : c < cells h) where
  -- where a cell has a slot to take, its list's last key is that of the slot that creation takes
  pub last_taken : no_slot h r k c ≡ false → (others : List ℕ) × (free_keys h r k c ≡ others ++ (key_at r k (free_slot h r k c) ∷ []))
  unfolding free_keys free_slot key_at
  last_taken e = (
    sorted (without (can_take r k) (free_slot h r k c)) (key_at r k) (cell_slots h k c) (first_slot h k c),
    last-is (can_take r k) (λ i. r (at k i serial)) (key_at r k) (λ i. refl) (cell_slots h k c) (first_slot h k c) (run_small h shape k c l) (leb-false _ _ e),
  )

  -- and the list is empty exactly where it has none
  pub none-empty : no_slot h r k c ≡ true → free_keys h r k c ≡ []
  unfolding free_keys free_slot key_at
  none-empty e =
      let s : ℕ → ℕ = λ i. r (at k i serial) in
      let n : ℕ = cell_slots h k c in
      let from : ℕ = first_slot h k c in
      none_is (can_take r k) s (key_at r k) (λ i. refl) n from (run_small h shape k c l) (elim (ℕ_discrete (least (can_take r k) s n from) (from + n)) [
        | yes m ↦ m
        | no ne ↦ absurd (omega (arith, ((least-choice (can_take r k) s n from).one ne).high, leb-true (from + n) (least (can_take r k) s n from) e))
      ])

  pub empty-none : free_keys h r k c ≡ [] → no_slot h r k c ≡ true
  empty-none e = split _ (no_slot h r k c) (λ t. t) (λ f.
      let x = last_taken f in
      absurd (omega (arith, ap length x.1, ap length e, length-append x.0 (key_at r k (free_slot h r k c) ∷ []))))

bit-from : (f : ℕ → Bool) (n i d : ℕ) → d < n → mask f n i / 2 ^ d % 2 ≡ cond (f (i + d)) 1 0
bit-from f zero i d l = absurd (omega arith)
bit-from f (suc n) i zero l = let z : i + 0 ≡ i = omega arith in rw (div-one (mask f (suc n) i), z) (mask-parity f n i)
bit-from f (suc n) i (suc d) l =
    let z : suc i + d ≡ i + suc d = omega arith in
    let halved : mask f (suc n) i / 2 ^ (1 + d) ≡ mask f n (suc i) / 2 ^ d = sym (shr-shr (mask f (suc n) i) 1 d) ∙ ap (λ (x : ℕ). x / 2 ^ d) (mask-half f n i) in
    let e : 1 + d ≡ suc d = omega arith in
    ap (λ (x : ℕ). x % 2) (rw e at halved) ∙ rw z at (bit-from f n (suc i) d (omega arith))

-- "per file its open entries": bit d of a mask tells whether descriptor d names the file slot
pub bit-names : (r : Addr → ℕ) (q i d : ℕ) → d < entries → mask (names r q i) entries 0 / 2 ^ d % 2 ≡ cond (names r q i d) 1 0
bit-names r q i d l = let z : 0 + d ≡ d = omega arith in rw z at (bit-from (names r q i) entries 0 d l)

-- and in a well-formed table one of the file's own cell that names the slot holds the file that lives there
pub names-live : (t : List ℕ) (m q i d : ℕ) → Holds (well_formed t m) → let h : List ℕ = configuration t in let r : Addr → ℕ = rd h t in
    q < slots h process → d < entries → cell_of h file i ≡ cell_of h process q → names r q i d ≡ true
    → (r (at file i live) ≡ 1) × (r (at file i serial) ≡ serial_of (r (at process q (held_at file d))))
unfolding names
names-live t m q i d f l b own e =
    let h : List ℕ = configuration t in
    let r : Addr → ℕ = rd h t in
    let s : ℕ = r (at process q (held_at file d)) in
    let c : class_of s ≡ class file = eqb-true _ _ (and_left (eqb (class_of s) (class file)) (eqb (index_of s) i) e) in
    let x : index_of s ≡ i = eqb-true _ _ (and_right (eqb (class_of s) (class file)) (eqb (index_of s) i) e) in
    let object : Object file s = (class-some s (class file) (class-pos file) c, ne_eqb (class_of s) subtype_class (λ z. omega (arith, c, z))) in
    let entry = descriptor h r (good_of t m f).records q d l b in
    (rw x at (entry.current-live object (rw x own)), rw x at (entry.current-serial object (rw x own)))
