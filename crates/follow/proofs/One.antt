-- The right slice of a table is one: every word is some list's or some mask's. And it stays right where nothing that it looks at changes.
use mathlib.Core.Path.{◌≡◌, refl, sym, ap, ◌∙◌}
use mathlib.Core.List.{List}
use Prim.Native.Nat.{ℕ, zero, suc, ◌+◌, ◌-◌, ◌*◌, ◌/◌, ◌%◌, ◌≤◌, ◌<◌}
use native.Mathlib.Omega.{arith}
use native.Mathlib.Decide.{dec_lt}
use native.Mathlib.Nat.{div-add-mod', div-lt_iff_lt-mul, mod-lt}
use lib.ListN.{get_or}
use lib.Seq.{ext_get_or}
use Rattle.rules.specs.Words.{sum_below}
use Rattle.rules.specs.Layout.{Kind, process, segment, file, cells, cell_slots, first_slot, Addr, at, Valid, live, serial, entries, held_at}
use Rattle.rules.specs.Find.{can_take}
use Rattle.rules.specs.Work.{key_at, free_keys, names}
use Rattle.laws.proofs.Cells.{first_next, run_end}
use Rattle.laws.proofs.Shape.{Shape, words-some}
use Rattle.lists.proofs.Sorting.{sorted-same}
use Rattle.marks.proofs.Bits.{mask-same}
use Rattle.follow.specs.Right.{runs, kind_at, list_at, rows_at, rows_to, mark_at, Right}
use Rattle.follow.proofs.Places.{rows_next}

module _ (h : List ℕ) (r : Addr → ℕ) (w v : List ℕ) (p : Right h r w) (q : Right h r v) where
  -- a word of a list
  list-word : (k : Kind) (c j : ℕ) → c < cells h → j ≤ cell_slots h k c → get_or w (list_at h k c + j) 0 ≡ get_or v (list_at h k c + j) 0
  list-word k c zero l b =
      let z : list_at h k c + 0 ≡ list_at h k c = omega arith in
      rw z ((p.lists k c l).count ∙ sym (q.lists k c l).count)
  list-word k c (suc j) l b = (p.lists k c l).keys j (omega arith) ∙ sym ((q.lists k c l).keys j (omega arith))

  -- a word of a kind's lists, of the first n cells
  kind-word : (k : Kind) (n x : ℕ) → n ≤ cells h → kind_at h k ≤ x → x < kind_at h k + first_slot h k n + n → get_or w x 0 ≡ get_or v x 0
  unfolding list_at first_slot sum_below
  kind-word k zero x l a b = absurd (omega arith)
  kind-word k (suc n) x l a b = elim (dec_lt x (kind_at h k + first_slot h k n + n)) [
    | yes y ↦ kind-word k n x (omega arith) a y
    | no ny ↦
        let z : list_at h k n + (x - (kind_at h k + first_slot h k n + n)) ≡ x = omega arith in
        rw z at (list-word k n (x - (kind_at h k + first_slot h k n + n)) (omega arith) (omega (arith, first_next h k n)))
  ]

  -- a word of the rows, of the first n cells
  row_word : (n x : ℕ) → n ≤ cells h → rows_at h ≤ x → x < rows_at h + rows_to h n → get_or w x 0 ≡ get_or v x 0
  unfolding mark_at rows_to sum_below
  row_word zero x l a b = absurd (omega arith)
  row_word (suc n) x l a b = elim (dec_lt x (rows_at h + rows_to h n)) [
    | yes y ↦ row_word n x (omega arith) a y
    | no ny ↦ last n (cell_slots h file n) refl (x - (rows_at h + rows_to h n)) x l (omega arith) (omega (arith, rows_next h n))
  ]
    where
      last : (n m : ℕ) → m ≡ cell_slots h file n → (y x : ℕ) → suc n ≤ cells h → x ≡ rows_at h + rows_to h n + y → y < cell_slots h process n * m
          → get_or w x 0 ≡ get_or v x 0
      last n zero e y x l a b = absurd (omega arith)
      last n (suc m) e y x l a b =
          let f : y % suc m < cell_slots h file n = rw (sym e) (mod-lt y {m = suc m} (omega arith)) in
          let i : y / suc m < cell_slots h process n = (div-lt_iff_lt-mul {k = suc m} {x = y} {y = cell_slots h process n} (omega arith)).1 b in
          let t : y / suc m * suc m + y % suc m ≡ y = div-add-mod' y (suc m) in
          let u : y / suc m * cell_slots h file n ≡ y / suc m * suc m = ap (λ (s : ℕ). y / suc m * s) (sym e) in
          let g = p.marks n (y % suc m) (y / suc m) l f i ∙ sym (q.marks n (y % suc m) (y / suc m) l f i) in
          let z : mark_at h n (y % suc m) (y / suc m) ≡ x = omega arith in
          rw z at g

  pub right-one : w ≡ v
  unfolding runs rows_at
  right-one = ext_get_or 0 w v (p.size ∙ sym q.size) (λ x b.
      elim (dec_lt x (runs h process)) [
        | yes a ↦ kind-word process (cells h) x (omega arith) (omega arith) (omega arith)
        | no na ↦ elim (dec_lt x (runs h process + runs h segment)) [
          | yes a ↦ kind-word segment (cells h) x (omega arith) (omega arith) (omega arith)
          | no nb ↦ elim (dec_lt x (rows_at h)) [
            | yes a ↦ kind-word file (cells h) x (omega arith) (omega arith) (omega arith)
            | no nc ↦ row_word (cells h) x (omega arith) (omega arith) (omega (arith, p.size))
          ]
        ]
      ])

-- ---- how a reading changes to another, as far as the slice looks: at live words, serials and descriptors

-- not at all
pub record Unseen (r q : Addr → ℕ) : Type 0 where
  pub lives : (m : Kind) (j : ℕ) → q (at m j live) ≡ r (at m j live)
  pub serials : (m : Kind) (j : ℕ) → q (at m j serial) ≡ r (at m j serial)
  pub held : (o e : ℕ) → e < entries → q (at process o (held_at file e)) ≡ r (at process o (held_at file e))

-- but for slot i of kind k
pub record OneSlot (r q : Addr → ℕ) (k : Kind) (i : ℕ) : Type 0 where
  pub lives : (m : Kind) (j : ℕ) → (m ≡ k → j ≡ i → ⊥) → q (at m j live) ≡ r (at m j live)
  pub serials : (m : Kind) (j : ℕ) → (m ≡ k → j ≡ i → ⊥) → q (at m j serial) ≡ r (at m j serial)
  pub held : (o e : ℕ) → e < entries → q (at process o (held_at file e)) ≡ r (at process o (held_at file e))

-- but for descriptor d of process p
pub record OneEntry (r q : Addr → ℕ) (p d : ℕ) : Type 0 where
  pub lives : (m : Kind) (j : ℕ) → q (at m j live) ≡ r (at m j live)
  pub serials : (m : Kind) (j : ℕ) → q (at m j serial) ≡ r (at m j serial)
  pub held : (o e : ℕ) → e < entries → (o ≡ p → e ≡ d → ⊥) → q (at process o (held_at file e)) ≡ r (at process o (held_at file e))

-- ---- where nothing changes that the slice looks at

module _ (h : List ℕ) (r q : Addr → ℕ) where
  -- the free slots of a run
  pub keys-same : (k : Kind) (c : ℕ) → ((i : ℕ) → first_slot h k c ≤ i → i < first_slot h k c + cell_slots h k c
      → (q (at k i live) ≡ r (at k i live)) × (q (at k i serial) ≡ r (at k i serial))) → free_keys h r k c ≡ free_keys h q k c
  unfolding free_keys key_at
  keys-same k c same = sorted-same (can_take r k) (can_take q k) (key_at r k) (key_at q k) (cell_slots h k c) (first_slot h k c)
      (λ j a b. rw ((same j a b).0, (same j a b).1)) (λ j a b t. rw (same j a b).1)

  stays : ((k : Kind) (i : ℕ) → i < first_slot h k (cells h) → (q (at k i live) ≡ r (at k i live)) × (q (at k i serial) ≡ r (at k i serial)))
      → ((o e : ℕ) → o < first_slot h process (cells h) → e < entries → q (at process o (held_at file e)) ≡ r (at process o (held_at file e)))
      → (w : List ℕ) → Right h r w → Right h q w
  unfolding names
  stays slot held w p = record {
    size = p.size;
    lists = λ k c l. let e = keys-same k c (λ i a b. slot k i (omega (arith, run_end h k c l))) in rw e at (p.lists k c l);
    marks = λ c f i cl fl il. p.marks c f i cl fl il
        ∙ mask-same (names r (first_slot h process c + i) (first_slot h file c + f)) (names q (first_slot h process c + i) (first_slot h file c + f)) entries 0
        (λ d a b. rw (held (first_slot h process c + i) d (omega (arith, run_end h process c cl)) (omega arith)));
  }

  pub unseen-right : (w : List ℕ) → Unseen r q → Right h r w → Right h q w
  unseen-right w u = stays (λ k i l. (u.lives k i, u.serials k i)) (λ o e l m. u.held o e m) w

-- ---- readings that agree at every word of a table

module _ (h : List ℕ) (sh : Shape h) (r q : Addr → ℕ) (same : (a : Addr) → Valid h a → q a ≡ r a) where
  pub same-slot : (k : Kind) (i : ℕ) → i < first_slot h k (cells h) → (q (at k i live) ≡ r (at k i live)) × (q (at k i serial) ≡ r (at k i serial))
  same-slot k i l =
      let n = sh.sums k in
      let x = words-some k in
      (same (at k i live) (omega arith, omega arith), same (at k i serial) (omega arith, omega arith))

  pub same-held : (o e : ℕ) → o < first_slot h process (cells h) → e < entries → q (at process o (held_at file e)) ≡ r (at process o (held_at file e))
  same-held o e l m = let n = sh.sums process in same (at process o (held_at file e)) (omega arith, omega arith)

  -- have one right slice
  pub right-reads : (w : List ℕ) → Right h r w → Right h q w
  right-reads w = stays h r q same-slot same-held w
