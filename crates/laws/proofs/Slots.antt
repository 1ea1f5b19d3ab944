-- The search for a free slot, sealed: what it finds, when there is none, and what it hangs on.
use mathlib.Core.Path.{◌≡◌}
use mathlib.Core.Bool.{true, false}
use mathlib.Core.List.{List}
use Prim.Native.Nat.{ℕ, ◌+◌, ◌≤◌, ◌<◌}
use native.Mathlib.Omega.{arith}
use lib.Dec.{ltb, eqb}
use borrow.Author.Tests.{eqb-true, ltb-true, leb-false, eq-eqb, lt-ltb}
use Rattle.rules.specs.Layout.{max_serial, Kind, cells, slots, cell_slots, first_slot, cell_of, Addr, at, live, serial}
use Rattle.rules.specs.Find.{can_take, free_slot, no_slot}
use Rattle.laws.proofs.Tests.{and_left, and_right, and_both}
use Rattle.laws.proofs.Least.{Smallest, least-is, least-same}
use Rattle.laws.proofs.Cells.{cell-run, run_end}
use Rattle.laws.proofs.Shape.{Shape}

-- slot i lies in cell c's run
pub record InRun (h : List ℕ) (k : Kind) (c i : ℕ) : Type 0 where
  pub low : first_slot h k c ≤ i
  pub high : i < first_slot h k c + cell_slots h k c

-- and so it is a slot of the table, and its cell is c
module _ (h : List ℕ) (sh : Shape h) (k : Kind) (c i : ℕ) (l : c < cells h) (x : InRun h k c i) where
  pub run-slot : i < slots h k
  run-slot = omega (arith, run_end h k c l, sh.sums k)

  pub run-cell : cell_of h k i ≡ c
  run-cell = cell-run h k i c l x.low x.high

-- it can be taken
pub record Untaken (r : Addr → ℕ) (k : Kind) (i : ℕ) : Type 0 where
  pub is_free : r (at k i live) ≡ 0
  pub not-worn : r (at k i serial) < max_serial

module _ (r : Addr → ℕ) (k : Kind) (i : ℕ) where
  pub untaken : can_take r k i ≡ true → Untaken r k i
  untaken e = record {
    is_free = eqb-true _ 0 (and_left (eqb (r (at k i live)) 0) (ltb (r (at k i serial)) max_serial) e);
    not-worn = ltb-true _ max_serial (and_right (eqb (r (at k i live)) 0) (ltb (r (at k i serial)) max_serial) e);
  }

  pub can-take : Untaken r k i → can_take r k i ≡ true
  can-take u = and_both _ _ (eq-eqb _ 0 u.is_free) (lt-ltb _ max_serial u.not-worn)

-- ---- whatever the configuration

module _ (h : List ℕ) (r : Addr → ℕ) (k : Kind) (c : ℕ) where
  -- what is found
  smallest : no_slot h r k c ≡ false → Smallest (can_take r k) (λ i. r (at k i serial)) (first_slot h k c) (first_slot h k c + cell_slots h k c) (free_slot h r k c)
  unfolding free_slot
  smallest n = least-is (can_take r k) (λ i. r (at k i serial)) (cell_slots h k c) (first_slot h k c) (leb-false _ _ n)

  pub slot-in-run : no_slot h r k c ≡ false → InRun h k c (free_slot h r k c)
  slot-in-run n = record { low = (smallest n).low; high = (smallest n).high }

  pub slot-untaken : no_slot h r k c ≡ false → Untaken r k (free_slot h r k c)
  slot-untaken n = untaken r k _ (smallest n).passes

  -- no other that can be taken has a smaller serial, nor one before it the same
  pub slot-smallest : no_slot h r k c ≡ false → (i : ℕ) → InRun h k c i → Untaken r k i
      → (r (at k (free_slot h r k c) serial) ≤ r (at k i serial)) × (i < free_slot h r k c → r (at k (free_slot h r k c) serial) < r (at k i serial))
  slot-smallest n i x u =
      let s = smallest n in
      let t = can-take r k i u in
      (s.smallest i x.low x.high t, λ l. s.first i x.low l t)

-- it hangs on which slots of the run live, and on their serials
pub same-slot : (h : List ℕ) (r q : Addr → ℕ) (k : Kind) (c : ℕ)
    → ((i : ℕ) → InRun h k c i → (q (at k i live) ≡ r (at k i live)) × (q (at k i serial) ≡ r (at k i serial))) → free_slot h q k c ≡ free_slot h r k c
unfolding free_slot
same-slot h r q k c same =
    least-same (can_take q k) (can_take r k) (λ i. q (at k i serial)) (λ i. r (at k i serial)) (cell_slots h k c) (first_slot h k c) (λ i lo hi.
    let e = same i (record { low = lo; high = hi }) in
    let t : can_take q k i ≡ can_take r k i = rw (e.0, e.1) in (t, e.1))

-- ---- in a table's configuration

-- slot i of cell c can be taken
pub record FreeSlot (h : List ℕ) (r : Addr → ℕ) (k : Kind) (c i : ℕ) : Type 0 where
  pub in-range : i < slots h k
  pub in_cell : cell_of h k i ≡ c
  pub is_free : r (at k i live) ≡ 0
  pub not-worn : r (at k i serial) < max_serial

pub free-slot : (h : List ℕ) (r : Addr → ℕ) → Shape h → (c : ℕ) → c < cells h → (k : Kind) → no_slot h r k c ≡ false → FreeSlot h r k c (free_slot h r k c)
free-slot h r sh c l k n =
    let x = slot-in-run h r k c n in
    let u = slot-untaken h r k c n in
    record { in-range = run-slot h sh k c _ l x; in_cell = run-cell h sh k c _ l x; is_free = u.is_free; not-worn = u.not-worn }
