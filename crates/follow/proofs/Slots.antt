-- One slot taken or freed: the one list changes as `taken` and `given` change it, and the slice is right again. And the list's next slot is the search's.
use mathlib.Core.Path.{◌≡◌, refl, ◌∙◌}
use mathlib.Core.Bool.{true, false}
use mathlib.Core.List.{List}
use Prim.Native.Nat.{ℕ, ◌+◌, ◌≤◌, ◌<◌}
use native.Mathlib.Omega.{arith}
use Rattle.rules.specs.Layout.{max_slots, Kind, process, file, cells, cell_slots, first_slot, Addr, at, serial, entries}
use Rattle.rules.specs.Find.{can_take, free_slot, no_slot}
use Rattle.rules.specs.Work.{key_at, free_keys, mask, names}
use Rattle.laws.proofs.Cells.{run_end}
use Rattle.laws.proofs.Shape.{Shape}
use Rattle.laws.proofs.Slots.{InRun, slot-in-run}
use Rattle.lists.specs.Region.{Shows, Listed, taken, given, next_slot}
use Rattle.lists.proofs.Lists.{shows-apart, take-right, give-right, stay-right, next-found}
use Rattle.marks.proofs.Bits.{mask-same}
use Rattle.kept.proofs.Records.{by_kind, by-slot}
use Rattle.follow.specs.Right.{list_at, mark_at, Right}
use Rattle.follow.proofs.Places.{far, before-rows, run-apart}
use Rattle.follow.proofs.One.{OneSlot, keys-same}

-- a table's slots are few
pub run_small : (h : List ℕ) → Shape h → (k : Kind) (c : ℕ) → c < cells h → first_slot h k c + cell_slots h k c ≤ max_slots
run_small h sh k c l = omega (arith, run_end h k c l, sh.sums k, sh.few k)

-- the list's next slot is the one that creation takes
pub next-free : (h : List ℕ) → Shape h → (r : Addr → ℕ) (w : List ℕ) → Right h r w → (k : Kind) (c : ℕ) → c < cells h
    → next_slot w (list_at h k c) (first_slot h k c + cell_slots h k c) ≡ free_slot h r k c
unfolding free_keys key_at free_slot
next-free h sh r w right k c l =
    next-found (can_take r k) (λ i. r (at k i serial)) (key_at r k) (λ i. refl) (cell_slots h k c) (first_slot h k c) (run_small h sh k c l) w (list_at h k c)
    (right.lists k c l)

module _ (h : List ℕ) (r q : Addr → ℕ) (w v : List ℕ) (k : Kind) (c i : ℕ) (cl : c < cells h) (run : InRun h k c i) (one : OneSlot r q k i) (right : Right h r w) where
  mask-kept : (f p : ℕ) → mask (names r p f) entries 0 ≡ mask (names q p f) entries 0
  unfolding names
  mask-kept f p = mask-same (names r p f) (names q p f) entries 0 (λ d a b. rw (one.held p d (omega arith)))

  -- the slot is of no other list
  slot_apart : (m : Kind) (e : ℕ) → (m ≡ k → e ≡ c → ⊥) → (j : ℕ) → first_slot h m e ≤ j → j < first_slot h m e + cell_slots h m e → m ≡ k → j ≡ i → ⊥
  slot_apart m e ne j a b mk ji = ne mk (run-apart h k e c i (rw (mk, ji) at a) (rw (mk, ji) at b) run.low run.high)

  list-kept : (m : Kind) (e : ℕ) → (m ≡ k → e ≡ c → ⊥) → free_keys h r m e ≡ free_keys h q m e
  list-kept m e ne = keys-same h r q m e (λ j a b. let n = slot_apart m e ne j a b in (one.lives m j n, one.serials m j n))

  -- the one list is what it is now; the others are as they were, and so are the masks
  slot-right : Listed w v (list_at h k c) (cell_slots h k c) (free_keys h q k c) → Right h q v
  slot-right new = record {
    size = new.beside.size ∙ right.size;
    lists = by_kind (λ m. (e : ℕ) → e < cells h → Shows v (list_at h m e) (cell_slots h m e) (free_keys h q m e)) k
        (by-slot (λ e. e < cells h → Shows v (list_at h k e) (cell_slots h k e) (free_keys h q k e)) c (λ l. new.shows) (λ e ne l. other k e l (λ x y. ne y)))
        (λ m nm e l. other m e l (λ x y. nm x));
    marks = λ e f p el fl pl. new.beside.rest (mark_at h e f p) (λ x y. omega (arith, before-rows h k c e f p cl)) ∙ right.marks e f p el fl pl
        ∙ mask-kept (first_slot h file e + f) (first_slot h process e + p);
  }
    where
      other : (m : Kind) (e : ℕ) → e < cells h → (m ≡ k → e ≡ c → ⊥) → Shows v (list_at h m e) (cell_slots h m e) (free_keys h q m e)
      other m e el ne = rw (list-kept m e ne) at
          (shows-apart w v (list_at h m e) (cell_slots h m e) (free_keys h r m e) (list_at h k c) (cell_slots h k c) (right.lists m e el) new.beside
          (far h m k e c el cl ne))

module _ (h : List ℕ) (sh : Shape h) (r q : Addr → ℕ) (w : List ℕ) (k : Kind) (c i : ℕ) (cl : c < cells h) (one : OneSlot r q k i) (right : Right h r w) where
  test-same : (j : ℕ) → (j ≡ i → ⊥) → can_take r k j ≡ can_take q k j
  test-same j ne = rw (one.lives k j (λ x y. ne y), one.serials k j (λ x y. ne y))

  key-same : (j : ℕ) → (j ≡ i → ⊥) → key_at r k j ≡ key_at q k j
  unfolding key_at
  key-same j ne = rw (one.serials k j (λ x y. ne y))

  -- calls 1, 3, 7 and 21: the slot that creation takes can no longer be taken
  pub taken-right : no_slot h r k c ≡ false → i ≡ free_slot h r k c → can_take q k i ≡ false → Right h q (taken w (list_at h k c))
  unfolding free_keys key_at free_slot
  taken-right some e gone =
      let run : InRun h k c i = rw e (slot-in-run h r k c some) in
      slot-right h r q w (taken w (list_at h k c)) k c i cl run one right
      (take-right (can_take r k) (can_take q k) (key_at r k) (key_at q k) w (list_at h k c) (cell_slots h k c) (first_slot h k c) i
      (λ j a b. test-same j) (λ j a b ne t. key-same j ne) (right.lists k c cl) (λ j. r (at k j serial)) (λ j. refl) (run_small h sh k c cl) e run.high gone)

  -- calls 5, 9 and 11: a slot that could not be taken is given back, if it can be now
  pub given-right : InRun h k c i → can_take r k i ≡ false → can_take q k i ≡ true → Right h q (given w (list_at h k c) (key_at q k i))
  unfolding free_keys
  given-right run was now =
      slot-right h r q w (given w (list_at h k c) (key_at q k i)) k c i cl run one right
      (give-right (can_take r k) (can_take q k) (key_at r k) (key_at q k) w (list_at h k c) (cell_slots h k c) (first_slot h k c) i
      (λ j a b. test-same j) (λ j a b ne t. key-same j ne) (right.lists k c cl) (omega (arith, run_small h sh k c cl)) run.low run.high was now)

  pub worn-right : InRun h k c i → can_take r k i ≡ false → can_take q k i ≡ false → Right h q w
  unfolding free_keys
  worn-right run was now = slot-right h r q w w k c i cl run one right (record {
    shows = stay-right (can_take r k) (can_take q k) (key_at r k) (key_at q k) w (list_at h k c) (cell_slots h k c) (first_slot h k c) i
        (λ j a b. test-same j) (λ j a b ne t. key-same j ne) (right.lists k c cl) was now;
    beside = record { size = refl; rest = λ j out. refl };
  })
