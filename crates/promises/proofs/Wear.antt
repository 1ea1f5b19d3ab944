-- 02, CR 10, "Wear slots evenly": what the search for a free slot finds; that there is room exactly when there was by 01's rule; and that in every run from set-up on a
-- slot is used at most once more often than another of its cell that is free whenever it is taken (`evenly`, `all-evenly`, at the end).
use mathlib.Core.Path.{◌≡◌, refl, sym, ap, ◌∙◌}
use mathlib.Core.Bool.{false}
use mathlib.Core.List.{List, [], ◌∷◌}
use mathlib.Core.Logic.{◌⊎◌, inl, inr, ⊎_elim}
use Prim.Native.Nat.{ℕ, zero, suc, ◌+◌, ◌≤◌, ◌<◌}
use native.Mathlib.Omega.{arith}
use native.Mathlib.Decide.{ℕ_discrete, dec_lt}
use lib.Dec.{leb}
use lib.ListN.{length}
use Rattle.rules.specs.Words.{lowest}
use Rattle.rules.specs.Claim.{Holds}
use Rattle.rules.specs.Layout.{max_serial, Kind, process, segment, file, cells, slots, configuration, cell_slots, first_slot, cell_of, Addr, at, rd, live, serial, owner, group, bits}
use Rattle.rules.specs.Errors.{XOK}
use Rattle.rules.specs.Rule.{Word}
use Rattle.rules.specs.Find.{can_take, free_slot, no_slot}
use Rattle.rules.specs.SetUp.{can_set_up, first_processes, set_up_table}
use Rattle.rules.specs.Step.{State, Call, step, next, run}
use Rattle.laws.proofs.Written.{AllOf, nil, also, all_map, all_append, over-either}
use Rattle.laws.proofs.Least.{least-room}
use Rattle.laws.proofs.Shape.{Shape, in-run, good_of, words-some}
use Rattle.laws.proofs.Slots.{InRun, Untaken, FreeSlot, free-slot, slot-smallest}
use Rattle.kept.proofs.Made.{object-words}
use Rattle.kept.proofs.Kept.{Well, kept, conf-kept, serials-kept}
use Rattle.promises.proofs.Refusals.{own-clear, refused}
use Rattle.promises.proofs.After.{its-caller, read-after}
use Rattle.promises.proofs.Writes.{EntryWord, Wrote, made, filled, emptied, paged, counted, freed-word, cleared, linked, sized, set-bits, posted, received, writes}
use Rattle.promises.proofs.Fresh.{blank, set-up-formed, set-up-configuration, set-up-reads}

-- ---- what the search finds

-- 01's rule: "Creation takes the lowest slot of the caller's cell that isn't live and has serial below 65535"
abbrev pub lowest_slot : List ℕ → (Addr → ℕ) → Kind → ℕ → ℕ
lowest_slot h r k c = lowest (can_take r k) (cell_slots h k c) (first_slot h k c)

-- "Refusals for want of a slot stay."
pub room-as-before : (h : List ℕ) (r : Addr → ℕ) (k : Kind) (c : ℕ) → no_slot h r k c ≡ leb (first_slot h k c + cell_slots h k c) (lowest_slot h r k c)
unfolding free_slot
room-as-before h r k c = least-room (can_take r k) (λ i. r (at k i serial)) (cell_slots h k c) (first_slot h k c)

-- the slot taken is of the cell, free and not worn out; no other such slot of the cell has a smaller serial, nor one before it the same
pub record Taken (h : List ℕ) (r : Addr → ℕ) (k : Kind) (c i : ℕ) : Type 0 where
  pub room : FreeSlot h r k c i
  pub smallest : (j : ℕ) → j < slots h k → cell_of h k j ≡ c → Untaken r k j → r (at k i serial) ≤ r (at k j serial)
  pub lowest-of-equals : (j : ℕ) → j < slots h k → cell_of h k j ≡ c → Untaken r k j → j < i → r (at k i serial) ≡ r (at k j serial) → ⊥

module _ (h : List ℕ) (sh : Shape h) (k : Kind) where
  in_cell : (c i : ℕ) → i < slots h k → cell_of h k i ≡ c → InRun h k c i
  in_cell c i l e = let x = in-run h sh k i l in let y : InRun h k (cell_of h k i) i = record { low = x.1; high = x.2 } in rw e at y

  pub taken : (r : Addr → ℕ) (c : ℕ) → c < cells h → no_slot h r k c ≡ false → Taken h r k c (free_slot h r k c)
  taken r c l n = record {
    room = free-slot h r sh c l k n;
    smallest = λ j jl e u. (slot-smallest h r k c n j (in_cell c j jl e) u).0;
    lowest-of-equals = λ j jl e u less same. omega (arith, (slot-smallest h r k c n j (in_cell c j jl e) u).1 less);
  }

-- ---- a slot's serial after a call: as it was, or one more, where the search found it

module _ (h : List ℕ) (r : Addr → ℕ) (k : Call) (j : Kind) (i : ℕ) where
  -- the slot is taken
  pub record Picked : Type 0 where
    pub cell : ℕ
    pub in_cells : cell < cells h
    pub room : no_slot h r j cell ≡ false
    pub found : free_slot h r j cell ≡ i

  abbrev Counts : ℕ → Type 0
  Counts v = (v ≡ r (at j i serial)) ⊎ ((v ≡ r (at j i serial) + 1) × Picked)

  abbrev here : Addr
  here = at j i serial

  word-of : (x : Word) → here ≡ x.at → serial ≡ x.at.word
  word-of x e = ap (λ (b : Addr). b.word) e

  entry_past : (l : Kind) (n : ℕ) → EntryWord l n → serial ≡ n → ⊥
  entry_past process n w e = w
  entry_past segment n w e = omega arith
  entry_past file n w e = omega arith

  bits-past : (l : Kind) → serial ≡ bits l → ⊥
  bits-past process e = omega arith
  bits-past segment e = omega arith
  bits-past file e = omega arith

  counts : (x : Word) → Wrote h r k x → here ≡ x.at → Counts x.value
  counts x (made {j = l} {c = c} m in_cells room low one_more) e =
      let kind : j ≡ l = ap (λ (b : Addr). b.kind) e in
      let slot : i ≡ free_slot h r l c = ap (λ (b : Addr). b.slot) e in
      inr (
        one_more (sym (word-of x e)) ∙ ap (λ (b : Addr). r b + 1) (at_same kind slot),
        record { cell = c; in_cells = in_cells; room = rw kind room; found = rw kind (sym slot) },
      )
    where
      at_same : {l : Kind} {m : ℕ} → j ≡ l → i ≡ m → at l m serial ≡ at j i serial
      at_same a b = rw (a, b) refl
  counts x (filled l {n} f w) e = absurd (entry_past l n w (word-of x e))
  counts x (emptied l {q} {n} a w) e = absurd (entry_past l n w (word-of x e))
  counts x (paged a l) e = absurd (omega (arith, word-of x e))
  counts x (counted {j = l} o) e = absurd (omega (arith, word-of x e, (object-words l o).holders-at))
  counts x (freed-word l o f n) e = absurd (n (sym (word-of x e)))
  counts x (cleared c n) e = absurd (n (sym (word-of x e)))
  counts x linked e = absurd (omega (arith, word-of x e))
  counts x sized e = absurd (omega (arith, word-of x e))
  counts x (set-bits {j = l} c f) e = absurd (bits-past l (word-of x e))
  counts x (posted {n} c m) e = absurd (let y = word-of x e in omega (arith, m (λ z. omega arith)))
  counts x (received {n} c m) e = absurd (let y = word-of x e in omega (arith, m (λ z. omega arith)))

-- ---- one call, and a run

-- "A slot's serial counts its uses."
abbrev pub uses : State → Kind → ℕ → ℕ
uses s j i = rd (configuration s.table) s.table (at j i serial)

abbrev pub lives : State → Kind → ℕ → ℕ
lives s j i = rd (configuration s.table) s.table (at j i live)

-- a call takes slot i: it is used once more
abbrev pub Takes : State → Call → Kind → ℕ → Type 0
Takes s k j i = uses (next s k) j i ≡ uses s j i → ⊥

-- two slots of one cell
pub record Neighbours (h : List ℕ) (j : Kind) (a b : ℕ) : Type 0 where
  pub first-in : a < slots h j
  pub second-in : b < slots h j
  pub one_cell : cell_of h j a ≡ cell_of h j b

module _ (s : State) (k : Call) (w : Well s) (j : Kind) where
  abbrev h : List ℕ
  h = configuration s.table

  abbrev r : Addr → ℕ
  r = rd h s.table

  sh : Shape h
  sh = (good_of s.table (length s.store) w).shape

  counted-after : (i : ℕ) → i < slots h j → (step s k).answered.error ≡ XOK → Counts h r k j i (uses (next s k) j i)
  counted-after i l ok =
      rw (conf-kept s k w, read-after s k w ok (at j i serial) (l, omega (arith, words-some j)))
      (over-either (at j i serial) (Counts h r k j i) (all_map (counts h r k j i) (writes h r s.store k (its-caller s k w ok) (own-clear s k ok))) r (inl refl))

  -- no call takes a slot while another of its cell that is free has been used less
  pub one-call : (a b : ℕ) → Neighbours h j a b → uses s j a ≤ uses s j b + 1 → (Takes s k j a → lives s j b ≡ 0) → uses (next s k) j a ≤ uses (next s k) j b + 1
  one-call a b n even free = elim (ℕ_discrete (step s k).answered.error XOK) [
    | no m ↦ rw (refused s k m).state even
    | yes ok ↦
        let grown : uses s j b ≤ uses (next s k) j b = rw (conf-kept s k w) (serials-kept s k w j b n.second-in) in
        ⊎_elim
        (λ same. omega arith)
        (λ more. let least = picked a b n more.1 (free (λ e. omega (arith, more.0))) in omega (arith, more.0))
        (counted-after a n.first-in ok)
  ]
    where
      picked : (a b : ℕ) → Neighbours h j a b → Picked h r k j a → lives s j b ≡ 0 → uses s j a ≤ uses s j b
      picked a b n p unused =
          let at_a = free-slot h r sh p.cell p.in_cells j p.room in
          let b-cell : cell_of h j b ≡ p.cell = sym n.one_cell ∙ (rw p.found at at_a.in_cell) in
          elim (dec_lt (uses s j b) max_serial) [
            | yes l ↦ rw p.found at (slot-smallest h r j p.cell p.room b (in_cell h sh j p.cell b n.second-in b-cell)
                (record { is_free = unused; not-worn = l })).0
            | no m ↦ let worn = rw p.found at at_a.not-worn in omega arith
          ]

-- at every call of a run that takes slot a, slot b is free
abbrev pub FreeWhen : Kind → ℕ → ℕ → State → List Call → Type 0
FreeWhen j a b s [] = Unit {0}
FreeWhen j a b s (k ∷ ks) = (Takes s k j a → lives s j b ≡ 0) × FreeWhen j a b (next s k) ks

pub even : (s : State) (ks : List Call) → Well s → (j : Kind) (a b : ℕ) → Neighbours (configuration s.table) j a b → uses s j a ≤ uses s j b + 1 → FreeWhen j a b s ks
    → uses (run s ks) j a ≤ uses (run s ks) j b + 1
unfolding run
even s [] w j a b n e f = e
even s (k ∷ ks) w j a b n e f = even (next s k) ks (kept s k w) j a b (rw (conf-kept s k w) n) (one-call s k w j a b n e f.0) f.1

-- ---- from set-up on

-- set-up uses a slot once at most
once-at-most : (h : List ℕ) (j : Kind) (i n : ℕ) → AllOf (λ x. at j i serial ≡ x.at → x.value ≤ 1) (first_processes h n)
unfolding first_processes
once-at-most h j i zero = nil
once-at-most h j i (suc n) = all_append _ (once-at-most h j i n)
    (also (λ e. omega arith) (also (λ e. omega arith) (also (λ e. absurd (past owner e (λ x. omega arith)))
    (also (λ e. absurd (past group e (λ x. omega arith))) (also (λ e. absurd (past (bits process) e (λ x. omega arith))) nil)))))
  where
    past : {l : Kind} {m : ℕ} (w : ℕ) → at j i serial ≡ at l m w → (serial ≡ w → ⊥) → ⊥
    past w e d = d (ap (λ (b : Addr). b.word) e)

module _ (t store : List ℕ) (c : Holds (can_set_up t (length store))) where
  abbrev start : State
  start = record { table = set_up_table t (length store); store = store }

  few-uses : (j : Kind) (i : ℕ) → i < slots (configuration t) j → uses start j i ≤ 1
  few-uses j i l =
      let h = configuration t in
      rw (set-up-configuration t (length store) c, set-up-reads t (length store) c (at j i serial) (l, omega (arith, words-some j)))
      (over-either (at j i serial) (λ v. v ≤ 1) (once-at-most h j i (cells h)) blank (omega arith))

  -- in any run: a slot is at most one use ahead of every neighbour that is free whenever the slot is taken
  pub evenly : (ks : List Call) (j : Kind) (a b : ℕ) → Neighbours (configuration t) j a b → FreeWhen j a b start ks → uses (run start ks) j a ≤ uses (run start ks) j b + 1
  evenly ks j a b n f =
      even start ks (set-up-formed t (length store) c) j a b (rw (set-up-configuration t (length store) c) n) (omega (arith, few-uses j a n.first-in)) f

  -- "in a cell whose slots of a kind are all free between uses": serials never differ by more than one
  pub all-evenly : (ks : List Call) (j : Kind) (a b : ℕ) → Neighbours (configuration t) j a b → FreeWhen j a b start ks → FreeWhen j b a start ks
      → (uses (run start ks) j a ≤ uses (run start ks) j b + 1) × (uses (run start ks) j b ≤ uses (run start ks) j a + 1)
  all-evenly ks j a b n f g =
      (evenly ks j a b n f, evenly ks j b a (record { first-in = n.second-in; second-in = n.first-in; one_cell = sym n.one_cell }) g)
