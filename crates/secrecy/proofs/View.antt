-- What the calls share: the words that a caller may write, and the words that two readings alike for its cell have in common.
use mathlib.Core.Path.{◌≡◌, refl, sym}
use mathlib.Core.Bool.{Bool, true, false, ◌&&◌, ◌||◌, not}
use mathlib.Core.List.{List}
use Prim.Native.Nat.{ℕ, ◌+◌, ◌*◌, ◌-◌, ◌<◌}
use native.Mathlib.Omega.{arith}
use lib.Dec.{ltb, leb, eqb}
use lib.ListN.{get_or}
use borrow.Author.Tests.{ltb-true, ltb-false, leb-false, eqb-true, lt-ltb, lt-leb}
use Rattle.rules.specs.Claim.{Holds}
use Rattle.rules.specs.Layout.{Kind, process, segment, file, record_words, slots, cells, cell_of, flows, Addr, at, Valid, live, serial, owner, group, entries, held_at, used_at, bits, stretch}
use Rattle.rules.specs.Seid.{class, index_of, formed, seid_at, or_self, present}
use Rattle.rules.specs.WellFormed.{records_ok}
use Rattle.rules.specs.Observer.{Closed}
use Rattle.rules.specs.Find.{stale, free_slot, no_slot, free_entry, rights_at}
use Rattle.rules.specs.Subtype.{held_by, modes_by, no_subtype}
use Rattle.laws.proofs.Tests.{tests, and_left, or_left, or_right, passed, split}
use Rattle.laws.proofs.Search.{lowest-same}
use Rattle.laws.proofs.Object.{Object}
use Rattle.laws.proofs.Seids.{is-formed}
use Rattle.laws.proofs.Shape.{Shape, in-run, Entry, formed-object, descriptor, designator}
use Rattle.laws.proofs.Slots.{InRun, run-slot, run-cell, free-slot, same-slot}
use Rattle.secrecy.proofs.CellFlow.{flows-refl}
use Rattle.secrecy.proofs.Shown.{Up}

-- ---- places in a record. (A test such as `ltb j 8` computes at a numeral, so that `search` closes it by refl.)

-- every record has the first eight words
pub common : (k : Kind) (j : ℕ) → ltb j 8 ≡ true → ltb j (record_words k) ≡ true
common process j l = lt-ltb j (record_words process) (omega (arith, tests))
common segment j l = l
common file j l = lt-ltb j (record_words file) (omega (arith, tests))

bits-common : (k : Kind) → ltb (bits k) (record_words k) ≡ true
bits-common process = refl
bits-common segment = refl
bits-common file = refl

held_fits : (k : Kind) (d : ℕ) → Object k → leb entries d ≡ false → held_at k d < record_words process
held_fits process d e l = absurd e
held_fits segment d e l = omega (arith, tests)
held_fits file d e l = omega (arith, tests)

used-fits : (k : Kind) (d : ℕ) → Object k → leb entries d ≡ false → used_at k d < record_words process
used-fits process d e l = absurd e
used-fits segment d e l = omega (arith, tests)
used-fits file d e l = omega (arith, tests)

-- ---- what a refusal that was passed says

pub formed-in : (h : List ℕ) (k : Kind) (s : ℕ) → not (formed h k s) ≡ false → index_of s < slots h k
formed-in h k s e = (is-formed (class k) (slots h k) s (passed (formed h k s) e)).index_in

-- what isn't stale is an object's
pub unstale : (h : List ℕ) (r : Addr → ℕ) (k : Kind) (s : ℕ) → stale h r k s ≡ false → formed h k s ≡ true
unstale h r k s e = and_left (formed h k s) (present r k s) (passed (formed h k s && present r k s) e)

pub allowed : (a b : Bool) → not a || b ≡ false → a ≡ true
allowed a b e = passed a (or_left (not a) b e)

pub same-cell : (c d : ℕ) → not (eqb c d) ≡ false → c ≡ d
same-cell c d e = eqb-true c d (passed (eqb c d) e)

-- a descriptor that names a subtype is one of the record's
pub names-within : (r : Addr → ℕ) (p c : ℕ) → no_subtype r p c ≡ false → ltb entries c ≡ false
unfolding no_subtype
names-within r p c e = or_left (ltb entries c) _ (or_right (eqb c 0) _ e)

-- ---- a caller, and two readings of the table

-- an object that a process of cell c holds: its slot is there, and its cell flows to c
pub record Reached (h : List ℕ) (k : Kind) (c i : ℕ) : Type 0 where
  pub there : i < slots h k
  pub flow : flows h (cell_of h k i) c ≡ true

-- every process reaches the objects that it holds
abbrev pub Reaching : List ℕ → (Addr → ℕ) → Type 0
Reaching h r = (p : ℕ) (k : Kind) (d : ℕ) → p < slots h process → Object k → leb entries d ≡ false → formed h k (r (at process p (held_at k d))) ≡ true
    → Reached h k (cell_of h process p) (index_of (r (at process p (held_at k d))))

-- process p has a slot
pub record Here (h : List ℕ) (p : ℕ) (r : Addr → ℕ) : Type 0 where
  pub shape : Shape h
  pub there : p < slots h process
  pub reaching : Reaching h r

-- two readings of the table, alike for a set that holds its cell
pub record View (h : List ℕ) (p : ℕ) (C : ℕ → Bool) (r q : Addr → ℕ) : Type 0 where
  pub here : Here h p r
  pub closed : Closed h C
  pub within : C (cell_of h process p) ≡ true
  pub seen : (a : Addr) → Valid h a → C (cell_of h a.kind a.slot) ≡ true → r a ≡ q a

-- two stores that agree at the stretches of the set's files
abbrev pub Stretches : List ℕ → (ℕ → Bool) → List ℕ → List ℕ → Type 0
Stretches h C s t = (f i : ℕ) → f < slots h file → i < stretch h → C (cell_of h file f) ≡ true → get_or s (f * stretch h + i) 0 ≡ get_or t (f * stretch h + i) 0

-- so it is in a well-formed table
module _ (h : List ℕ) (r : Addr → ℕ) (w : Holds (records_ok h r)) where
  pub entry_at : (p : ℕ) (k : Kind) (d : ℕ) → p < slots h process → Object k → leb entries d ≡ false
      → Entry h r k (cell_of h process p) (r (at process p (held_at k d))) (r (at process p (used_at k d)))
  entry_at p process d pp e l = absurd e
  entry_at p segment d pp e l = designator h r w p d pp (leb-false entries d l)
  entry_at p file d pp e l = descriptor h r w p d pp (leb-false entries d l)

  pub is-reaching : Reaching h r
  is-reaching p k d pp e l n =
      let x = (entry_at p k d pp e l).held (formed-object h k (r (at process p (held_at k d))) n) in
      record { there = (is-formed (class k) (slots h k) (r (at process p (held_at k d))) x.form).index_in; flow = x.flow }

-- two readings alike for a set that holds the cell c have the same free slot there
pub seen-slot : (h : List ℕ) → Shape h → (C : ℕ → Bool) (r q : Addr → ℕ) → ((a : Addr) → Valid h a → C (cell_of h a.kind a.slot) ≡ true → r a ≡ q a)
    → (c : ℕ) → c < cells h → C c ≡ true → (k : Kind) → free_slot h q k c ≡ free_slot h r k c
seen-slot h sh C r q seen c l m k = same-slot h r q k c (λ i x.
    let there = run-slot h sh k c i l x in
    let within : C (cell_of h k i) ≡ true = rw (run-cell h sh k c i l x) m in
    let same : (j : ℕ) → ltb j 8 ≡ true → q (at k i j) ≡ r (at k i j) = λ j o. sym (seen (at k i j) (there, ltb-true j (record_words k) (common k j o)) within) in
    (same live refl, same serial refl))

module _ {h : List ℕ} {p : ℕ} {r : Addr → ℕ} (v : Here h p r) where
  own-cell : cell_of h process p < cells h
  own-cell = (in-run h v.shape process p v.there).0

  pub own-flow : flows h (cell_of h process p) (cell_of h process p) ≡ true
  own-flow = flows-refl h (cell_of h process p) own-cell

  pub own-flows : (c : ℕ) → c ≡ cell_of h process p → flows h c (cell_of h process p) ≡ true
  own-flows c e = rw e own-flow

  pub held_in : (k : Kind) (d : ℕ) → Object k → leb entries d ≡ false → stale h r k (r (at process p (held_at k d))) ≡ false
      → index_of (r (at process p (held_at k d))) < slots h k
  held_in k d e l n = (v.reaching p k d v.there e l (unstale h r k _ n)).there

  pub held-flows : (k : Kind) (d : ℕ) → Object k → leb entries d ≡ false → stale h r k (r (at process p (held_at k d))) ≡ false
      → flows h (cell_of h k (index_of (r (at process p (held_at k d))))) (cell_of h process p) ≡ true
  held-flows k d e l n = (v.reaching p k d v.there e l (unstale h r k _ n)).flow

  -- ---- the slots of the own cell, and the free one

  pub run_in : (k : Kind) (i : ℕ) → InRun h k (cell_of h process p) i → i < slots h k
  run_in k i = run-slot h v.shape k (cell_of h process p) i own-cell

  pub run-own : (k : Kind) (i : ℕ) → InRun h k (cell_of h process p) i → cell_of h k i ≡ cell_of h process p
  run-own k i = run-cell h v.shape k (cell_of h process p) i own-cell

  pub free_in : (k : Kind) → no_slot h r k (cell_of h process p) ≡ false → free_slot h r k (cell_of h process p) < slots h k
  free_in k e = (free-slot h r v.shape (cell_of h process p) own-cell k e).in-range

  pub free_own : (k : Kind) → no_slot h r k (cell_of h process p) ≡ false → cell_of h k (free_slot h r k (cell_of h process p)) ≡ cell_of h process p
  free_own k e = (free-slot h r v.shape (cell_of h process p) own-cell k e).in_cell

  -- ---- writes

  pub up-own : (k : Kind) (i j : ℕ) → i < slots h k → ltb j (record_words k) ≡ true → cell_of h k i ≡ cell_of h process p → Up h (cell_of h process p) (at k i j)
  up-own k i j l m e = record { valid = (l, ltb-true j (record_words k) m); up = rw e own-flow }

  pub up-me : (j : ℕ) → ltb j (record_words process) ≡ true → Up h (cell_of h process p) (at process p j)
  up-me j m = record { valid = (v.there, ltb-true j (record_words process) m); up = own-flow }

  pub up-held : (k : Kind) (d : ℕ) → Object k → leb entries d ≡ false → Up h (cell_of h process p) (at process p (held_at k d))
  up-held k d e l = record { valid = (v.there, held_fits k d e l); up = own-flow }

  pub up-used : (k : Kind) (d : ℕ) → Object k → leb entries d ≡ false → Up h (cell_of h process p) (at process p (used_at k d))
  up-used k d e l = record { valid = (v.there, used-fits k d e l); up = own-flow }

module _ {h : List ℕ} {p : ℕ} {C : ℕ → Bool} {r q : Addr → ℕ} (v : View h p C r q) where
  -- ---- reads of the own record

  pub same-me : (j : ℕ) → ltb j (record_words process) ≡ true → q (at process p j) ≡ r (at process p j)
  same-me j l = sym (v.seen (at process p j) (v.here.there, ltb-true j (record_words process) l) v.within)

  pub same-held : (k : Kind) (d : ℕ) → Object k → leb entries d ≡ false → q (at process p (held_at k d)) ≡ r (at process p (held_at k d))
  same-held k d e l = sym (v.seen (at process p (held_at k d)) (v.here.there, held_fits k d e l) v.within)

  pub same-used : (k : Kind) (d : ℕ) → Object k → leb entries d ≡ false → q (at process p (used_at k d)) ≡ r (at process p (used_at k d))
  same-used k d e l = sym (v.seen (at process p (used_at k d)) (v.here.there, used-fits k d e l) v.within)

  pub same-seid : seid_at q process p ≡ seid_at r process p
  unfolding seid_at
  same-seid = rw (same-me serial refl)

  pub same_self : (a : ℕ) → or_self q p a ≡ or_self r p a
  unfolding or_self
  same_self a = rw same-seid

  -- ---- reads of a record of a cell that flows to the caller's

  pub same-below : (k : Kind) (i j : ℕ) → i < slots h k → ltb j (record_words k) ≡ true → flows h (cell_of h k i) (cell_of h process p) ≡ true
      → q (at k i j) ≡ r (at k i j)
  same-below k i j l m f = sym (v.seen (at k i j) (l, ltb-true j (record_words k) m) (v.closed (cell_of h k i) (cell_of h process p) f v.within))

  pub same-present : (k : Kind) (s : ℕ) → index_of s < slots h k → flows h (cell_of h k (index_of s)) (cell_of h process p) ≡ true
      → present q k s ≡ present r k s
  unfolding present
  same-present k s l f = rw (same-below k (index_of s) live l (common k live refl) f, same-below k (index_of s) serial l (common k serial refl) f)

  -- what is held: where it is no object's, no object is looked at
  pub same-stale : (k : Kind) (d : ℕ) → Object k → leb entries d ≡ false
      → stale h q k (r (at process p (held_at k d))) ≡ stale h r k (r (at process p (held_at k d)))
  same-stale k d e l =
      let s : ℕ = r (at process p (held_at k d)) in
      split _ (formed h k s)
      (λ f. let x = v.here.reaching p k d v.here.there e l f in rw (same-present k s x.there x.flow))
      (λ f. rw f)

  pub same-rights : (k : Kind) (i : ℕ) → i < slots h k → flows h (cell_of h k i) (cell_of h process p) ≡ true → rights_at q p k i ≡ rights_at r p k i
  unfolding rights_at
  same-rights k i l f =
      rw (
        same-me owner refl,
        same-me group refl,
        same-below k i owner l (common k owner refl) f,
        same-below k i group l (common k group refl) f,
        same-below k i (bits k) l (bits-common k) f,
      )

  -- ---- the descriptor that c names

  named-fits : (c : ℕ) → ltb entries c ≡ false → leb entries (c - 1) ≡ false
  named-fits c l = lt-leb entries (c - 1) (omega (arith, ltb-false entries c l))

  pub same_by : (c : ℕ) → ltb entries c ≡ false → held_by q p c ≡ held_by r p c
  same_by c l = same-held file (c - 1) tt (named-fits c l)

  pub same-modes : (c : ℕ) → ltb entries c ≡ false → modes_by q p c ≡ modes_by r p c
  same-modes c l = same-used file (c - 1) tt (named-fits c l)

  pub same-no-subtype : (c : ℕ) → no_subtype q p c ≡ no_subtype r p c
  unfolding no_subtype
  same-no-subtype c = split _ (ltb entries c) (λ t. rw t) (λ t. rw (same_by c t))

  -- ---- searches

  pub same-free-entry : (k : Kind) → Object k → free_entry q k p ≡ free_entry r k p
  unfolding free_entry
  same-free-entry k e = lowest-same _ _ entries 0 (λ d lo hi. rw (same-held k d e (lt-leb entries d hi)))

  pub same-free-slot : (k : Kind) → free_slot h q k (cell_of h process p) ≡ free_slot h r k (cell_of h process p)
  same-free-slot k = seen-slot h v.here.shape C r q v.seen (cell_of h process p) (own-cell v.here) v.within k
