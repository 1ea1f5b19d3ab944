-- What the shared refusals leave: an object found, a free slot, a free entry; and the caller, found by its own seid.
use mathlib.Core.Path.{◌≡◌, sym}
use mathlib.Core.Bool.{Bool, true, false, ◌&&◌, not, true≢false}
use mathlib.Core.List.{List}
use Prim.Native.Nat.{ℕ, ◌≤◌, ◌<◌}
use native.Mathlib.Omega.{arith}
use lib.Dec.{eqb}
use borrow.Author.Tests.{eqb-true, leb-false}
use Rattle.rules.specs.Words.{lowest}
use Rattle.rules.specs.Layout.{Kind, process, slots, cell_of, Addr, at, serial, entries, held_at}
use Rattle.rules.specs.Seid.{class, formed, is_seid, index_of, seid_at, present}
use Rattle.rules.specs.Find.{in_own_cell, stale, free_slot, no_slot, free_entry, no_entry}
use Rattle.laws.proofs.Tests.{and_left, and_right, passed}
use Rattle.laws.proofs.Search.{lowest-hit}
use Rattle.laws.proofs.Seids.{index-seid, serial-seid, Formed, is-formed, made-formed, Present, is-present}
use Rattle.laws.proofs.Shape.{in-run}
use Rattle.laws.proofs.Slots.{FreeSlot, free-slot}
use Rattle.kept.proofs.Keeps.{Caller}

-- a seid that names an object
pub record Found (h : List ℕ) (r : Addr → ℕ) (k : Kind) (s : ℕ) : Type 0 where
  pub form : is_seid (class k) (slots h k) s ≡ true
  pub parts : Formed (class k) (slots h k) s
  pub here : Present r k s

pub found : (h : List ℕ) (r : Addr → ℕ) (k : Kind) (s : ℕ) → not (formed h k s) ≡ false → not (present r k s) ≡ false → Found h r k s
found h r k s f p =
    let e = passed (formed h k s) f in
    record { form = e; parts = is-formed (class k) (slots h k) s e; here = is-present r k s (passed (present r k s) p) }

-- an entry's seid that isn't stale
pub found-held : (h : List ℕ) (r : Addr → ℕ) (k : Kind) (s : ℕ) → stale h r k s ≡ false → Found h r k s
found-held h r k s n =
    let e = passed (formed h k s && present r k s) n in
    let form = and_left (formed h k s) (present r k s) e in
    record { form = form; parts = is-formed (class k) (slots h k) s form; here = is-present r k s (and_right (formed h k s) (present r k s) e) }

-- a live process's own seid names it
module _ (h : List ℕ) (r : Addr → ℕ) (p : ℕ) (me : Caller h r p) where
  abbrev its-serial : ℕ
  its-serial = r (at process p serial)

  small : p < 256
  small = omega (arith, me.in-range, me.shape.few process)

  fits : its-serial < 65536
  fits = omega (arith, (me.fine.own process p me.in-range).serial-fits)

  pub own-index : index_of (seid_at r process p) ≡ p
  unfolding seid_at
  own-index = index-seid (class process) p its-serial small fits

  pub own-found : Found h r process (seid_at r process p)
  unfolding seid_at
  own-found =
      let some : 1 ≤ its-serial = (me.fine.own process p me.in-range).serial-some me.alive in
      let form = made-formed (class process) (slots h process) p its-serial me.in-range (omega (arith, me.shape.few process)) (omega arith) fits in
      record {
        form = form;
        parts = is-formed (class process) (slots h process) _ form;
        here = record { is_live = rw own-index me.alive; same-serial = rw own-index (sym (serial-seid (class process) p its-serial small fits)) };
      }

-- a free slot of the caller's cell
pub own-slot : (h : List ℕ) (r : Addr → ℕ) (p : ℕ) → Caller h r p → (k : Kind) → no_slot h r k (cell_of h process p) ≡ false
    → FreeSlot h r k (cell_of h process p) (free_slot h r k (cell_of h process p))
own-slot h r p me = free-slot h r me.shape (cell_of h process p) (in-run h me.shape process p me.in-range).0

-- entry d of process p is empty
pub record FreeEntry (r : Addr → ℕ) (k : Kind) (p d : ℕ) : Type 0 where
  pub in-record : d < entries
  pub is-empty : r (at process p (held_at k d)) ≡ 0

pub free-entry : (r : Addr → ℕ) (k : Kind) (p : ℕ) → no_entry r k p ≡ false → FreeEntry r k p (free_entry r k p)
unfolding free_entry
free-entry r k p n =
    let test : ℕ → Bool = λ d. eqb (r (at process p (held_at k d))) 0 in
    let l : lowest test entries 0 < entries = leb-false entries (lowest test entries 0) n in
    record { in-record = l; is-empty = eqb-true _ 0 (lowest-hit test entries 0 (omega arith)) }

-- what is written is of the own cell
pub in-own : (h : List ℕ) (p : ℕ) (k : Kind) (s : ℕ) (write : Bool) → write && not (in_own_cell h p k s) ≡ false → write ≡ true
    → cell_of h k (index_of s) ≡ cell_of h process p
in-own h p k s true e t = eqb-true _ _ (passed (in_own_cell h p k s) e)
in-own h p k s false e t = absurd (true≢false (sym t))
