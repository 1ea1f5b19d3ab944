-- What a word names, what the caller sees of it, and the refusals of "find" and "own" on that; the slot and the entry that a search finds.
use Rattle.std.specs.Prelude.{◌≡◌, Bool, true, false, cond, ◌&&◌, not, List, [], ◌∷◌, ◌++◌, Option, Some, None, ℕ, ◌+◌, ◌≤◌, eqb, length, get_or}
use Rattle.rules.specs.Layout.{max_cells, Kind, process, slots, cell_slots, first_slot, cell_of, flows, subtype_cell, subtype_owner, Addr, at, live, serial, owner, segment, file}
use Rattle.rules.specs.Seid.{class, class_of, index_of, serial_of, formed_subtype}
use Rattle.rules.specs.Errors.{XnoAcc, XnoOwner}
use Rattle.rules.specs.Rule.{Refusal, ◌⇒◌}
use Rattle.rules.specs.Find.{absent, rights_at, free_slot, no_slot, free_entry, no_entry}
use Rattle.rules.specs.Subtype.{held_by, modes_by, no_subtype}
use Rattle.rules.specs.Call08.{subtype_rights}
use Rattle.layout.specs.declared.Header.{Header}
use Rattle.layout.specs.Header.{slots_of}
use Rattle.ids.specs.Seid.{identifier}
use Rattle.calls.specs.declared.entries.Entry.{Entry}
use Rattle.calls.specs.declared.objects.Named.{Named}
use Rattle.calls.specs.declared.objects.Seen.{Seen}
use Rattle.calls.specs.declared.room.Run.{Run}

-- a word that has the form of an identifier of the kind names a slot and a serial; another names nothing
abbrev pub name_of : ℕ → Named
name_of s = record { slot = index_of s; serial = serial_of s }

unfoldable pub named_of : Header → Kind → ℕ → Option Named
named_of n k s = identifier k name_of (slots_of n k) s

-- the kind that a seid's class names, where several are taken; a class not taken is no file's, and is refused as one
abbrev pub kind_by : ℕ → Kind
kind_by s = cond (eqb (class_of s) (class process)) process (cond (eqb (class_of s) (class segment)) segment file)

-- a matrix of at most sixteen rows of sixteen entries: what one that is lent must be known to be
pub record Sixteen (m : List (List Bool)) : Type 0 where
  pub rows : length m ≤ max_cells
  pub row : (c : ℕ) → length (get_or m c []) ≤ max_cells

-- what process p sees of it
abbrev pub seen_as : List ℕ → (Addr → ℕ) → ℕ → Kind → Named → Seen
seen_as h r p k x =
    record {
      formed = true;
      slot = x.slot;
      cell = cell_of h k x.slot;
      own = eqb (cell_of h k x.slot) (cell_of h process p);
      flows = flows h (cell_of h k x.slot) (cell_of h process p);
      present = eqb (r (at k x.slot live)) 1 && eqb (r (at k x.slot serial)) x.serial;
      mine = eqb (r (at k x.slot owner)) (r (at process p owner));
      rights = rights_at r p k x.slot;
    }

-- of what names nothing it sees nothing
abbrev pub unseen : Seen
unseen = record { formed = false; slot = 0; cell = 0; own = false; flows = false; present = false; mine = false; rights = 0 }

abbrev pub seen_of : List ℕ → (Addr → ℕ) → ℕ → Kind → Option Named → Seen
seen_of h r p k None = unseen
seen_of h r p k (Some x) = seen_as h r p k x

-- "find" and "own" of what is seen
abbrev pub find_tests : Seen → Kind → Bool → List Refusal
find_tests x k forbidden = (not x.formed ⇒ absent k) ∷ (forbidden ⇒ XnoAcc) ∷ (not x.present ⇒ absent k) ∷ []

abbrev pub own_tests : Seen → Kind → List Refusal
own_tests x k = find_tests x k (not x.own) ++ (not x.mine ⇒ XnoOwner) ∷ []

-- the slots of a kind that cell c has, which the table has
pub record IsRun (h : List ℕ) (k : Kind) (c : ℕ) (r : Run) : Type 0 where
  pub from : r.from ≡ first_slot h k c
  pub count : r.count ≡ cell_slots h k c
  pub within : r.from + r.count ≤ slots h k

-- the slot that the search in a cell's run finds, if any
abbrev pub slot_found : List ℕ → (Addr → ℕ) → Kind → ℕ → Option ℕ
slot_found h r k c = cond (no_slot h r k c) None (Some (free_slot h r k c))

-- the entry of process p that the search for an empty one finds, if any
abbrev pub entry_found : (Addr → ℕ) → Kind → ℕ → Option ℕ
entry_found r k p = cond (no_entry r k p) None (Some (free_entry r k p))

-- 02, CR 11: what process p sees of the subtype that s names
abbrev pub subtype_as : List ℕ → (Addr → ℕ) → ℕ → ℕ → Seen
subtype_as h r p s =
    record {
      formed = true;
      slot = index_of s;
      cell = subtype_cell h (index_of s);
      own = eqb (subtype_cell h (index_of s)) (cell_of h process p);
      flows = flows h (subtype_cell h (index_of s)) (cell_of h process p);
      present = eqb (serial_of s) 1;
      mine = eqb (subtype_owner h (index_of s)) (r (at process p owner));
      rights = subtype_rights h r p (index_of s);
    }

abbrev pub seen_subtype : List ℕ → (Addr → ℕ) → ℕ → ℕ → Seen
seen_subtype h r p s = cond (formed_subtype h s) (subtype_as h r p s) unseen

-- the descriptor that c names, where it holds a subtype
unfoldable pub capability_of : (Addr → ℕ) → ℕ → ℕ → Option Entry
capability_of r p c = cond (no_subtype r p c) None (Some (record { held = held_by r p c; used = modes_by r p c }))
