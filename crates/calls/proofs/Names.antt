-- What a word names, and what is seen of it, as the code finds it.
use mathlib.Core.Path.{◌≡◌, sym, ap, ◌∙◌}
use mathlib.Core.Bool.{Bool, true, false, cond, ◌&&◌}
use mathlib.Core.List.{List, []}
use Prim.Native.Nat.{ℕ, ◌+◌, ◌≤◌, ◌<◌, ◌^◌}
use native.Mathlib.Omega.{arith}
use lib.Dec.{eqb, ltb}
use lib.ListN.{length, get_or}
use borrow.Author.Tests.{ltb-true, ltb-false}
use Rattle.rules.specs.Layout.{max_serial, max_slots, max_cells, Kind, process, segment, file, record_words, slots, configuration, cell_of, flows, flow_matrix, Addr, at, live, serial, owner, group, bits}
use Rattle.rules.specs.Seid.{class, index_of, serial_of, is_seid, seid_at, or_self}
use Rattle.rules.specs.Rights.{rights}
use Rattle.rules.specs.Find.{rights_at}
use Rattle.rules.specs.Words.{tab_from}
use Rattle.laws.proofs.Tests.{split}
use Rattle.laws.proofs.Tab.{length-tab}
use Rattle.laws.proofs.Fill.{tab-at, tab-past}
use Rattle.laws.proofs.Shape.{process-record}
use Rattle.laws.proofs.Places.{offset-lt}
use Rattle.laws.proofs.Seids.{is-formed}
use Rattle.levels.proofs.Cells.{matrix-any}
use Rattle.layout.specs.declared.Header.{Header}
use Rattle.layout.specs.Header.{slots_of, record_of}
use Rattle.layout.specs.Hall.{cells_at, hall_of}
use Rattle.layout.proofs.Hall.{cell-told}
use Rattle.std.specs.Prelude.{Option, Some, None}
use Rattle.std.proofs.lemmas.Option.{cond_some}
use Rattle.ids.specs.Seid.{identifier, seid_of}
use Rattle.ids.proofs.Parts.{seid-fits}
use Rattle.calls.specs.declared.Caller.{Caller}
use Rattle.calls.specs.declared.objects.Named.{Named}
use Rattle.calls.specs.declared.objects.Seen.{Seen}
use Rattle.calls.specs.World.{Known, Sound, words_of}
use Rattle.calls.specs.Seen.{name_of, named_of, Sixteen, unseen, seen_of}
use Rattle.calls.proofs.Worlds.{spot, shape, slots-is}

-- what an identifier of a kind says of its word: `of` makes one of a word, and `word_of` gives the word back
module _ {I : Type 0} (k : Kind) (of : ℕ → I) (word_of : I → ℕ) (back : (w : ℕ) → word_of (of w) ≡ w) (size s : ℕ) where
  -- x is the identifier that the word is, i and z its parts
  pub named : {x : I} {i z : ℕ} → identifier k of size s ≡ Some x → i ≡ index_of (word_of x) → z ≡ serial_of (word_of x)
      → ◌≡◌ {A = Option Named} (Some (record { slot = i; serial = z })) (identifier k name_of size s)
  named {x} e ie ze =
      let r = cond_some (is_seid (class k) size s) (of s) x e in
      let w : word_of x ≡ s = ap word_of (sym r.1) ∙ back s in
      rw (r.0, ie, ze, w)

-- the matrix has sixteen rows, and past them a row of none
pub sixteen : (h : List ℕ) {m : List (List Bool)} → m ≡ flow_matrix h → Sixteen m
unfolding flow_matrix
sixteen h {m} e = record { rows = omega (arith, ap length e ∙ length-tab 0 max_cells rows); row = one }
  where
    rows : ℕ → List Bool
    rows c = tab_from 0 max_cells (λ d. flows h c d)

    one : (c : ℕ) → length (get_or m c []) ≤ max_cells
    one c =
        let here : get_or m c [] ≡ get_or (tab_from 0 max_cells rows) c [] = ap (λ (x : List (List Bool)). get_or x c []) e in
        split (length (get_or m c []) ≤ max_cells) (ltb c max_cells)
        (λ l. omega (arith, ap length (here ∙ tab-at max_cells rows c [] (ltb-true c max_cells l)) ∙ length-tab 0 max_cells (flows h c)))
        (λ l. omega (arith, ap length (here ∙ tab-past max_cells rows c [] (ltb-false c max_cells l))))

-- the cell that the check handed on for a slot
module _ {t : List ℕ} {n : Header} (known : Known t n) (k : Kind) (i : ℕ) where
  pub slot-few : i < slots (configuration t) k → i < max_slots
  slot-few l = omega (arith, l, (shape known).few k)

  pub cell-is : {hall : List ℕ} → hall ≡ hall_of (configuration t) → i < slots (configuration t) k → {x : ℕ} → x ≡ get_or hall (cells_at k + i) 0 → x ≡ cell_of (configuration t) k i
  cell-is told l e = e ∙ ap (λ (b : List ℕ). get_or b (cells_at k + i) 0) told ∙ cell-told (configuration t) k i ((shape known).few k) l

-- the calling process for seid 0
pub self-told : {t : List ℕ} {n : Header} {c : Caller} → Sound t n c → (a : ℕ) {s x r : ℕ} → s ≡ words_of t (at process c.slot serial)
    → x ≡ seid_of (class process) c.slot s → r ≡ cond (eqb a 0) x a → r ≡ or_self (words_of t) c.slot a
unfolding or_self seid_at
self-told {t} {n} {c} sound a {s} se xe re =
    let p = process-record (configuration t) (words_of t) sound.records c.slot sound.caller in
    let l : s ≤ max_serial = omega (arith, p.serial-fits) in
    let q : c.slot < 256 = omega (arith, (shape sound.known).few process, sound.caller) in
    rw (re, xe, seid-fits (class process) c.slot s (omega arith) q l, se)

pub bits_small : (k : Kind) {b : ℕ} → b ≡ bits k → b < 2 ^ 40
bits_small process e = omega arith
bits_small segment e = omega arith
bits_small file e = omega arith

-- ---- the words of a record that the table has

pub record-there : {t : List ℕ} {n : Header} {c : Caller} → Sound t n c → (k : Kind) (i j : ℕ) → i < slots (configuration t) k → j < record_words k
    → {y : ℕ} → y ≡ record_of n k i → y + j < length t
record-there {t} sound k i j l m ye = omega (arith, ye, spot sound.known (at k i j), offset-lt (configuration t) (at k i j) (l, m), sound.words)

pub bits_in : (k : Kind) → bits k < record_words k
bits_in process = omega arith
bits_in segment = omega arith
bits_in file = omega arith

-- what a word names is one of the table's slots
pub named_in : {t : List ℕ} {n : Header} → Known t n → (k : Kind) (s : ℕ) {x : Named} → named_of n k s ≡ Some x → x.slot < slots (configuration t) k
unfolding named_of
named_in {t} {n} known k s {x} e =
    let r = cond_some (is_seid (class k) (slots_of n k) s) (name_of s) x e in
    omega (arith, ap (λ (y : Named). y.slot) r.1, (is-formed (class k) (slots_of n k) s r.0).index_in, slots-is known k)

-- ---- what is seen: nothing, where the word names nothing

pub not_seen : (h : List ℕ) (r : Addr → ℕ) (n : Header) (p : ℕ) (k : Kind) (s : ℕ) {x : Seen} → named_of n k s ≡ None → x ≡ unseen
    → x ≡ seen_of h r p k (named_of n k s)
not_seen h r n p k s e xe = rw (e, xe)

-- and else field by field

module _ {t : List ℕ} {n : Header} {c : Caller} (sound : Sound t n c) {m : List (List Bool)} (matrix : m ≡ flow_matrix (configuration t)) (k : Kind)
    (s : ℕ) {name : Named} {cell live-word serial-word owner-word group-word bits_at bits-word mine my-group x : ℕ} {f : Bool} (name-is : named_of n k s ≡ Some name)
    (cell-is : cell ≡ cell_of (configuration t) k name.slot) (live-is : live-word ≡ words_of t (at k name.slot live))
    (serial-is : serial-word ≡ words_of t (at k name.slot serial))
    (owner-is : owner-word ≡ words_of t (at k name.slot owner)) (group-is : group-word ≡ words_of t (at k name.slot group)) (bits-at-is : bits_at ≡ bits k)
    (bits_is : bits-word ≡ words_of t (at k name.slot bits_at)) (mine-is : mine ≡ words_of t (at process c.slot owner))
    (my-group-is : my-group ≡ words_of t (at process c.slot group))
    (flow-is : f ≡ get_or (get_or m cell []) c.cell false) (rights-is : x ≡ rights mine my-group owner-word group-word bits-word) where
  pub seen : ◌≡◌ {A = Seen} (record {
    formed = true;
    slot = name.slot;
    cell = cell;
    own = eqb cell c.cell;
    flows = f;
    present = eqb live-word 1 && eqb serial-word name.serial;
    mine = eqb owner-word mine;
    rights = x;
  }) (seen_of (configuration t) (words_of t) c.slot k (named_of n k s))
  unfolding rights_at
  seen =
      rw (name-is, rights-is, flow-is, bits_is, bits-at-is, live-is, serial-is, owner-is, group-is, mine-is, my-group-is, matrix, cell-is, sound.home)
      (rw (matrix-any (configuration t) (shape sound.known).few-cells _ _))
