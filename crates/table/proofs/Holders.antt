-- What a process holds, as the code reads it: a record's words, a slot's cell, the flow matrix, an identifier's index.
use Rattle.std.proofs.Common.{◌≡◌, ℕ, ◌+◌, ◌-◌, ◌*◌, ◌/◌, ◌%◌, ◌<◌, ◌≤◌, Bool, true, false, cond, not, ◌&&◌, ◌||◌, eqb, ltb, leb, List, length, get_or, set, sym, refl, ap, ◌∙◌, true≢false, arith, ltb-false, ltb-true, lt-ltb, eq-eqb, ne_eqb, eqb-true}
use mathlib.Core.Path.{fun_ext}
use mathlib.Core.Bool.{and-true, and-false}
use borrow.Author.Tests.{eqb-false}
use Rattle.rules.specs.Claim.{test}
use Rattle.rules.specs.Layout.{max_cells, max_slots, Kind, process, segment, file, slots, cell_of, flows, flow_matrix, configuration, Addr, at, live, serial}
use Rattle.rules.specs.Seid.{class, class_of, index_of, serial_of, is_seid, subtype_class}
use Rattle.rules.specs.WellFormed.{held_ok, current_ok, valid_use, write_use, object_entry_ok, subtype_entry_ok, holds_subtype, entry_ok}
use Rattle.laws.proofs.Below.{one-le}
use Rattle.laws.proofs.Tests.{and_left, and_right, and_both, refuted, both_ways, split}
use Rattle.laws.proofs.Seids.{is-formed, class-some, class-pos}
use Rattle.laws.proofs.Shape.{subtype-some}
use Rattle.laws.proofs.Tab.{get_or-tab2}
use Rattle.laws.proofs.Cells.{cell-bounds}
use Rattle.layout.specs.declared.Header.{Header}
use Rattle.table.specs.declared.frame.Frame.{Frame}
use Rattle.table.specs.Shape.{Shaped}
use Rattle.table.specs.Frame.{words, RecordAt}
use Rattle.table.specs.Entries.{Indexed, held_word, used_word, unused, holds_own, names, Counts}
use Rattle.table.proofs.Config.{cells-read}
use Rattle.table.proofs.Tally.{tally-add}

-- all words of a record
pub record-words : (f : Frame) (k : Kind) (i place : ℕ) → RecordAt f k i place → ◌≡◌ {A = ℕ → ℕ} (λ j. get_or f.t.now (place + j) 0) (λ j. words f (at k i j))
record-words f k i place r = fun_ext r.word

-- a slot's cell is a cell
pub cell-few : (t : List ℕ) (n : Header) (shaped : Shaped t n) (k : Kind) (i : ℕ) → i < slots (configuration t) k → cell_of (configuration t) k i < max_cells
cell-few t n shaped k i lt =
    omega (arith, (cell-bounds (configuration t) k i (rw (shaped.sums k) lt)).0, cells-read t n shaped.framed.header, shaped.framed.small.few-cells)

-- an entry of the flow matrix
pub flow-at : (h : List ℕ) (flow : List (List Bool)) → flow ≡ flow_matrix h → (a b : ℕ) (d : List Bool) → a < max_cells → b < max_cells
    → get_or (get_or flow a d) b false ≡ flows h a b
unfolding flow_matrix
flow-at h flow e a b d l m = rw e (get_or-tab2 max_cells max_cells (flows h) a b d false l m)

-- ---- an identifier's index, by one subtraction

pub indexed : (c s x r : ℕ) → c < 256 → s < 4294967296 → x ≡ c → r ≡ (s / 65536 + (4294967296 - x * 256)) % 4294967296 → Indexed c s r
unfolding class_of index_of
indexed c s x r hc hs ex e =
    let away : r ≡ (s / 65536 + (4294967296 - c * 256)) % 4294967296 = rw (← ex) e in
    record { right = λ l. (omega arith, omega arith); wrong = λ l q. omega arith }

-- where it is no slot's, the identifier has no form; where it is, its serial decides

module _ (c n s i : ℕ) (index : Indexed c s i) (few : n ≤ 256) where
  pub index-out : n ≤ i → is_seid c n s ≡ false
  index-out l =
      refuted (is_seid c n s) (λ e.
      let f = is-formed c n s e in
      split ⊥ (ltb i 256)
      (λ q. omega (arith, f.index_in, (index.right (ltb-true i 256 q)).1))
      (λ q. index.wrong (ltb-false i 256 q) f.class-is))

  pub index_in : i < n → is_seid c n s ≡ ltb 0 (serial_of s)
  unfolding is_seid
  index_in l =
      let is = index.right (omega arith) in
      rw (eq-eqb (class_of s) c is.0, lt-ltb (index_of s) n (omega (arith, is.1)))

pub held_out : (h : List ℕ) (r : Addr → ℕ) (k : Kind) (c s i : ℕ) → Indexed (class k) s i → slots h k ≤ 256 → slots h k ≤ i → test (held_ok h r k c s) ≡ false
unfolding held_ok
held_out h r k c s i index few l = rw (index-out (class k) (slots h k) s i index few l)

-- the three tests of an identifier that names slot i, where serial-held and flow are read off the table
pub held_in : (h : List ℕ) (r : Addr → ℕ) (k : Kind) (c s i : ℕ) → Indexed (class k) s i → slots h k ≤ 256 → i < slots h k
    → ltb 0 (serial_of s) && (leb (serial_of s) (r (at k i serial)) && flows h (cell_of h k i) c) ≡ test (held_ok h r k c s)
unfolding held_ok
held_in h r k c s i index few l =
    rw (index_in (class k) (slots h k) s i index few l, (index.right (omega arith)).1)

-- ---- an entry: of an object or of a subtype; empty, refused, or held

-- an entry that holds a subtype holds nothing of its kind's class
subtype-other : (k : Kind) (s : ℕ) → holds_subtype k s ≡ true → class_of s ≡ class k → ⊥
subtype-other process s e q = both_ways false e refl
subtype-other segment s e q = both_ways false e refl
subtype-other file s e q = omega (arith, eqb-true (class_of s) subtype_class e)

module _ (h : List ℕ) (r : Addr → ℕ) (k : Kind) (c s u : ℕ) where
  entry-object : holds_subtype k s ≡ false → test (entry_ok h r k c s u) ≡ test (object_entry_ok h r k c s u)
  unfolding entry_ok
  entry-object e = rw e (and-true _)

  entry-subtype : holds_subtype k s ≡ true → test (entry_ok h r k c s u) ≡ test (subtype_entry_ok h c s u)
  unfolding entry_ok
  entry-subtype e = rw e

  pub entry-empty : s ≡ 0 → eqb u 0 ≡ test (entry_ok h r k c s u)
  unfolding object_entry_ok
  entry-empty e =
      let object = entry-object (refuted (holds_subtype k s) (λ q. subtype-some k s q e)) in
      rw (object, eq-eqb s 0 e) (sym (and-true (eqb u 0)))

  entry-refused : (s ≡ 0 → ⊥) → test (held_ok h r k c s) ≡ false → test (object_entry_ok h r k c s u) ≡ false
  unfolding object_entry_ok
  entry-refused e f = rw (ne_eqb s 0 e, f)

-- a used entry whose index is no slot's: what is said of a subtype decides
pub entry-out : (h : List ℕ) (r : Addr → ℕ) (k : Kind) (c s u i : ℕ) → (s ≡ 0 → u ≡ 0 → ⊥) → Indexed (class k) s i → slots h k ≤ 256 → slots h k ≤ i
    → holds_subtype k s && test (subtype_entry_ok h c s u) ≡ test (entry_ok h r k c s u)
entry-out h r k c s u i busy index few l =
    split _ (holds_subtype k s)
    (λ q. rw q (sym (entry-subtype h r k c s u q)))
    (λ q.
    rw q
    (split _ (eqb s 0)
    (λ z. sym (ne_eqb u 0 (busy (eqb-true s 0 z))) ∙ entry-empty h r k c s u (eqb-true s 0 z))
    (λ z. sym (entry-object h r k c s u q ∙ entry-refused h r k c s u (eqb-false s 0 z) (held_out h r k c s i index few l)))))

-- and one whose index is: all its tests at once
pub entry_in : (h : List ℕ) (r : Addr → ℕ) (k : Kind) (c s u i : ℕ) → class_of s ≡ class k → index_of s ≡ i → i < slots h k
    → (ltb 0 (serial_of s) && (leb (serial_of s) (r (at k i serial)) && flows h (cell_of h k i) c))
    && ((not (eqb (cell_of h k i) c) || (eqb (r (at k i live)) 1 && eqb (r (at k i serial)) (serial_of s)))
    && (valid_use k u && (not (write_use k u) || eqb (cell_of h k i) c))) ≡ test (entry_ok h r k c s u)
unfolding object_entry_ok held_ok current_ok is_seid
entry_in h r k c s u i e q l =
    let object = entry-object h r k c s u (refuted (holds_subtype k s) (λ o. subtype-other k s o e)) in
    rw (
      object,
      ← q,
      ne_eqb s 0 (class-some s (class k) (class-pos k) e),
      eq-eqb (class_of s) (class k) e,
      lt-ltb (index_of s) (slots h k) (omega arith),
    )

-- a conjunction in another order
turned : (a b d : Bool) → (a && b) && d ≡ b && (a && d)
turned true true d = refl
turned true false d = refl
turned false true d = refl
turned false false d = refl

-- an entry counts for the slot that it names, where that is of the holder's cell
pub names-own : (h : List ℕ) (k : Kind) (c s i : ℕ) → names h k c s i ≡ eqb (cell_of h k i) c && (eqb (class_of s) (class k) && eqb (index_of s) i)
names-own h k c s i =
    let right-class = eqb (class_of s) (class k) in
    let own = eqb (cell_of h k i) c in
    split _ (eqb (index_of s) i)
    (λ q. let e : index_of s ≡ i = eqb-true (index_of s) i q in rw e (turned right-class own (eqb i i)))
    (λ q. rw q (and-false (holds_own h k c s) ∙ sym (and-false (right-class && own)) ∙ turned right-class own false))

-- ---- what a used entry counts for

module _ (h : List ℕ) (k : Kind) (c s i cell : ℕ) (e : class_of s ≡ class k) (q : index_of s ≡ i) (of : cell ≡ cell_of h k i) where
  hit : (j : ℕ) → eqb cell c && eqb i j ≡ names h k c s j
  hit j = rw (of, ← q, eq-eqb (class_of s) (class k) e)

  one_of : (a b : Bool) → ◌≡◌ {A = ℕ} (cond b (cond a 1 0) 0) (cond (a && b) 1 0)
  one_of true true = refl
  one_of true false = refl
  one_of false true = refl
  one_of false false = refl

  pub counted-one : (right : Bool) (before : List ℕ) → i < length before → length before ≡ max_slots
      → Counts (λ j. cond (names h k c s j) 1 0) 1 right before (set before i (get_or before i 0 + cond (eqb cell c) 1 0))
  counted-one right before l long =
      let rose : (j : ℕ) → get_or (set before i (get_or before i 0 + cond (eqb cell c) 1 0)) j 0 ≡ get_or before j 0 + cond (names h k c s j) 1 0 = λ j.
      tally-add before i j (cond (eqb cell c) 1 0) l ∙ ap (λ (x : ℕ). get_or before j 0 + x) (one_of (eqb cell c) (eqb i j) ∙ ap (λ (b : Bool). cond b 1 0) (hit j)) in
      record { exact = λ r j m. rose j; few = λ j m. omega (arith, rose j, one-le (names h k c s j)) }

-- nothing, where it is right only if it holds a subtype: that has no slot
module _ (h : List ℕ) (k : Kind) (c s : ℕ) where
  subtype-names-none : (i : ℕ) → holds_subtype k s ≡ true → names h k c s i ≡ false
  subtype-names-none i e = rw (ne_eqb (class_of s) (class k) (subtype-other k s e))

  pub counted_none : (right fits : Bool) (before : List ℕ) → right ≡ holds_subtype k s && fits
      → Counts (λ j. cond (names h k c s j) 1 0) 1 right before before
  counted_none right fits before e =
      let none : (j : ℕ) → right ≡ true → ◌≡◌ {A = ℕ} (cond (names h k c s j) 1 0) 0 = λ j q.
      ap (λ (b : Bool). cond b 1 0) (subtype-names-none j (and_left (holds_subtype k s) fits (sym e ∙ q))) in
      record { exact = λ q j m. omega (arith, none j q); few = λ j m. omega arith }

-- ---- an entry that is not used is right and counts for nothing

pub entry-idle : (h : List ℕ) (r : Addr → ℕ) (k : Kind) (c s u : ℕ) → eqb s 0 && eqb u 0 ≡ true → test (entry_ok h r k c s u) ≡ true
entry-idle h r k c s u e = sym (entry-empty h r k c s u (eqb-true s 0 (and_left (eqb s 0) (eqb u 0) e))) ∙ and_right (eqb s 0) (eqb u 0) e

pub names-idle : (h : List ℕ) (k : Kind) (c s u i : ℕ) → eqb s 0 && eqb u 0 ≡ true → names h k c s i ≡ false
names-idle h k c s u i e =
    let none : s ≡ 0 = eqb-true s 0 (and_left (eqb s 0) (eqb u 0) e) in
    rw (ne_eqb (class_of s) (class k) (λ q. class-some s (class k) (class-pos k) q none))

-- the words of a used entry are not both 0
pub busy-word : (t : List ℕ) (from d s u : ℕ) → unused t from d ≡ false → s ≡ held_word t from d → u ≡ used_word t from d → s ≡ 0 → u ≡ 0 → ⊥
busy-word t from d s u busy p q a b =
    true≢false (sym (and_both _ _ (eq-eqb (held_word t from d) 0 (sym p ∙ a)) (eq-eqb (used_word t from d) 0 (sym q ∙ b))) ∙ busy)
