-- Room: the code's searches for a free slot and an empty entry are the rule's, over the kind, and so is a new object's seid.
use mathlib.Core.Path.{◌≡◌, refl, sym, ap, ◌∙◌}
use Rattle.std.specs.Prelude.{Option, Some, None, MatchOption}
use mathlib.Core.Bool.{Bool, true, false, cond, ◌&&◌}
use mathlib.Core.List.{List, [], ◌∷◌}
use Prim.Native.Nat.{ℕ, ◌+◌, ◌*◌, ◌≤◌, ◌<◌}
use native.Mathlib.Omega.{arith}
use native.Mathlib.Decide.{ℕ_discrete}
use lib.Dec.{eqb, ltb, leb}
use lib.ListN.{get_or}
use borrow.Author.Tests.{ltb-true, ltb-false, lt-ltb, le-leb, lt-leb}
use Rattle.rules.specs.Layout.{max_slots, max_serial, Kind, process, segment, file, record_words, configuration, cells, slots, cell_slots, first_slot, Addr, at, rd, held_at, entries, live, serial, group, holders}
use Rattle.rules.specs.Seid.{class, seid}
use Rattle.rules.specs.Rule.{Refusal, ◌⇒◌, first_refusal}
use Rattle.rules.specs.Errors.{XodSpace}
use Rattle.rules.specs.Find.{can_take, free_slot, no_slot, free_entry, no_entry}
use Rattle.laws.proofs.Seids.{class_low}
use Rattle.rules.specs.Words.{lowest}
use Rattle.laws.proofs.Search.{lowest-same, lowest-is, lowest-none}
use Rattle.laws.proofs.Least.{Choice, choice-past, choice-taken, choice-end, least-same}
use Rattle.laws.proofs.Tests.{both_ways, and_left, and_right, and_both}
use Rattle.laws.proofs.Cells.{run_end}
use Rattle.laws.proofs.Shape.{in-run}
use Rattle.laws.proofs.Slots.{FreeSlot, free-slot}
use Rattle.layout.specs.declared.Header.{Header}
use Rattle.layout.specs.Header.{base_of, record_of}
use Rattle.ids.specs.Seid.{seid_of}
use Rattle.ids.proofs.Parts.{seid-fits}
use Rattle.calls.specs.declared.Caller.{Caller}
use Rattle.calls.specs.World.{Known, Sound, words_of, holdable, first_by, free_at, empty_test}
use Rattle.lists.specs.Free.{free_test, serial_at}
use Rattle.calls.specs.Seen.{slot_found, entry_found}
use Rattle.calls.proofs.Worlds.{spot, shape, cells_is, first-bound}

-- ---- cells

-- so many slots as the table has at most are in the runs up to a cell
pub first_fits : {t : List ℕ} {n : Header} → Known t n → (k c : ℕ) → c ≤ n.cells → first_by (configuration t) k (cells (configuration t)) ≤ max_slots
    → first_by (configuration t) k c ≤ max_slots
first_fits {t} {n} known k c l m = omega (arith, first-bound (configuration t) k c (cells (configuration t)) (omega (arith, cells_is known)))

-- the caller's cell is one of the table's
pub home-in : {t : List ℕ} {n : Header} {c : Caller} → Sound t n c → c.cell < n.cells
home-in {t} {n} {c} s = rw (s.home, cells_is s.known) (in-run (configuration t) (shape s.known) process c.slot s.caller).0

-- ---- the loop of that search: of the slots from one on up to i, `best` is the choice and `least` its serial; before there is one, the end and the largest serial

pub record Chosen (t : List ℕ) (base size from i end best least : ℕ) : Type 0 where
  pub choice : Choice (free_test t base size) (serial_at t base size) from i end best
  pub none : best ≡ end → least ≡ max_serial
  pub one : (best ≡ end → ⊥) → least ≡ serial_at t base size best

-- a serial that was chosen can rise
chosen-low : {t : List ℕ} {base size from i end best least : ℕ} → Chosen t base size from i end best least → least ≤ max_serial
unfolding free_test serial_at
chosen-low {t} {base} {size} {from} {i} {end} {best} {least} c = elim (ℕ_discrete best end) [
  | yes e ↦ omega (arith, c.none e)
  | no n ↦ omega (
    arith,
    c.one n,
    ltb-true (get_or t (base + size * best + serial) 0) max_serial
        (and_right (eqb (get_or t (base + size * best + live) 0) 0) (ltb (get_or t (base + size * best + serial) 0) max_serial) (c.choice.one n).passes),
  )
]

or-other : (a b : Bool) → a ≡ true → a && b ≡ false → b ≡ false
or-other true b e f = f
or-other false b e f = both_ways false e refl

-- the next slot: y is its number, x and z its words
module _ {t : List ℕ} {base size from i end best least : ℕ} (lo : from ≤ i) (hi : i < end) (c : Chosen t base size from i end best least) {x y z : ℕ} (ye : y ≡ i)
    (xe : x ≡ get_or t (base + size * y + 0) 0) (ze : z ≡ get_or t (base + size * y + 1) 0) where
  serial-is : z ≡ serial_at t base size i
  unfolding serial_at
  serial-is = ze ∙ rw ye

  taken_next : eqb x 0 && ltb z least ≡ true → Chosen t base size from (i + 1) end i z
  unfolding free_test
  taken_next e =
      let less = ltb-true z least (and_right (eqb x 0) (ltb z least) e) in
      let small : z < max_serial = omega (arith, chosen-low c) in
      let free : free_test t base size i ≡ true = rw (← ye, ← xe, ← ze) (and_both (eqb x 0) (ltb z max_serial) (and_left (eqb x 0) (ltb z least) e)
      (lt-ltb z max_serial small)) in
      record {
        choice = choice-taken (free_test t base size) (serial_at t base size) from i end best lo hi c.choice free (λ n. omega (arith, c.one n, serial-is));
        none = λ q. absurd (omega arith);
        one = λ _. serial-is;
      }

  past_next : eqb x 0 && ltb z least ≡ false → Chosen t base size from (i + 1) end best least
  unfolding free_test
  past_next e = record {
    choice = choice-past (free_test t base size) (serial_at t base size) from i end best lo hi c.choice (λ f.
        let g : eqb x 0 && ltb z max_serial ≡ true = rw (xe, ze, ye) f in
        let more : least ≤ z = ltb-false z least (or-other (eqb x 0) (ltb z least) (and_left (eqb x 0) (ltb z max_serial) g) e) in
        let small = ltb-true z max_serial (and_right (eqb x 0) (ltb z max_serial) g) in
        let some : best ≡ end → ⊥ = λ q. omega (arith, c.none q) in
        (some, omega (arith, c.one some, serial-is)));
    none = c.none;
    one = c.one;
  }

  pub chosen-next : (b : Bool) {best' least' : ℕ} → eqb x 0 && ltb z least ≡ b → best' ≡ cond b i best → least' ≡ cond b z least
      → Chosen t base size from (i + 1) end best' least'
  chosen-next true e be le = rw (be, le) (taken_next e)
  chosen-next false e be le = rw (be, le) (past_next e)

pub chosen-end : {t : List ℕ} {base size from : ℕ} (n : ℕ) {i end best least : ℕ} → end ≡ from + n → i ≡ end → Chosen t base size from i end best least
    → best ≡ free_at t base size n from
unfolding free_at
chosen-end {t} {base} {size} {from} n {best = best} ee ie c = choice-end (free_test t base size) (serial_at t base size) n from best (rw (ie, ee) at c.choice)

-- ---- what is found: the place where a search ends, if that is before the end

pub ends-before : (end x : ℕ) → x < end → ◌≡◌ {A = Option ℕ} (cond (leb end x) None (Some x)) (Some x)
ends-before end x l = rw (lt-leb end x l)

pub ends-past : (end x : ℕ) → end ≤ x → ◌≡◌ {A = Option ℕ} (cond (leb end x) None (Some x)) None
ends-past end x l = rw (le-leb end x l)

pub some-found : {A : Type 0} (b : Bool) (x i : A) → Some i ≡ cond b None (Some x) → (b ≡ false) × (i ≡ x)
some-found true x i e = absurd cc
some-found false x i e = (refl, cc)

pub none-found : {A : Type 0} (b : Bool) (x : A) → None ≡ cond b None (Some x) → b ≡ true
none-found true x e = refl
none-found false x e = absurd cc

-- where nothing is found, the call is refused with this number; where something is, with what refuses further on
none-refuses : {A : Type 0} (b : Bool) (x : A) (n : ℕ) (ys : List Refusal) → None ≡ cond b None (Some x) → n ≡ first_refusal ((b ⇒ n) ∷ ys)
none-refuses b x n ys e = rw (none-found b x e)

some-passes : {A : Type 0} (b : Bool) (x i : A) (n : ℕ) (ys : List Refusal) → Some i ≡ cond b None (Some x) → first_refusal ys ≡ first_refusal ((b ⇒ n) ∷ ys)
some-passes b x i n ys e = rw (some-found b x i e).0

module _ (r : Addr → ℕ) (k : Kind) (p : ℕ) where
  pub entry-none : (ys : List Refusal) → None ≡ entry_found r k p → XodSpace ≡ first_refusal ((no_entry r k p ⇒ XodSpace) ∷ ys)
  entry-none ys none = none-refuses (no_entry r k p) _ XodSpace ys none

  pub entry-some : (d : ℕ) (ys : List Refusal) → Some d ≡ entry_found r k p
      → (d ≡ free_entry r k p) × (first_refusal ys ≡ first_refusal ((no_entry r k p ⇒ XodSpace) ∷ ys))
  entry-some d ys some = ((some-found (no_entry r k p) _ d some).1, some-passes (no_entry r k p) _ d XodSpace ys some)

module _ (h : List ℕ) (r : Addr → ℕ) (k : Kind) (c : ℕ) where
  pub slot-none : (n : ℕ) → None ≡ slot_found h r k c → n ≡ first_refusal ((no_slot h r k c ⇒ n) ∷ [])
  slot-none n none = none-refuses (no_slot h r k c) _ n [] none

  pub slot-some : (i n : ℕ) → Some i ≡ slot_found h r k c → (i ≡ free_slot h r k c) × (0 ≡ first_refusal ((no_slot h r k c ⇒ n) ∷ []))
  slot-some i n some = ((some-found (no_slot h r k c) _ i some).1, some-passes (no_slot h r k c) _ i n [] some)

-- ---- the search for a free slot in the run of a cell: from and m are the run's first slot and length, x the slot found

module _ {t : List ℕ} {n : Header} (known : Known t n) (kind : Kind) (c : ℕ) {from m : ℕ}
    (fe : from ≡ first_slot (configuration t) kind c) (me : m ≡ cell_slots (configuration t) kind c) where
  pub slot-told : {b z x : ℕ} → b ≡ base_of n kind → z ≡ record_words kind → x ≡ free_at t b z m from → x ≡ free_slot (configuration t) (words_of t) kind c
  unfolding free_at free_slot free_test serial_at rd
  slot-told be ze xe =
      rw (xe, be, ze, fe, me)
      (rw (least-same (free_test t (base_of n kind) (record_words kind)) (can_take (words_of t) kind) (serial_at t (base_of n kind) (record_words kind))
      (λ i. words_of t (at kind i serial)) (cell_slots (configuration t) kind c) (first_slot (configuration t) kind c)
      (λ j a b. (rw (spot known (at kind j live), spot known (at kind j serial)), rw (spot known (at kind j serial))))))

  -- a slot of the run, or past it: then there is none
  pub slot-there : {x : ℕ} → x ≡ free_slot (configuration t) (words_of t) kind c → x < from + m → Some x ≡ slot_found (configuration t) (words_of t) kind c
  slot-there {x} xe l = rw (← xe, ← fe, ← me) (sym (ends-before (from + m) x l))

  pub slot-past : {x : ℕ} → x ≡ free_slot (configuration t) (words_of t) kind c → from + m ≤ x → None ≡ slot_found (configuration t) (words_of t) kind c
  slot-past {x} xe l = rw (← xe, ← fe, ← me) (sym (ends-past (from + m) x l))

-- ---- an empty entry

entry-told : {t : List ℕ} {n : Header} → Known t n → (k : Kind) (p : ℕ) → holdable k ≡ true → {y : ℕ} → y ≡ record_of n process p + held_at k 0
    → lowest (empty_test t y) entries 0 ≡ free_entry (words_of t) k p
unfolding free_entry empty_test rd
entry-told {t} known process p h ye = both_ways false h refl
entry-told {t} known segment p h ye = rw ye (lowest-same _ _ _ _ (λ j a b. ap (λ (i : ℕ). eqb (get_or t i 0) 0) (omega (arith, spot known (at process p 40)))))
entry-told {t} known file p h ye = rw ye (lowest-same _ _ _ _ (λ j a b. ap (λ (i : ℕ). eqb (get_or t i 0) 0) (omega (arith, spot known (at process p 8)))))

-- the entries begin at y: the first that is empty is the rule's, and where none is there is none
module _ {t : List ℕ} {n : Header} (known : Known t n) (k : Kind) (p : ℕ) (h : holdable k ≡ true) {y : ℕ} (there : y ≡ record_of n process p + held_at k 0) where
  pub entry-searched : (r : Option ℕ) → MatchOption r ((d : ℕ) → 0 ≤ d → d < entries → empty_test t y d ≡ false)
      (λ d. (0 ≤ d) × (d < entries) × (empty_test t y d ≡ true) × ((e : ℕ) → 0 ≤ e → e < d → empty_test t y e ≡ false)) → r ≡ entry_found (words_of t) k p
  entry-searched None none = rw (← (entry-told known k p h there), lowest-none (empty_test t y) entries 0 (λ j a b. none j a b))
  entry-searched (Some d) (a, l, e, none) =
      rw (← (entry-told known k p h there), lowest-is (empty_test t y) entries 0 d a l e none) (sym (ends-before entries d l))

pub record-small : (k : Kind) → record_words k ≤ record_words process
record-small process = omega arith
record-small segment = omega arith
record-small file = omega arith

pub holders-small : (k : Kind) → holders k ≤ record_words process
holders-small process = omega arith
holders-small segment = omega arith
holders-small file = omega arith

-- every record has the four words that all begin with
pub record-some : (k : Kind) → group < record_words k
record-some process = omega arith
record-some segment = omega arith
record-some file = omega arith

-- ---- a slot that was found: it is one of the table's, its serial can rise, and the seid that the code makes of it is the rule's

-- in any cell
pub taken_in : {t : List ℕ} {n : Header} → Known t n → (k : Kind) (b : ℕ) {i : ℕ} → b < cells (configuration t) → Some i ≡ slot_found (configuration t) (words_of t) k b
    → FreeSlot (configuration t) (words_of t) k b i
taken_in {t} known k b {i} l found =
    let slot = some-found (no_slot (configuration t) (words_of t) k b) _ i found in
    rw slot.1 (free-slot (configuration t) (words_of t) (shape known) b l k slot.0)

pub seid-made : (k : Kind) {i z s : ℕ} → i < max_slots → z < max_serial → s ≡ seid_of (class k) i (z + 1) → s ≡ seid (class k) i (z + 1)
seid-made k {i} {z} l m se = se ∙ seid-fits (class k) i (z + 1) (class_low k) l (omega arith)

-- in the caller's
module _ {t : List ℕ} {n : Header} {c : Caller} (sound : Sound t n c) (k : Kind) {i : ℕ} (found : Some i ≡ slot_found (configuration t) (words_of t) k c.cell) where
  pub taken : FreeSlot (configuration t) (words_of t) k c.cell i
  taken = taken_in sound.known k c.cell (omega (arith, home-in sound, cells_is sound.known)) found

  pub serial-rises : {z : ℕ} → z ≡ words_of t (at k i serial) → z < max_serial
  serial-rises ze = omega (arith, ze, taken.not-worn)

  pub new-seid : {z s : ℕ} → z ≡ words_of t (at k i serial) → s ≡ seid_of (class k) i (z + 1) → s ≡ seid (class k) i (words_of t (at k i serial) + 1)
  new-seid {z} ze se =
      let l : i < max_slots = omega (arith, taken.in-range, (shape sound.known).few k) in
      seid-made k l (serial-rises ze) se ∙ rw ze

-- a cell's run is within the table
pub run-slots : {t : List ℕ} {n : Header} → Known t n → (kind : Kind) (c : ℕ) → c < n.cells → {from m : ℕ} → from ≡ first_slot (configuration t) kind c
    → m ≡ cell_slots (configuration t) kind c → from + m ≤ slots (configuration t) kind
run-slots {t} {n} known kind c l fe me =
    omega (arith, fe, me, run_end (configuration t) kind c (omega (arith, cells_is known)), (shape known).sums kind)

pub run_small : {t : List ℕ} {n : Header} → Known t n → (kind : Kind) (c : ℕ) → c < n.cells → {from m : ℕ} → from ≡ first_slot (configuration t) kind c
    → m ≡ cell_slots (configuration t) kind c → from + m ≤ max_slots
run_small known kind c l fe me = omega (arith, run-slots known kind c l fe me, (shape known).few kind)
