-- Where the words of a working slice stand, by the header's numbers, and whether a word names a slot of the caller's cell.
use Rattle.std.specs.Prelude.{Option, Some, None}
use Rattle.std.proofs.lemmas.Option.{none-some, same_Some}
use Rattle.rules.specs.Find.{free_slot}
use mathlib.Core.Path.{◌≡◌, refl, sym, ap, ap₂, ◌∙◌}
use mathlib.Core.Bool.{true, false, cond}
use mathlib.Core.List.{List}
use Prim.Native.Nat.{ℕ, ◌+◌, ◌*◌, ◌-◌, ◌≤◌, ◌<◌, ◌^◌}
use native.Mathlib.Omega.{arith}
use native.Mathlib.Nat.{mul-le-mul}
use native.Mathlib.Numerals.{add-one}
use lib.Dec.{eqb}
use lib.ListN.{get_or}
use borrow.Author.Tests.{eqb-true}
use Rattle.rules.specs.Words.{sum_below}
use Rattle.rules.specs.Layout.{max_cells, max_slots, Kind, process, segment, file, cells, slots, cell_word, cell_slots, cell_slots_word, configuration, first_slot, cell_of, at, offset, held_at}
use Rattle.rules.specs.Seid.{class, index_of, is_seid, formed}
use Rattle.rules.specs.Modes.{valid_modes}
use Rattle.rules.specs.Find.{in_own_cell}
use Rattle.rules.specs.Call08.{clashes}
use Rattle.rules.specs.Step.{regrade_code}
use Rattle.laws.proofs.Tests.{and_left, and_right}
use Rattle.laws.proofs.Below.{sum-le}
use Rattle.laws.proofs.Shape.{Shape, in-run}
use Rattle.laws.proofs.Seids.{is-formed}
use Rattle.layout.specs.declared.Header.{Header}
use Rattle.layout.specs.Header.{slots_of, record_of}
use Rattle.layout.specs.Hall.{cells_at, hall_of}
use Rattle.layout.proofs.Hall.{cell-told}
use Rattle.kept.proofs.Fine.{fine_of}
use Rattle.lists.specs.Region.{next_slot}
use Rattle.marks.specs.Masks.{row_met}
use Rattle.follow.specs.Right.{runs, kind_at, list_at, rows_at, rows_to, mark_at, mark_of}
use Rattle.follow.specs.Followed.{here}
use Rattle.follow.proofs.Places.{rows_next}
use Rattle.follow.proofs.Slots.{run_small, next-free}
use Rattle.follow.proofs.Rows.{row-clashes}
use Rattle.calls.specs.declared.Caller.{Caller}
use Rattle.calls.specs.World.{Known, Sound, words_of}
use Rattle.table.specs.Shape.{Small}
use Rattle.work.specs.Parts as parts
use Rattle.work.specs.Parts.{lists_at}
use Rattle.calls.specs.Seen.{slot_found}
use Rattle.calls.specs.Quick.{RightIn, kind_made, Made, Near}
use Rattle.calls.proofs.Searches.{home-in}
use Rattle.calls.proofs.Worlds.{spot, shape, cells_is, blocks_is, slots-is}

-- ---- a cell's run of a kind, and the masks of the cells before one

run-most : (h : List ℕ) → Shape h → (k : Kind) (c : ℕ) → c < cells h → cell_slots h k c ≤ max_slots
run-most h s k c l = omega (arith, run_small h s k c l)

row-most : (h : List ℕ) → Shape h → (c : ℕ) → c < cells h → cell_slots h process c * cell_slots h file c ≤ 2 ^ 16
row-most h s c l = omega (arith, mul-le-mul (run-most h s process c l) (run-most h s file c l))

pub rows_none : (h : List ℕ) → 0 ≡ rows_to h 0
unfolding rows_to sum_below
rows_none h = refl

pub rows_more : (h : List ℕ) (c : ℕ) → rows_to h c + cell_slots h process c * cell_slots h file c ≡ rows_to h (c + 1)
rows_more h c = sym (rw add-one (rows_next h c))

rows-most : (h : List ℕ) → Shape h → (c : ℕ) → c ≤ cells h → rows_to h c ≤ max_cells * 2 ^ 16
unfolding rows_to
rows-most h s c l =
    omega (arith, sum-le c (λ c. cell_slots h process c * cell_slots h file c) (2 ^ 16) (λ j m. row-most h s j (omega arith)), s.few-cells)

-- ---- by the header

-- they are few
pub lists-few : {n : Header} → Small n → (k : Kind) → lists_at n k < 2 ^ 12
lists-few small process = omega arith
lists-few small segment = omega (arith, small.few-cells, small.few-processes)
lists-few small file = omega (arith, small.few-cells, small.few-processes, small.few-segments)

module _ {t : List ℕ} {n : Header} (known : Known t n) where
  pub few : Small n
  few = record {
    few-cells = omega (arith, cells_is known, (shape known).few-cells);
    few-processes = omega (arith, slots-is known process, (shape known).few process);
    few-segments = omega (arith, slots-is known segment, (shape known).few segment);
    few-files = omega (arith, slots-is known file, (shape known).few file);
    few-blocks = omega (arith, blocks_is known, (shape known).few-blocks);
    few-subtypes = omega (arith, ap (λ (x : Header). x.subtypes) known.header, (shape known).few-subtypes);
  }

  runs-is : (k : Kind) → runs (configuration t) k ≡ slots_of n k + n.cells
  unfolding runs
  runs-is k = omega (arith, (shape known).sums k, slots-is known k, cells_is known)

  lists-is : (k : Kind) → lists_at n k ≡ kind_at (configuration t) k
  lists-is process = refl
  lists-is segment = omega (arith, runs-is process)
  lists-is file = omega (arith, runs-is process, runs-is segment)

  masks-is : parts.rows_at n ≡ rows_at (configuration t)
  unfolding rows_at
  masks-is = omega (arith, runs-is process, runs-is segment, runs-is file)

  -- the masks of a cell, by its two words
  pub row_fits : (c : ℕ) → c < n.cells → {x y : ℕ} → x ≡ cell_word (configuration t) c (cell_slots_word process)
      → y ≡ cell_word (configuration t) c (cell_slots_word file) → x * y ≤ 2 ^ 16
  row_fits c l xe ye = rw (xe, ye) (row-most (configuration t) (shape known) c (omega (arith, cells_is known)))

  pub rows_fit : (c : ℕ) → c ≤ n.cells → rows_to (configuration t) c ≤ 2 ^ 20
  rows_fit c l = omega (arith, rows-most (configuration t) (shape known) c (omega (arith, cells_is known)))

  -- the lists of a kind begin at b, the run of cell c at `from`
  pub list-told : (kind : Kind) (c : ℕ) {b from : ℕ} → b ≡ lists_at n kind → from ≡ first_slot (configuration t) kind c
      → b + (from + c) ≡ list_at (configuration t) kind c
  unfolding list_at
  list-told kind c be fe = rw (be, lists-is kind, fe)

  -- the masks begin at b, those of cell c after m words, and a process of it has x
  pub mark-told : (c f i : ℕ) {b m x : ℕ} → b ≡ parts.rows_at n → m ≡ rows_to (configuration t) c → x ≡ cell_word (configuration t) c (cell_slots_word file)
      → b + m + (i * x + f) ≡ mark_at (configuration t) c f i
  unfolding mark_at
  mark-told c f i be me xe = rw (be, masks-is, me, xe)

  pub mark-step : (c i : ℕ) → c < n.cells → i < max_slots → {x : ℕ} → x ≡ cell_word (configuration t) c (cell_slots_word file) → i * x ≤ 2 ^ 16
  mark-step c i l m {x} xe =
      let few-files : x ≤ max_slots = omega (arith, xe, run-most (configuration t) (shape known) file c (omega (arith, cells_is known))) in
      let low : i ≤ max_slots = omega arith in
      omega (arith, mul-le-mul low few-files)

  -- a slot of the caller's cell, counted from the run's first
  module _ {me : Caller} (kind : Kind) (i : ℕ) (near : Near t me kind i) {from : ℕ} (fe : from ≡ first_slot (configuration t) kind me.cell) where
    pub near-from : from ≤ i
    near-from =
        let lo : first_slot (configuration t) kind (cell_of (configuration t) kind i) ≤ i = (in-run (configuration t) (shape known) kind i near.in-range).1 in
        omega (arith, rw near.in_cell at lo, fe)

    pub near-low : i - from < max_slots
    near-low = omega (arith, near.in-range, (shape known).few kind)

  pub mark-of-told : {me : Caller} (p f : ℕ) → Near t me process p → {x y r : ℕ} → x ≡ first_slot (configuration t) process me.cell
      → y ≡ first_slot (configuration t) file me.cell → r ≡ mark_at (configuration t) me.cell (f - y) (p - x) → r ≡ mark_of (configuration t) p f
  unfolding mark_of
  mark-of-told {me} p f near xe ye re =
      rw (near.in_cell, ← xe, ← ye) re

-- ---- whether a word names a slot of the caller's cell: it has the form of an identifier, and its slot is of that cell

module _ {t : List ℕ} {n : Header} {me : Caller} (sound : Sound t n me) (k : Kind) (s : ℕ) {x z : ℕ} (xe : x ≡ class k) (ze : z ≡ slots_of n k) where
  form-is : is_seid x z s ≡ is_seid (class k) (slots (configuration t) k) s
  form-is = rw (xe, ze, slots-is sound.known k)

  pub here-told : {hall : List ℕ} {i cell : ℕ} → hall ≡ hall_of (configuration t) → is_seid x z s ≡ true → i ≡ index_of s
      → cell ≡ get_or hall (cells_at k + i) 0 → eqb cell me.cell ≡ here (configuration t) me.slot k s
  unfolding here
  here-told {cell = cell} he form ie ce =
      let h = configuration t in
      let told : is_seid (class k) (slots h k) s ≡ true = rw form-is at form in
      let in_table : index_of s < slots h k = (is-formed (class k) (slots h k) s told).index_in in
      let cell-is : cell ≡ cell_of h k (index_of s) = ce ∙ rw (he, ie) (cell-told h k (index_of s) ((shape sound.known).few k) in_table) in
      rw (told, cell-is, sound.home)

  pub not-here : is_seid x z s ≡ false → false ≡ here (configuration t) me.slot k s
  unfolding here
  not-here form = rw (rw form-is at form)

-- and such a slot is near
pub near-here : {t : List ℕ} {n : Header} {me : Caller} → Sound t n me → (k : Kind) (s : ℕ) → here (configuration t) me.slot k s ≡ true
    → (formed (configuration t) k s ≡ true) × Near t me k (index_of s)
unfolding here
near-here {t} {me = me} sound k s e =
    let h = configuration t in let form = and_left (formed h k s) (in_own_cell h me.slot k s) e in
    let same = eqb-true _ _ (and_right (formed h k s) (in_own_cell h me.slot k s) e) in
    (form, record { in-range = (is-formed (class k) (slots h k) s form).index_in; in_cell = same ∙ sym sound.home })

-- ---- what the slice tells: the slot that creation takes, and whether an open clashes

module _ {t w : List ℕ} {n : Header} (known : Known t n) (right : RightIn t w) where
  -- the run of cell c has m slots from `from` on, the list is at a place, and x is its next slot
  pub listed-told : (kind : Kind) (c : ℕ) → c < n.cells → {from m place x : ℕ} → from ≡ first_slot (configuration t) kind c
      → m ≡ cell_slots (configuration t) kind c → place ≡ list_at (configuration t) kind c → x ≡ next_slot w place (from + m)
      → x ≡ free_slot (configuration t) (words_of t) kind c
  listed-told kind c l fe me pe xe =
      rw (xe, pe, fe, me, next-free (configuration t) (shape known) (words_of t) w right kind c (omega (arith, cells_is known)))

-- the file's masks are at a place, a step x apart, and its cell has m processes from p on
pub clash-told : {t w : List ℕ} {n : Header} {me : Caller} → Sound t n me → RightIn t w → (s b : ℕ) → here (configuration t) me.slot file s ≡ true
    → valid_modes b ≡ true → {p f m x i place : ℕ} → p ≡ first_slot (configuration t) process me.cell
    → f ≡ first_slot (configuration t) file me.cell → m ≡ cell_slots (configuration t) process me.cell
    → x ≡ cell_slots (configuration t) file me.cell → i ≡ index_of s → place ≡ mark_at (configuration t) me.cell (i - f) 0
    → row_met t w (record_of n process p + held_at file 0) m place x s b ≡ clashes (configuration t) (words_of t) me.cell s b
clash-told {t} {w} {n} {me} sound right s b e valid {p} pe fe we xe ie ae =
    let h = configuration t in let near = near-here sound file s e in
    let there : record_of n process p + held_at file 0 ≡ offset h (at process (first_slot h process me.cell) (held_at file 0)) =
    spot sound.known (at process p (held_at file 0)) ∙ rw pe in
    rw (we, xe, ae, ie, fe)
    (row-clashes h t w (shape sound.known) (fine_of h (words_of t) sound.records) right s b near.0 valid me.cell _ near.1.in_cell there)

-- ---- the slot for what a call makes

-- the ways that `slot_made` ends; the check finds the first two by itself
module _ (t : List ℕ) (me : Caller) (code b : ℕ) where
  -- what makes an object takes the slot that is found for it
  pub made_found : {k : Kind} {cell : ℕ} {q : Option ℕ} → Some k ≡ kind_made code → cell ≡ cond (eqb code regrade_code) b me.cell
      → q ≡ slot_found (configuration t) (words_of t) k cell → Made t me code b q
  made_found {k} {cell} {q} ke ce qe =
      let found : (n : ℕ) (j : Kind) → kind_made n ≡ Some j → code ≡ n → q ≡ slot_found (configuration t) (words_of t) j (cond (eqb n regrade_code) b me.cell)
      = λ n j je e. let same_kind : k ≡ j = same_Some k j (ke ∙ ap kind_made e ∙ je) in
      qe ∙ ap₂ (slot_found (configuration t) (words_of t)) same_kind (ce ∙ ap (λ (x : ℕ). cond (eqb x regrade_code) b me.cell) e) in
      record {
        spawned = found 1 process refl;
        built = found 3 segment refl;
        created = found 7 file refl;
        copied = λ e l. found regrade_code file refl e;
      }

  -- what makes nothing takes none
  pub made_nothing : {q : Option ℕ} → None ≡ kind_made code → Made t me code b q
  made_nothing ne =
      let none : (n : ℕ) (j : Kind) → kind_made n ≡ Some j → code ≡ n → ⊥ = λ n j je e. none-some j (ne ∙ ap kind_made e ∙ je) in
      record {
        spawned = λ e. absurd (none 1 process refl e);
        built = λ e. absurd (none 3 segment refl e);
        created = λ e. absurd (none 7 file refl e);
        copied = λ e l. absurd (none regrade_code file refl e);
      }

  -- nor does a copy into a cell that there isn't
  pub made-nowhere : {n : Header} {cell : ℕ} {q : Option ℕ} → Sound t n me → cell ≡ cond (eqb code regrade_code) b me.cell → n.cells ≤ cell → Made t me code b q
  made-nowhere {n} {cell} sound ce l =
      let own : (x : ℕ) → cond (eqb x regrade_code) b me.cell ≡ me.cell → code ≡ x → ⊥
      = λ x s f. omega (arith, ce ∙ ap (λ (y : ℕ). cond (eqb y regrade_code) b me.cell) f ∙ s, home-in sound) in
      record {
        spawned = λ f. absurd (own 1 refl f);
        built = λ f. absurd (own 3 refl f);
        created = λ f. absurd (own 7 refl f);
        copied = λ f m. absurd (omega (arith, ce ∙ ap (λ (y : ℕ). cond (eqb y regrade_code) b me.cell) f, cells_is sound.known));
      }
