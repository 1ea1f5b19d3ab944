-- What the check hands on says: the cell of every slot, and which cell may flow to which.
use mathlib.Core.Path.{◌≡◌, refl, ap, ◌∙◌}
use mathlib.Core.Bool.{Bool, true, false}
use mathlib.Core.List.{List, []}
use Prim.Native.Nat.{ℕ, ◌+◌, ◌*◌, ◌/◌, ◌%◌, ◌≤◌, ◌<◌}
use native.Mathlib.Omega.{arith}
use lib.Dec.{ltb, eqb}
use lib.ListN.{length, get_or, replicate, length-replicate}
use lib.Seq.{sets, length-sets}
use borrow.Author.Tests.{lt-ltb}
use Rattle.rules.specs.Words.{tab_from}
use Rattle.rules.specs.Layout.{max_cells, max_slots, Kind, process, segment, file, slots, cell_of, flows, flow_matrix}
use Rattle.laws.proofs.Tests.{cond-true}
use Rattle.laws.proofs.Tab.{length-tab}
use Rattle.laws.proofs.Fill.{tab-at, tab-same}
use Rattle.laws.proofs.Stored.{sets-in, sets-out}
use Rattle.layout.specs.Hall.{cells_at, flows_at, hall_bytes, cell_byte, slot_cells, bit, flow_bytes, stored, told_in, hall_of, flow_byte, matrix_in}

-- the cells of a kind lie before the flows
pub cells-before : (k : Kind) → cells_at k + max_slots ≤ flows_at
cells-before process = omega arith
cells-before segment = omega arith
cells-before file = omega arith

module _ (h : List ℕ) where
  long : (k : Kind) → length (slot_cells h k) ≡ max_slots
  unfolding slot_cells
  long k = length-tab 0 max_slots (cell_byte h k)

  flows_long : length (flow_bytes h) ≡ max_cells * max_cells
  unfolding flow_bytes
  flows_long = length-tab 0 (max_cells * max_cells) (λ j. bit (flows h (j / max_cells) (j % max_cells)))

  -- the list of a kind has the cell of each slot
  pub slot-cell : (k : Kind) (i : ℕ) → slots h k ≤ max_slots → i < slots h k → get_or (slot_cells h k) i 0 ≡ cell_of h k i
  unfolding slot_cells
  slot-cell k i few l = tab-at max_slots (cell_byte h k) i 0 (omega arith) ∙ cond-true (ltb i (slots h k)) (cell_of h k i) 0 (lt-ltb i (slots h k) l)

  -- as far as each list goes
  abbrev first : List ℕ
  first = sets (replicate hall_bytes 0) (cells_at process) (slot_cells h process)

  abbrev second : List ℕ
  second = sets first (cells_at segment) (slot_cells h segment)

  abbrev third : List ℕ
  third = sets second (cells_at file) (slot_cells h file)

  zeros-long : length (replicate {A = ℕ} hall_bytes 0) ≡ hall_bytes
  zeros-long = length-replicate {A = ℕ} hall_bytes 0

  first-long : length first ≡ hall_bytes
  first-long = length-sets (replicate hall_bytes 0) (cells_at process) (slot_cells h process) ∙ zeros-long

  second-long : length second ≡ hall_bytes
  second-long = length-sets first (cells_at segment) (slot_cells h segment) ∙ first-long

  third-long : length third ≡ hall_bytes
  third-long = length-sets second (cells_at file) (slot_cells h file) ∙ second-long

  -- what stands before the flows is as the lists left it
  before-flows : (j : ℕ) → j < flows_at → get_or (hall_of h) j 0 ≡ get_or third j 0
  unfolding told_in stored
  before-flows j l = sets-out (flow_bytes h) third flows_at j (λ a b. omega arith)

  before-files : (j : ℕ) → j < cells_at file → get_or third j 0 ≡ get_or second j 0
  before-files j l = sets-out (slot_cells h file) second (cells_at file) j (λ a b. omega arith)

  pub cell-told : (k : Kind) (i : ℕ) → slots h k ≤ max_slots → i < slots h k → get_or (hall_of h) (cells_at k + i) 0 ≡ cell_of h k i
  cell-told process i few l =
      before-flows (cells_at process + i) (omega arith) ∙ before-files (cells_at process + i) (omega arith)
      ∙ sets-out (slot_cells h segment) first (cells_at segment) (cells_at process + i) (λ a b. omega arith)
      ∙ sets-in (slot_cells h process) (replicate hall_bytes 0) (cells_at process) i (omega (arith, long process)) (omega (arith, zeros-long))
      ∙ slot-cell process i few l
  cell-told segment i few l =
      before-flows (cells_at segment + i) (omega arith) ∙ before-files (cells_at segment + i) (omega arith)
      ∙ sets-in (slot_cells h segment) first (cells_at segment) i (omega (arith, long segment)) (omega (arith, first-long)) ∙ slot-cell segment i few l
  cell-told file i few l =
      before-flows (cells_at file + i) (omega arith)
      ∙ sets-in (slot_cells h file) second (cells_at file) i (omega (arith, long file)) (omega (arith, second-long)) ∙ slot-cell file i few l

  pub flow-told : (c d : ℕ) → c < max_cells → d < max_cells → get_or (hall_of h) (flows_at + (max_cells * c + d)) 0 ≡ bit (flows h c d)
  unfolding told_in stored flow_bytes
  flow-told c d l m =
      let row : (max_cells * c + d) / max_cells ≡ c = omega arith in let column : (max_cells * c + d) % max_cells ≡ d = omega arith in
      sets-in (flow_bytes h) third flows_at (max_cells * c + d) (omega (arith, flows_long)) (omega (arith, third-long))
      ∙ tab-at (max_cells * max_cells) (λ j. bit (flows h (j / max_cells) (j % max_cells))) (max_cells * c + d) 0 (omega arith)
      ∙ rw (row, column) refl

  -- and so the table of which cell may flow to which
  bit-one : (b : Bool) → eqb (bit b) 1 ≡ b
  bit-one true = refl
  bit-one false = refl

  pub matrix-told : matrix_in (hall_of h) ≡ flow_matrix h
  unfolding matrix_in flow_matrix
  matrix-told =
      tab-same max_cells (λ c. tab_from 0 max_cells (λ d. flow_byte (hall_of h) c d)) (λ c. tab_from 0 max_cells (λ d. flows h c d)) []
      (λ c l. tab-same max_cells (λ d. flow_byte (hall_of h) c d) (λ d. flows h c d) false
      (λ d m. ap (λ (x : ℕ). eqb x 1) (flow-told c d l m) ∙ bit-one (flows h c d)))
