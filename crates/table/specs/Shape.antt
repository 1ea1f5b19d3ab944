-- What the code counts on once the header, the lengths, the cells and the subtypes have been judged.
use Rattle.std.specs.Prelude.{◌≡◌, ℕ, ◌<◌, ◌≤◌, List, length, slice_index}
use Rattle.rules.specs.Layout.{max_cells, max_slots, max_blocks, max_subtypes, Kind, file, cells, slots, subtypes, subtype_cell, configuration, first_slot, cell_of}
use Rattle.layout.specs.declared.Header.{Header}
use Rattle.layout.specs.Header.{record_of}

-- n has the header's numbers
pub record IsHeader (t : List ℕ) (n : Header) : Type 0 where
  pub cells_is : n.cells ≡ slice_index t 0
  pub processes-is : n.processes ≡ slice_index t 1
  pub segments-is : n.segments ≡ slice_index t 2
  pub files-is : n.files ≡ slice_index t 3
  pub blocks_is : n.blocks ≡ slice_index t 4
  pub guard-is : n.guard ≡ slice_index t 5
  pub subtypes-is : n.subtypes ≡ slice_index t 6

-- they are in range
pub record Small (n : Header) : Type 0 where
  pub few-cells : n.cells ≤ max_cells
  pub few-processes : n.processes ≤ max_slots
  pub few-segments : n.segments ≤ max_slots
  pub few-files : n.files ≤ max_slots
  pub few-blocks : n.blocks ≤ max_blocks
  pub few-subtypes : n.subtypes ≤ max_subtypes

-- and the table is as long as they say
pub record Framed (t : List ℕ) (n : Header) : Type 0 where
  pub header : IsHeader t n
  pub small : Small n
  pub exact : length t ≡ record_of n file n.files

-- and the cells have as many slots of each kind as the header says, and every subtype is of one of them
pub record Shaped (t : List ℕ) (n : Header) : Type 0 where
  pub framed : Framed t n
  pub sums : (k : Kind) → first_slot (configuration t) k (cells (configuration t)) ≡ slots (configuration t) k
  pub subtype-cells : (i : ℕ) → i < subtypes (configuration t) → subtype_cell (configuration t) i < cells (configuration t)

-- l has the cell of every slot of a kind
abbrev pub CellsOf : List ℕ → Kind → List ℕ → Type 0
CellsOf h k l = (i : ℕ) → i < slots h k → slice_index l i ≡ cell_of h k i
