-- What the check hands on of a table, in bytes: the cell of every slot, kind by kind, and then the sixteen by sixteen table of which cell may flow to which, row by row.
use Rattle.std.specs.Prelude.{Bool, cond, List, ℕ, ◌+◌, ◌*◌, ◌/◌, ◌%◌, ltb, eqb, get_or, replicate}
use Rattle.std.proofs.lemmas.List.Edits.{sets}
use Rattle.rules.specs.Words.{tab_from}
use Rattle.rules.specs.Layout.{max_cells, max_slots, Kind, process, segment, file, slots, cell_of, flows}

-- where the cells of a kind's slots begin
abbrev pub cells_at : Kind → ℕ
cells_at process = 0
cells_at segment = max_slots
cells_at file = 2 * max_slots

abbrev pub flows_at : ℕ
flows_at = 3 * max_slots

abbrev pub hall_bytes : ℕ
hall_bytes = flows_at + max_cells * max_cells

-- the cell of a slot, and 0 past the last slot
abbrev pub cell_byte : List ℕ → Kind → ℕ → ℕ
cell_byte h k i = cond (ltb i (slots h k)) (cell_of h k i) 0

unfoldable pub slot_cells : List ℕ → Kind → List ℕ
slot_cells h k = tab_from 0 max_slots (cell_byte h k)

abbrev pub bit : Bool → ℕ
bit b = cond b 1 0

-- which cell may flow to which, row by row
unfoldable pub flow_bytes : List ℕ → List ℕ
flow_bytes h = tab_from 0 (max_cells * max_cells) (λ j. bit (flows h (j / max_cells) (j % max_cells)))

-- the cells of processes, of segments and of files and the flows, each in its place, as far as a list has room
unfoldable pub stored : List ℕ → List ℕ → List ℕ → List ℕ → List ℕ → List ℕ
stored l processes segments files flows =
    sets (sets (sets (sets l (cells_at process) processes) (cells_at segment) segments) (cells_at file) files) flows_at flows

-- all that is handed on of a configuration
unfoldable pub told_in : List ℕ → List ℕ → List ℕ
told_in h l = stored l (slot_cells h process) (slot_cells h segment) (slot_cells h file) (flow_bytes h)

abbrev pub hall_of : List ℕ → List ℕ
hall_of h = told_in h (replicate hall_bytes 0)

-- the table of which cell may flow to which, as such a list has it
abbrev pub flow_byte : List ℕ → ℕ → ℕ → Bool
flow_byte l c d = eqb (get_or l (flows_at + (max_cells * c + d)) 0) 1

unfoldable pub matrix_in : List ℕ → List (List Bool)
matrix_in l = tab_from 0 max_cells (λ c. tab_from 0 max_cells (λ d. flow_byte l c d))
