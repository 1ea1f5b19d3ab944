-- A flow matrix in bytes.
use Rattle.std.specs.Prelude.{ℕ, ◌*◌, ◌/◌, ◌%◌, Bool, false, List, [], slice_index_or}
use Rattle.rules.specs.Words.{tab_from}
use Rattle.rules.specs.Layout.{max_cells}
use Rattle.layout.specs.Hall.{bit}

-- entry j of a matrix, counted row by row
unfoldable pub entry_byte : List (List Bool) → ℕ → ℕ
entry_byte m j = bit (slice_index_or (slice_index_or m (j / max_cells) []) (j % max_cells) false)

unfoldable pub matrix_bytes : List (List Bool) → List ℕ
matrix_bytes m = tab_from 0 (max_cells * max_cells) (entry_byte m)
