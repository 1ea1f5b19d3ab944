-- Where the parts of a working slice begin, by the header's numbers; the masks of a cell, in the table's words; and whether a part stands where it should.
use Rattle.std.specs.Prelude.{Bool, List, ℕ, ◌+◌, ◌*◌, length}
use Rattle.rules.specs.Words.{part}
use Rattle.rules.specs.Layout.{Kind, process, segment, file, cells, cell_slots, configuration, held_at, rd}
use Rattle.rules.specs.Work.{joined, lists, rows}
use Rattle.rules.specs.Quick.{same_words}
use Rattle.layout.specs.declared.Header.{Header}
use Rattle.layout.specs.Header.{record_of}
use Rattle.marks.specs.Masks.{masks_at}

-- the lists of a kind: each cell's has a word a slot, and a count
abbrev pub lists_at : Header → Kind → ℕ
lists_at n process = 0
lists_at n segment = n.processes + n.cells
lists_at n file = n.processes + n.segments + 2 * n.cells

-- the masks
abbrev pub rows_at : Header → ℕ
rows_at n = n.processes + n.segments + n.files + 3 * n.cells

-- how many words the masks of a cell have
unfoldable pub rows_size : List ℕ → ℕ → ℕ
rows_size t c = cell_slots (configuration t) process c * cell_slots (configuration t) file c

-- a table's: the lists of a kind, the masks of a cell, and those of all cells
abbrev pub lists_in : List ℕ → Kind → List ℕ
lists_in t = lists (configuration t) (rd (configuration t) t)

abbrev pub rows_in : List ℕ → ℕ → List ℕ
rows_in t = rows (configuration t) (rd (configuration t) t)

abbrev pub all_rows : List ℕ → List ℕ
all_rows t = joined (cells (configuration t)) (rows_in t)

-- the masks of so many processes from p on, for so many files from f on
unfoldable pub rows_from : List ℕ → Header → ℕ → ℕ → ℕ → ℕ → List ℕ
rows_from t n p processes f files = joined processes (λ i. masks_at t (record_of n process (p + i) + held_at file 0) files f)

-- the words of w from a place on are those of l
unfoldable pub stands_at : List ℕ → ℕ → List ℕ → Bool
stands_at w at l = same_words (part w at (length l)) l
