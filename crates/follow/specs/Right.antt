-- Where the words of a working slice stand, and when it is right; h is the configuration, r what the table holds.
use Rattle.std.specs.Prelude.{◌≡◌, List, ℕ, ◌+◌, ◌*◌, ◌-◌, ◌<◌, length, get_or}
use Rattle.rules.specs.Words.{sum_below}
use Rattle.rules.specs.Layout.{Kind, process, segment, file, cells, cell_slots, first_slot, cell_of, Addr, entries}
use Rattle.rules.specs.Work.{free_keys, mask, names}
use Rattle.lists.specs.Region.{Shows}

-- the words of a kind's lists: a count a cell, and a word a slot
unfoldable pub runs : List ℕ → Kind → ℕ
runs h k = first_slot h k (cells h) + cells h

-- where they begin
abbrev pub kind_at : List ℕ → Kind → ℕ
kind_at h process = 0
kind_at h segment = runs h process
kind_at h file = runs h process + runs h segment

-- where a cell's list begins
unfoldable pub list_at : List ℕ → Kind → ℕ → ℕ
list_at h k c = kind_at h k + (first_slot h k c + c)

-- where the masks begin, and how many words the cells before c have of them
unfoldable pub rows_at : List ℕ → ℕ
rows_at h = runs h process + runs h segment + runs h file

unfoldable pub rows_to : List ℕ → ℕ → ℕ
rows_to h c = sum_below c (λ c. cell_slots h process c * cell_slots h file c)

-- the mask of file f and process i of cell c, both counted within the cell
unfoldable pub mark_at : List ℕ → ℕ → ℕ → ℕ → ℕ
mark_at h c f i = rows_at h + rows_to h c + (i * cell_slots h file c + f)

-- the mask of process p, for a file slot of its cell
unfoldable pub mark_of : List ℕ → ℕ → ℕ → ℕ
mark_of h p f = mark_at h (cell_of h process p) (f - first_slot h file (cell_of h process p)) (p - first_slot h process (cell_of h process p))

-- the working slice is the table's
pub record Right (h : List ℕ) (r : Addr → ℕ) (w : List ℕ) : Type 0 where
  pub size : length w ≡ rows_at h + rows_to h (cells h)
  pub lists : (k : Kind) (c : ℕ) → c < cells h → Shows w (list_at h k c) (cell_slots h k c) (free_keys h r k c)
  pub marks : (c f i : ℕ) → c < cells h → f < cell_slots h file c → i < cell_slots h process c
      → get_or w (mark_at h c f i) 0 ≡ mask (names r (first_slot h process c + i) (first_slot h file c + f)) entries 0
