-- `runs::slot_cells` meets its contract: the runs of the cells passed are filled, and what lies past them is still 0.
use Rattle.std.proofs.Common.{◌≡◌, ◌-◌, ◌≤◌, length}
use Rattle.rules.specs.Layout.{max_slots, Kind, cells, cell_slots_word, first_slot}
use Rattle.table.specs.Frame.{conf}
use Rattle.table.proofs.Filled.{cells_to}
use Rattle.table.proofs.runs.slot_cells.Given as goal

abbrev pub invariant-loop-c : goal.invariant-loop-c
invariant-loop-c l =
    (l.c ≤ l.c-end) × (l.c-end ≡ cells (conf l.frame)) × (length l.of ≡ max_slots) × (l.i ≤ max_slots)
    × ((κ : Kind) → cell_slots_word κ ≡ l.k → (l.i ≡ first_slot (conf l.frame) κ l.c) × (l.of ≡ cells_to (conf l.frame) κ l.i))

abbrev pub decreases-loop-c : goal.decreases-loop-c
decreases-loop-c l = l.c-end - l.c
