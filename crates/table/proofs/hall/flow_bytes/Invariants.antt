-- `hall::flow_bytes` meets its contract: the rows passed are there, and of this row the entries passed.
use Rattle.std.proofs.Common.{◌+◌, ◌-◌, ◌*◌, ◌≤◌}
use Rattle.rules.specs.Layout.{max_cells}
use Rattle.table.proofs.Told.{EntriesTo}
use Rattle.table.proofs.hall.flow_bytes.Given as goal

abbrev pub invariant-loop-d : goal.invariant-loop-d
invariant-loop-d l = (l.d ≤ max_cells) × EntriesTo l.flow (max_cells * l.c + l.d) l.bytes

abbrev pub decreases-loop-d : goal.decreases-loop-d
decreases-loop-d l = max_cells - l.d

abbrev pub invariant-loop-c : goal.invariant-loop-c
invariant-loop-c l = (l.c ≤ max_cells) × EntriesTo l.flow (max_cells * l.c) l.bytes

abbrev pub decreases-loop-c : goal.decreases-loop-c
decreases-loop-c l = max_cells - l.c
