-- `levels::flow_matrix` meets its contract: the first c rows are the rule's, row c is up to its entry d, and the others are no, as the rows past the last cell are.
use mathlib.Core.Path.{◌≡◌}
use lib.ListN.{set}
use Rattle.levels.proofs.Cells.{row_to, rows_to}
use Rattle.levels.proofs.flow_matrix.Given as goal

abbrev pub invariant-loop-d : goal.invariant-loop-d
invariant-loop-d l = l.m ≡ set (rows_to l.t l.c) l.c (row_to l.all l.from l.d)

abbrev pub invariant-loop-c : goal.invariant-loop-c
invariant-loop-c l = l.m ≡ rows_to l.t l.c
