-- `levels::levels` meets its contract: the first c are the cells' levels and the others zero, as the levels past the last cell are.
use mathlib.Core.Path.{◌≡◌}
use Rattle.rules.specs.Words.{tab_from}
use Rattle.rules.specs.Layout.{max_cells}
use Rattle.laws.proofs.Fill.{up_to}
use Rattle.levels.proofs.Cells.{level_in, nil}
use Rattle.levels.proofs.levels.Given as goal

abbrev pub invariant-loop-c : goal.invariant-loop-c
invariant-loop-c l = l.all ≡ tab_from 0 max_cells (up_to nil (level_in l.t) l.c)
