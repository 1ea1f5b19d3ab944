-- `rows_length` meets its contract: the masks of the cells passed.
use mathlib.Core.Path.{◌≡◌}
use Rattle.rules.specs.Words.{sum_below}
use Rattle.work.specs.Parts.{rows_size}
use Rattle.work.proofs.Sized.{Walk}
use Rattle.work.proofs.Table.rows_length.Given as goal

abbrev pub invariant-loop-c : goal.invariant-loop-c
invariant-loop-c l = Walk l.self.t.now l.c-end l.c × (l.sum ≡ sum_below l.c (rows_size l.self.t.now))
