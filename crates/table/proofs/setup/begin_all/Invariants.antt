-- `setup::begin_all` meets its contract: the first processes of the cells passed have begun.
use Rattle.std.proofs.Common.{◌-◌}
use Rattle.table.proofs.Begun.{Begun}
use Rattle.table.proofs.setup.begin_all.Given as goal

abbrev pub invariant-loop-c : goal.invariant-loop-c
invariant-loop-c l = Begun l.initial.t l.base l.c-end l.t l.slot l.c

abbrev pub decreases-loop-c : goal.decreases-loop-c
decreases-loop-c l = l.c-end - l.c
