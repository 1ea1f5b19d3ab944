-- `room::cell_by` meets its contract: of the cells passed, those before the slot's own end at or before the slot.
use Rattle.calls.proofs.Worlds.{Passed}
use Rattle.calls.proofs.room.cell_by.Given as goal

abbrev pub invariant-loop-c : goal.invariant-loop-c
invariant-loop-c l = Passed l.t l.k l.i l.n l.end l.cell l.c
