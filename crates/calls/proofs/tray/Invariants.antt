-- `tray`: when i of n records are run, what holds of the table, the store, the bytes and the records.
use Rattle.calls.proofs.Going.{Going}
use Rattle.calls.proofs.tray.Given as goal

abbrev pub invariant-loop-i : goal.invariant-loop-i
invariant-loop-i l =
    Going l.fn.table l.fn.store l.fn.bytes l.fn.records l.m l.hall l.n l.i l.table l.store l.bytes l.records
