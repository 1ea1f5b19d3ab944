-- `quick_tray`: when i of n records are run, what holds of the table, the store, the bytes and the records, and of the working slice beside them.
use Rattle.calls.proofs.Going.{Going}
use Rattle.calls.proofs.GoingQuick.{Beside}
use Rattle.calls.proofs.quick_tray.Given as goal

abbrev pub invariant-loop-i : goal.invariant-loop-i
invariant-loop-i l =
    Going l.fn.table l.fn.store l.fn.bytes l.fn.records l.m l.hall l.n l.i l.table l.store l.bytes l.records
    × Beside l.fn.work l.error l.table l.work
