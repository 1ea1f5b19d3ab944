-- `tray` meets its contract: the records that are due are run in order, on a table that is judged once.
use Rattle.calls.proofs.Going.{no_record, start, more, ends, due-fits, answer-is, ready-if-due}
use Rattle.calls.proofs.tray.Goals as goal

pub loop-i-init : goal.loop-i-init
loop-i-init c =
    let x = c.args in
    (start _ _ _ _ _ _ _ (due-fits _ _ _ c.due-n.ensures)
    (ready-if-due x.table.now x.store.now x.records.now c.begin-hall.result c.begin-hall.ensures c.verdict-error.result
    c.verdict-error.ensures c.matrix_in-m.result c.matrix_in-m.ensures c.due-n.result c.due-n.ensures))

pub loop-i-preserved : goal.loop-i-preserved
loop-i-preserved c =
    more _ _ _ _ _ _ _ _ _ _ _ _ c.loop-i.invariant _ _ _ _ _ c.loop-i-test.true c.run.ensures.ran c.run.auto.t c.run.auto.store
    c.run.auto.bytes

pub returns : goal.returns
returns c =
    let x = c.args in
    let answer = answer-is x.table.now x.store.now x.records.now c.begin-hall.result c.begin-hall.ensures c.verdict-error.result
    c.verdict-error.ensures in
    ends _ _ _ _ _ _ _ _ _ _ _ _ c.loop-i.invariant no_record c.loop-i-test.false c.verdict-error.result answer c.due-n.ensures
