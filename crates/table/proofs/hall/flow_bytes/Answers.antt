-- `hall::flow_bytes` meets its contract: the rows passed are there, and of this row the entries passed.
use Rattle.std.proofs.Common.{◌∙◌, arith, rules}
use Rattle.table.proofs.Told.{entries_none, entries-more, entries-same, entries-all}
use Rattle.table.proofs.Listed.{bool-number}
use Rattle.table.proofs.hall.flow_bytes.Goals as goal

pub loop-c-init : goal.loop-c-init
loop-c-init c = (search rules, entries_none _ _ (search rules))

pub loop-d-init : goal.loop-d-init
loop-d-init c = (search rules, entries-same _ (omega arith) c.loop-c.invariant.1)

pub loop-d-preserved : goal.loop-d-preserved
loop-d-preserved c =
    let in-matrix = c.loop-c-test.true in
    let in_row = c.loop-d-test.true in
    (search rules, entries-more _ _ _ _ _ in-matrix in_row c.loop-d.invariant.1 (c.from.ensures ∙ bool-number _))

pub loop-c-preserved : goal.loop-c-preserved
loop-c-preserved c =
    let row_ends = c.loop-d-test.false in
    (search rules, entries-same _ (omega (arith, row_ends, c.loop-d.invariant.0)) c.loop-d.invariant.1)

pub returns : goal.returns
returns c = entries-all _ _ _ (omega (arith, c.loop-c-test.false)) c.loop-c.invariant.1
