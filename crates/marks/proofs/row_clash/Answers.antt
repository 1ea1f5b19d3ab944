-- `row_clash` meets its contract: no mask passed names a descriptor that clashes.
use Rattle.marks.proofs.Steps.{row-hit, row-missed}
use native.Mathlib.Omega.{arith}
use Rattle.marks.proofs.row_clash.Goals as goal

pub returns-then-mask_clash : goal.returns-then-mask_clash
returns-then-mask_clash c =
    row-hit c.loop-i.invariant.1 c.entry_at-held.ensures.0 c.wide-row.ensures c.wide-width.ensures c.wide-i-end.ensures
    (omega arith) c.word-mask.ensures c.mask_clash.ensures c.if-mask_clash.true

pub returns : goal.returns
returns c =
    row-missed c.loop-i.invariant.1 c.entry_at-held.ensures.0 c.wide-row.ensures c.wide-width.ensures c.wide-i-end.ensures (omega arith)
