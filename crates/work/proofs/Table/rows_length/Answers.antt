-- `rows_length` meets its contract: the masks of the cells passed.
use mathlib.Core.Path.{refl}
use native.Mathlib.Omega.{arith}
use Rattle.rules.specs.Words.{sum_below}
use Rattle.work.proofs.Sized.{walk_none, walk_more, size_few, size-more, rows_few, rows_all}
use Rattle.work.proofs.Table.rows_length.Goals as goal

pub loop-c-init : goal.loop-c-init
unfolding sum_below
loop-c-init c = (walk_none _ _ c.args.self.shaped, refl)

pub overflow_mul-sum : goal.overflow_mul-sum
overflow_mul-sum c =
    omega (arith, size_few _ _ _ c.loop-c.invariant.0 c.loop-c-test.true _ _ c.cell_slots.ensures c.cell_slots-in-loop-c.ensures)

pub overflow_add-sum : goal.overflow_add-sum
overflow_add-sum c =
    let x = c.loop-c.invariant in
    omega (arith, x.1, rows_few _ _ _ x.0, size_few _ _ _ x.0 c.loop-c-test.true _ _ c.cell_slots.ensures c.cell_slots-in-loop-c.ensures)

pub loop-c-preserved : goal.loop-c-preserved
loop-c-preserved c =
    let x = c.loop-c.invariant in
    let l = c.loop-c-test.true in
    (walk_more _ _ _ x.0 l, size-more _ _ _ x.0 l _ _ c.cell_slots.ensures c.cell_slots-in-loop-c.ensures _ x.1)

pub returns : goal.returns
returns c =
    rows_all _ _ _ c.loop-c.invariant.0 c.loop-c-test.false _ c.loop-c.invariant.1
