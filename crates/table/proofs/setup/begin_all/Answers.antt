-- `setup::begin_all` meets its contract: the first processes of the cells passed have begun.
use Rattle.std.proofs.Common.{refl, arith}
use Rattle.table.proofs.Begun.{begun-none, begun-long, begun-low, cell_in, record-in, slot-in, begun_more, begun_all}
use Rattle.table.proofs.setup.begin_all.Goals as goal

pub loop-c-init : goal.loop-c-init
loop-c-init c = rw c.wide-c-end.ensures (begun-none _ _ _ c.requires.0 c.requires.1 c.base-base.ensures.0)

pub overflow_mul-cell : goal.overflow_mul-cell
overflow_mul-cell c = omega (arith, begun-low _ _ _ _ _ _ c.loop-c.invariant, cell_in _ _ _ _ _ _ c.loop-c.invariant c.loop-c-test.true)

pub overflow_add-cell : goal.overflow_add-cell
overflow_add-cell c = omega (arith, begun-low _ _ _ _ _ _ c.loop-c.invariant, cell_in _ _ _ _ _ _ c.loop-c.invariant c.loop-c-test.true)

pub overflow_add-cell-in-loop-c : goal.overflow_add-cell-in-loop-c
overflow_add-cell-in-loop-c c = omega (arith, begun-low _ _ _ _ _ _ c.loop-c.invariant, cell_in _ _ _ _ _ _ c.loop-c.invariant c.loop-c-test.true)

pub offset_bounds-t-cell : goal.offset_bounds-t-cell
offset_bounds-t-cell c = omega (arith, begun-low _ _ _ _ _ _ c.loop-c.invariant, cell_in _ _ _ _ _ _ c.loop-c.invariant c.loop-c-test.true)

pub bounds-t-cell : goal.bounds-t-cell
bounds-t-cell c = omega (arith, cell_in _ _ _ _ _ _ c.loop-c.invariant c.loop-c-test.true)

pub overflow_add-owner : goal.overflow_add-owner
overflow_add-owner c =
    omega (arith, begun-low _ _ _ _ _ _ c.loop-c.invariant, cell_in _ _ _ _ _ _ c.loop-c.invariant c.loop-c-test.true)

pub offset_bounds-t-cell-in-loop-c : goal.offset_bounds-t-cell-in-loop-c
offset_bounds-t-cell-in-loop-c c =
    omega (arith, begun-low _ _ _ _ _ _ c.loop-c.invariant, cell_in _ _ _ _ _ _ c.loop-c.invariant c.loop-c-test.true)

pub bounds-t-cell-in-loop-c : goal.bounds-t-cell-in-loop-c
bounds-t-cell-in-loop-c c =
    omega (arith, cell_in _ _ _ _ _ _ c.loop-c.invariant c.loop-c-test.true)

pub overflow_add-group : goal.overflow_add-group
overflow_add-group c =
    omega (arith, begun-low _ _ _ _ _ _ c.loop-c.invariant, cell_in _ _ _ _ _ _ c.loop-c.invariant c.loop-c-test.true)

pub offset_bounds-t-cell-in-loop-c-2 : goal.offset_bounds-t-cell-in-loop-c-2
offset_bounds-t-cell-in-loop-c-2 c =
    omega (arith, begun-low _ _ _ _ _ _ c.loop-c.invariant, cell_in _ _ _ _ _ _ c.loop-c.invariant c.loop-c-test.true)

pub bounds-t-cell-in-loop-c-2 : goal.bounds-t-cell-in-loop-c-2
bounds-t-cell-in-loop-c-2 c =
    omega (arith, cell_in _ _ _ _ _ _ c.loop-c.invariant c.loop-c-test.true)

pub overflow_mul-slot : goal.overflow_mul-slot
overflow_mul-slot c =
    omega (arith, begun-low _ _ _ _ _ _ c.loop-c.invariant, record-in _ _ _ _ _ _ c.loop-c.invariant c.loop-c-test.true)

pub overflow_add-base : goal.overflow_add-base
overflow_add-base c =
    omega (arith, begun-low _ _ _ _ _ _ c.loop-c.invariant, record-in _ _ _ _ _ _ c.loop-c.invariant c.loop-c-test.true)

pub begin-requires : goal.begin-requires
begin-requires c =
    omega (arith, record-in _ _ _ _ _ _ c.loop-c.invariant c.loop-c-test.true)

pub overflow_add-slot : goal.overflow_add-slot
overflow_add-slot c =
    omega (
      arith,
      slot-in _ _ _ _ _ _ c.loop-c.invariant c.loop-c-test.true _
          c.wide-processes.ensures,
    )

pub overflow_step-c : goal.overflow_step-c
overflow_step-c c =
    omega (arith, c.loop-c-test.true)

pub loop-c-preserved : goal.loop-c-preserved
loop-c-preserved c =
    begun_more _ _ _ _ _ _ c.loop-c.invariant c.loop-c-test.true _ _ _ _ c.wide-processes.ensures refl refl
    c.begin.ensures

pub shape_of-t : goal.shape_of-t
shape_of-t c = begun-long _ _ _ _ _ _ c.loop-c.invariant

pub returns : goal.returns
returns c = begun_all _ _ _ _ _ _ c.loop-c.invariant c.loop-c-test.false
