-- `pass_rows` meets its contract: the masks of the cells before c are passed.
use native.Mathlib.Omega.{arith}
use Rattle.work.proofs.Joined.{pass-none}
use Rattle.work.proofs.Masked.{passed_none, passed-more, few-passed, processes-few, files-few, rows-size-few, cell-passed, all-rows}
use Rattle.work.proofs.Table.pass_rows.Goals as goal

pub loop-c-init : goal.loop-c-init
loop-c-init g c = (passed_none _ _ c.args.self.shaped _, pass-none g.met.P.Pass.in_turn _ _ _)

pub invariant_of-processes : goal.invariant_of-processes
invariant_of-processes g c =
    record { few = processes-few _ _ _ _ _ _ _ c.loop-c.invariant.0 c.loop-c-test.true _ _ c.cell_slots.ensures c.cell_slots-in-loop-c.ensures }

pub invariant_of-files : goal.invariant_of-files
invariant_of-files g c =
    record { few = files-few _ _ _ _ _ _ _ c.loop-c.invariant.0 c.loop-c-test.true _ _ c.cell_slots.ensures c.cell_slots-in-loop-c.ensures }

pub pass_cell-requires : goal.pass_cell-requires
pass_cell-requires g c =
    few-passed _ _ c.args.self.shaped.framed.small _ _ _ _ _ _ c.rows_at-at.ensures.0 c.loop-c.invariant.0

pub overflow_add-at : goal.overflow_add-at
overflow_add-at g c =
    let x = c.loop-c.invariant.0 in
    let size = rows-size-few _ _ _ _ _ _ _ x c.loop-c-test.true _ _ c.cell_slots.ensures c.cell_slots-in-loop-c.ensures in
    omega (arith, few-passed _ _ c.args.self.shaped.framed.small _ _ _ _ _ _ c.rows_at-at.ensures.0 x, size)

pub loop-c-preserved : goal.loop-c-preserved
loop-c-preserved g c =
    let x = c.loop-c.invariant.0 in
    let l = c.loop-c-test.true in
    let a = c.cell_slots.ensures in
    let b = c.cell_slots-in-loop-c.ensures in
    let table = c.args.self in (
      passed-more _ _ _ _ _ _ _ x l _ _ a b,
      cell-passed _ _ _ _ _ _ _ x l _ _ a b table.n table.shaped.framed.header g.met.P.Pass.in_turn _ _ _ c.loop-c.invariant.1 c.pass_cell.ensures,
    )

pub returns : goal.returns
returns g c =
    rw (c.rows_at-at.ensures.0, all-rows _ _ _ _ _ _ _ c.loop-c.invariant.0 c.loop-c-test.false) at c.loop-c.invariant.1
