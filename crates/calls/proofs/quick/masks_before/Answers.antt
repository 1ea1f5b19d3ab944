-- `quick::masks_before` meets its contract: the sum of the cells passed.
use mathlib.Core.Path.{◌≡◌}
use Rattle.calls.proofs.QuickPlaces.{rows_none, rows_more, row_fits, rows_fit}
use native.Mathlib.Omega.{arith}
use Rattle.calls.proofs.quick.masks_before.Goals as goal

pub loop-i-init : goal.loop-i-init
loop-i-init c = rows_none _

pub overflow_mul-words : goal.overflow_mul-words
overflow_mul-words c =
    record {
      fits = omega (arith, row_fits c.requires.0 c.loop-i.i (omega arith) c.in_cell.ensures c.in_cell-in-loop-i.ensures);
    }

pub overflow_add-words : goal.overflow_add-words
overflow_add-words c =
    omega (
      arith,
      c.loop-i.invariant,
      row_fits c.requires.0 c.loop-i.i (omega arith) c.in_cell.ensures c.in_cell-in-loop-i.ensures,
      rows_fit c.requires.0 c.loop-i.i (omega arith),
    )

pub loop-i-preserved : goal.loop-i-preserved
loop-i-preserved c = rw (c.loop-i.invariant, c.in_cell.ensures, c.in_cell-in-loop-i.ensures) (rows_more _ _)

pub returns : goal.returns
returns c =
    let e : c.loop-i.i ≡ c.args.c = omega arith in (
      rw e at c.loop-i.invariant,
      omega (arith, c.loop-i.invariant, rows_fit c.requires.0 c.loop-i.i (omega arith)),
    )
