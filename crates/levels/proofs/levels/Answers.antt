-- `levels::levels` meets its contract: the first c are the cells' levels and the others zero, as the levels past the last cell are.
use mathlib.Core.Path.{refl, ap}
use native.Mathlib.Omega.{arith}
use Rattle.rules.specs.Words.{tab_from}
use Rattle.rules.specs.Layout.{max_cells}
use Rattle.laws.proofs.Fill.{up_to-more}
use Rattle.levels.specs.Rule.{code_level}
use Rattle.levels.proofs.Cells.{level_in, nil, default_nil, levels-all}
use Rattle.levels.proofs.levels.Goals as goal

pub loop-c-init : goal.loop-c-init
unfolding tab_from
loop-c-init c = rw (default_nil _ c.default-all.ensures) refl

pub loop-c-preserved : goal.loop-c-preserved
loop-c-preserved c =
    up_to-more nil (level_in c.args.t.now) max_cells _ _ _ (omega (arith, c.count-c-end.ensures)) c.loop-c.invariant
    (ap code_level c.level_at.ensures)

pub returns : goal.returns
returns c = levels-all _ _ _ _ c.count-c-end.ensures c.loop-c-test.false c.loop-c.invariant
