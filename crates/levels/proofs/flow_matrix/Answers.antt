-- `levels::flow_matrix` meets its contract: the first c rows are the rule's, row c is up to its entry d, and the others are no, as the rows past the last cell are.
use mathlib.Core.Path.{refl, ◌∙◌}
use native.Mathlib.Omega.{arith}
use Rattle.rules.specs.Words.{tab_from}
use Rattle.levels.proofs.Cells.{row-begun, row_more, row_done, matrix-all}
use Rattle.levels.proofs.flow_matrix.Goals as goal

pub loop-c-init : goal.loop-c-init
unfolding tab_from
loop-c-init c = refl

pub loop-d-init : goal.loop-d-init
loop-d-init c =
    row-begun _ _ c.levels-all.result _ _
    (omega (arith, c.loop-c-test.true, c.wide-n.ensures, c.count.ensures)) c.loop-c.invariant

pub loop-d-preserved : goal.loop-d-preserved
loop-d-preserved c =
    row_more _ _ c.levels-all.result _ _ _ _ (omega arith) (omega arith) c.loop-d.invariant c.flows_from.ensures

pub loop-c-preserved : goal.loop-c-preserved
loop-c-preserved c =
    row_done _ _ (c.wide-n.ensures ∙ c.count.ensures) _ c.levels-all.ensures _ _ _
    c.loop-c-test.true c.loop-d.auto.d-end c.loop-d-test.false c.loop-d.invariant

pub returns : goal.returns
returns c =
    matrix-all _ _ (c.wide-n.ensures ∙ c.count.ensures) _ _ c.loop-c.auto.c-end c.loop-c-test.false c.loop-c.invariant
