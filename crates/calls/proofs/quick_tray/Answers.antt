-- `quick_tray` meets its contract: the records that are due are run in order by the quick engine, and the working slice stays the table's.
use native.Mathlib.Omega.{arith}
use Rattle.calls.proofs.QuickLaws.{slice-some}
use Rattle.calls.proofs.Going.{no_record, start, more, due-fits, good-if-due}
use Rattle.calls.proofs.GoingQuick.{answer-quick, ready-quick, start-beside, more-beside, ends-quick}
use Rattle.calls.proofs.quick_tray.Goals as goal

pub loop-i-init : goal.loop-i-init
loop-i-init c =
    let x = c.args in (
      start _ _ _ _ _ _ _ (due-fits _ _ _ c.due-n.ensures)
          (ready-quick x.table.now x.store.now x.work.now x.records.now c.begin_quick-hall.result c.begin_quick-hall.ensures
          c.verdict-error.result c.verdict-error.ensures c.matrix_in-m.result c.matrix_in-m.ensures c.due-n.result c.due-n.ensures),
      start-beside x.table.now x.store.now x.work.now x.records.now c.begin_quick-hall.result c.begin_quick-hall.ensures
          c.verdict-error.result c.verdict-error.ensures,
    )

pub loop-i-preserved : goal.loop-i-preserved
loop-i-preserved c =
    let good = good-if-due c.verdict-error.result c.due-n.result _ c.due-n.ensures (omega (arith, c.loop-i-test.true)) in (
      more _ _ _ _ _ _ _ _ _ _ _ _ c.loop-i.invariant.0 _ _ _ _ _ c.loop-i-test.true c.run.ensures.ran c.run.auto.t
          c.run.auto.store c.run.auto.bytes,
      more-beside _ _ _ _ _ _ c.loop-i.invariant.1 good c.run.auto.w
          (c.run.ensures.right_in (omega (arith, c.run.auto.w, slice-some (c.loop-i.invariant.0.ready c.loop-i-test.true) _ (c.loop-i.invariant.1.right good)))),
    )

pub run-requires : goal.run-requires
run-requires c =
    let good = good-if-due c.verdict-error.result c.due-n.result _ c.due-n.ensures (omega (arith, c.loop-i-test.true)) in
    (c.loop-i.invariant.0.ready c.loop-i-test.true, λ l. c.loop-i.invariant.1.right good)

pub returns : goal.returns
returns c =
    let x = c.args in
    let answer = answer-quick x.table.now x.store.now x.work.now x.records.now c.begin_quick-hall.result c.begin_quick-hall.ensures
    c.verdict-error.result c.verdict-error.ensures in
    ends-quick _ _ _ _ _ _ _ _ _ _ _ _ _ _ c.loop-i.invariant.0 no_record c.loop-i-test.false c.verdict-error.result c.loop-i.invariant.1
    answer c.due-n.ensures
