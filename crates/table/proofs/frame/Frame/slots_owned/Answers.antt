-- `frame::Frame::slots_owned` meets its contract: the sum of the cells passed, which fits since each word does.
use Rattle.std.proofs.Common.{sym, ◌∙◌, arith, rules}
use Rattle.rules.specs.Layout.{cell_at}
use Rattle.table.proofs.Loops.{sum_first, sum-next, sum-last}
use Rattle.table.proofs.Config.{cells-read, cell-word}
use Rattle.table.proofs.frame.Frame.slots_owned.Goals as goal

pub loop-c-init : goal.loop-c-init
loop-c-init c = (search rules, c.wide-c-end.ensures ∙ sym (cells-read _ _ c.args.self.now.framed.header), sum_first _, search rules)

pub overflow_mul-c : goal.overflow_mul-c
overflow_mul-c c =
    omega (arith, c.wide-c-end.ensures, c.loop-c-test.true, c.args.self.now.framed.small.few-cells)

pub overflow_add-c : goal.overflow_add-c
overflow_add-c c =
    omega (arith, c.wide-c-end.ensures, c.loop-c-test.true, c.args.self.now.framed.small.few-cells)

pub overflow_add-c-in-loop-c : goal.overflow_add-c-in-loop-c
overflow_add-c-in-loop-c c =
    omega (arith, c.wide-c-end.ensures, c.loop-c-test.true, c.args.self.now.framed.small.few-cells, c.requires)

pub offset_bounds-t-c : goal.offset_bounds-t-c
offset_bounds-t-c c =
    omega (arith, c.wide-c-end.ensures, c.loop-c-test.true, c.args.self.now.framed.small.few-cells, c.requires)

pub bounds-t-c : goal.bounds-t-c
bounds-t-c c =
    omega (arith, c.wide-c-end.ensures, c.loop-c-test.true, c.args.self.now.framed.exact, c.requires)

pub overflow_add-sum : goal.overflow_add-sum
overflow_add-sum c =
    omega (
      arith,
      c.wide-sum.ensures,
      c.loop-c.invariant.3,
      c.wide-c-end.ensures,
      c.loop-c-test.true,
      c.args.self.now.framed.small.few-cells,
      c.shared_slice_known-1.given (cell_at c.loop-c.c c.args.k),
    )

pub loop-c-preserved : goal.loop-c-preserved
loop-c-preserved c =
    let l = c.loop-c in (
      search rules,
      search rules,
      sum-next _ l.invariant.2 (c.wide-sum.ensures ∙ sym (cell-word c.args.self.now.t.now l.c c.args.k
          (omega (arith, c.wide-c-end.ensures, c.loop-c-test.true, c.args.self.now.framed.header.cells_is)) c.requires)),
      omega (arith, c.wide-sum.ensures, l.invariant.3, c.shared_slice_known-1.given (cell_at l.c c.args.k)),
    )

pub returns : goal.returns
returns c = sum-last _ c.loop-c.invariant.2 c.loop-c.invariant.0 c.loop-c-test.false c.loop-c.invariant.1
