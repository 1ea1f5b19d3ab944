-- `frame::Frame::cells_ok` meets its contract: `ok` says that every cell passed is right.
use Rattle.std.proofs.Common.{sym, ◌∙◌, rules}
use Rattle.table.proofs.Loops.{all_first, all-next, all-last}
use Rattle.table.proofs.Config.{cells-read}
use Rattle.table.proofs.frame.Frame.cells_ok.Goals as goal

pub loop-c-init : goal.loop-c-init
loop-c-init c = (search rules, c.wide-c-end.ensures ∙ sym (cells-read _ _ c.args.self.now.framed.header), all_first _)

pub loop-c-preserved : goal.loop-c-preserved
loop-c-preserved c = (search rules, search rules, all-next _ c.loop-c.invariant.2 c.cell_ok-ok.ensures)

pub returns : goal.returns
returns c = all-last _ c.loop-c.invariant.2 c.loop-c.invariant.0 c.loop-c-test.false c.loop-c.invariant.1
