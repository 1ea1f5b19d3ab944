-- `frame::Frame::subtypes_ok` meets its contract: `ok` says that every subtype passed is right.
use Rattle.std.proofs.Common.{sym, rules}
use Rattle.table.proofs.Loops.{all_first, all-next, all-last}
use Rattle.table.proofs.Config.{subtypes-read}
use Rattle.table.proofs.frame.Frame.subtypes_ok.Goals as goal

pub loop-i-init : goal.loop-i-init
loop-i-init c = (search rules, sym (subtypes-read _ _ c.args.self.now.framed.header), search rules, all_first _)

pub loop-i-preserved : goal.loop-i-preserved
loop-i-preserved c = (search rules, search rules, search rules, all-next _ c.loop-i.invariant.3 c.subtype_ok-ok.ensures)

pub returns : goal.returns
returns c = all-last _ c.loop-i.invariant.3 c.loop-i.invariant.0 c.loop-i-test.false c.loop-i.invariant.1
