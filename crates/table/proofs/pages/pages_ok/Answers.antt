-- `pages::pages_ok` meets its contract: `ok` says that every page passed is right.
use Rattle.std.proofs.Common.{refl, rules}
use Rattle.table.proofs.Loops.{all_first, all-next, all-last}
use Rattle.table.proofs.pages.pages_ok.Goals as goal

pub loop-g-init : goal.loop-g-init
loop-g-init c = (search rules, all_first _)

pub loop-g-preserved : goal.loop-g-preserved
loop-g-preserved c = (search rules, all-next _ c.loop-g.invariant.1 c.page_ok-ok.ensures)

pub returns : goal.returns
returns c = all-last _ c.loop-g.invariant.1 c.loop-g.invariant.0 c.loop-g-test.false refl
