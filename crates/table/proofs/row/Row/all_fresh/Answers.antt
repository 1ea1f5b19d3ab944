-- `row::Row::all_fresh` meets its contract: `ok` says that every entry passed is fresh.
use Rattle.std.proofs.Common.{refl, rules}
use Rattle.table.proofs.Loops.{all_first, all-next, all-last}
use Rattle.table.proofs.row.Row.all_fresh.Goals as goal

pub loop-e-init : goal.loop-e-init
loop-e-init c = (search rules, all_first _)

pub loop-e-preserved : goal.loop-e-preserved
loop-e-preserved c = (search rules, all-next _ c.loop-e.invariant.1 c.is_fresh-ok.ensures)

pub returns : goal.returns
returns c = all-last _ c.loop-e.invariant.1 c.loop-e.invariant.0 c.loop-e-test.false refl
