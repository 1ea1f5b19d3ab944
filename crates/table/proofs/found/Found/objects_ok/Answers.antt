-- `found::Found::objects_ok` meets its contract: `ok` says that every object passed is right.
use Rattle.std.proofs.Common.{◌∙◌, arith, rules}
use Rattle.rules.specs.WellFormed.{own_entries}
use Rattle.table.proofs.Loops.{all_first, all-next, all-last}
use Rattle.table.proofs.found.Found.objects_ok.Goals as goal

pub loop-i-init : goal.loop-i-init
loop-i-init c = (search rules, c.slots-i-end.ensures.value, all_first _)

pub object_ok-ok-requires : goal.object_ok-ok-requires
unfolding own_entries
object_ok-ok-requires c =
    let l = c.loop-i in
    (omega (arith, l.invariant.1), c.from.ensures ∙ c.requires.exact l.i (omega (arith, l.invariant.1)))

pub loop-i-preserved : goal.loop-i-preserved
loop-i-preserved c =
    (search rules, search rules, all-next _ c.loop-i.invariant.2 c.object_ok-ok.ensures)

pub returns : goal.returns
returns c = all-last _ c.loop-i.invariant.2 c.loop-i.invariant.0 c.loop-i-test.false c.loop-i.invariant.1
