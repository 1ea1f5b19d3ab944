-- `quick::list_anew` meets its contract: the list of the run of the cell.
use Rattle.calls.proofs.QuickSteps.{list-told}
use Rattle.layout.specs.Kinds.{kind_of}
use Rattle.calls.proofs.quick.list_anew.Goals as goal

pub returns : goal.returns
returns c =
    list-told c.requires.0 (kind_of c.args.kind) _ c.requires.1 c.run_of-run.ensures.from c.run_of-run.ensures.count _ c.list_at-at.ensures
    c.relist.ensures
