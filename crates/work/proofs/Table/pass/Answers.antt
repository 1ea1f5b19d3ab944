-- `pass` meets its contract: the four parts are passed.
use Rattle.work.proofs.Whole.{all-passed}
use Rattle.work.proofs.Table.pass.Goals as goal

pub returns : goal.returns
returns g c =
    let table = c.args.self in
    all-passed _ _ table.shaped g.met.P.Pass.in_turn _ _ _ _ _ c.pass_lists.ensures c.pass_lists-2.ensures c.pass_lists-3.ensures c.pass_rows.ensures
