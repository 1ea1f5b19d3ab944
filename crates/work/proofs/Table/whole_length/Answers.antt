-- `whole_length` meets its contract: the lists' words and the masks'.
use Rattle.work.proofs.Whole.{whole_long}
use Rattle.work.proofs.Table.whole_length.Goals as goal

pub returns : goal.returns
returns c =
    whole_long _ _ c.args.self.shaped _ _ _ c.rows_at.ensures.0 c.rows_length.ensures.0 (rw c.wide.ensures)
