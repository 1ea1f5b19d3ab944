-- `checker::Check::waiting` meets its contract: past the end of the output nothing waits.
use Rattle.checker.proofs.Ways.{part}
use Rattle.checker.proofs.Check.waiting.Goals as goal

pub returns : goal.returns
returns c = part _ _ _ _ _ c.min-end.ensures c.min.ensures
