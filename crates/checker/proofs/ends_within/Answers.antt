-- `checker::ends_within` meets its contract: its last byte decides, where it has one.
use Rattle.checker.proofs.Ways.{ends-last, ends-empty}
use Rattle.checker.proofs.ends_within.Goals as goal

pub returns-in-empty : goal.returns-in-empty
returns-in-empty c = ends-empty _ _ c.in-empty.len_below

pub returns-in-len1-up : goal.returns-in-len1-up
returns-in-len1-up c = ends-last _ _ c.in-len1-up.len_at_least
