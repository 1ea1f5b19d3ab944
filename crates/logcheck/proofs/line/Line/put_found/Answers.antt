-- `Line::put_found` puts the line of what `checker::found` gives: there is room for it.
use Rattle.std.proofs.Common.{rules}
use Rattle.logcheck.proofs.Said.{line-put}
use Rattle.logcheck.proofs.line.Line.put_found.Goals as goal

pub returns : goal.returns
returns c = line-put _ _ _ _ (search rules) c.put_finding-self.ensures
