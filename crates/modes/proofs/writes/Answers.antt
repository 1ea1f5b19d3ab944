-- `modes::writes` meets its contract: the code's test is the rule's.
use borrow.Author.Rules.{rules}
use Rattle.rules.specs.Modes.{writes}
use Rattle.modes.proofs.writes.Goals as goal

pub returns : goal.returns
unfolding writes
returns c = search rules
