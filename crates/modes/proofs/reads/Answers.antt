-- `modes::reads` meets its contract: the code's test is the rule's.
use borrow.Author.Rules.{rules}
use Rattle.rules.specs.Modes.{reads}
use Rattle.modes.proofs.reads.Goals as goal

pub returns : goal.returns
unfolding reads
returns c = search rules
