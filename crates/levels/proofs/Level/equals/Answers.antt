-- `Level::equals` meets its contract: the derived equality of the three words is the rule's.
use borrow.Author.Rules.{rules}
use Rattle.rules.specs.Level.{equals}
use Rattle.levels.proofs.Level.equals.Goals as goal

pub returns : goal.returns
unfolding equals
returns c = search rules
