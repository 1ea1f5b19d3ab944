-- `rights::may_write` meets its contract: the code's test is the rule's.
use borrow.Author.Rules.{rules}
use Rattle.rules.specs.Rights.{may_write}
use Rattle.rights.proofs.may_write.Goals as goal

pub returns : goal.returns
unfolding may_write
returns c = search rules
