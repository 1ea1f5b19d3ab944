-- `rights::may_read` meets its contract: the code's test is the rule's.
use borrow.Author.Rules.{rules}
use Rattle.rules.specs.Rights.{may_read}
use Rattle.rights.proofs.may_read.Goals as goal

pub returns : goal.returns
unfolding may_read
returns c = search rules
