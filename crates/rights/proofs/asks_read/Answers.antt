-- `rights::asks_read` meets its contract: the code's test is the rule's.
use borrow.Author.Rules.{rules}
use Rattle.rules.specs.Rights.{asks_read}
use Rattle.rights.proofs.asks_read.Goals as goal

pub returns : goal.returns
unfolding asks_read
returns c = search rules
