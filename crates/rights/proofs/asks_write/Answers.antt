-- `rights::asks_write` meets its contract: the code's test is the rule's.
use borrow.Author.Rules.{rules}
use Rattle.rules.specs.Rights.{asks_write}
use Rattle.rights.proofs.asks_write.Goals as goal

pub returns : goal.returns
unfolding asks_write
returns c = search rules
