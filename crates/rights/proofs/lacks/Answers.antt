-- `rights::lacks` meets its contract: the code's tests are the rule's.
use Rattle.rules.specs.Rights.{lacks}
use Rattle.rights.proofs.lacks.Goals as goal

pub returns : goal.returns
unfolding lacks
returns c = rw (c.may_write.ensures, c.may_read.ensures)
