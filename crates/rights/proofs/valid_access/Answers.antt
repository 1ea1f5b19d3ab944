-- `rights::valid_access` meets its contract: the code's test is the rule's.
use Rattle.std.proofs.Common.{arith}
use Rattle.std.proofs.lemmas.Bool.Decides.{nat_tests}
use Rattle.rules.specs.Rights.{valid_access}
use Rattle.rights.proofs.valid_access.Goals as goal

pub returns-in-0 : goal.returns-in-0
unfolding valid_access
returns-in-0 c = grind (arith, nat_tests)

pub returns-in_default : goal.returns-in_default
unfolding valid_access
returns-in_default c = grind (arith, nat_tests)
