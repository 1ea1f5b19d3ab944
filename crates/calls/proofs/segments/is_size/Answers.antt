-- `segments::is_size` meets its contract.
use borrow.Author.Rules.{rules}
use native.Mathlib.Omega.{arith}
use Rattle.std.proofs.lemmas.Bool.Decides.{nat_tests}
use borrow.Author.Tests.{tests}
use Rattle.rules.specs.WellFormed.{segment_size}
use Rattle.calls.proofs.segments.is_size.Goals as goal

pub returns-then-n-eq0 : goal.returns-then-n-eq0
unfolding segment_size
returns-then-n-eq0 c = let v = c.contains.ensures.cases in grind (arith, nat_tests)

pub returns-else-n-eq0 : goal.returns-else-n-eq0
unfolding segment_size
returns-else-n-eq0 c = search (rules, tests)
