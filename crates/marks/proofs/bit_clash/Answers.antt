-- `bit_clash` meets its contract.
use Rattle.std.proofs.Common.{arith}
use Rattle.std.proofs.lemmas.Grind.{common_steps}
use Rattle.marks.specs.Masks.{clashes_here}
use Rattle.marks.proofs.bit_clash.Goals as goal

pub returns-then-x-eq1 : goal.returns-then-x-eq1
unfolding clashes_here
returns-then-x-eq1 c = grind (arith, common_steps)
