-- `unmark` meets its contract.
use Rattle.std.proofs.Common.{arith}
use Rattle.std.proofs.lemmas.Grind.{common_steps}
use Rattle.marks.specs.Masks.{unmarked}
use Rattle.marks.proofs.unmark.Goals as goal

pub returns-then-taken-mask : goal.returns-then-taken-mask
unfolding unmarked
returns-then-taken-mask c = grind (arith, common_steps)

pub returns-else-taken-mask : goal.returns-else-taken-mask
unfolding unmarked
returns-else-taken-mask c = grind (arith, common_steps)

pub returns-else-bit-lt-ENTRIES : goal.returns-else-bit-lt-ENTRIES
unfolding unmarked
returns-else-bit-lt-ENTRIES c = grind (arith, common_steps)
