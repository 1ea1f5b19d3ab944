-- `mark` meets its contract.
use Rattle.std.proofs.Common.{arith}
use Rattle.std.proofs.lemmas.Grind.{common_steps}
use Rattle.marks.specs.Masks.{marked}
use Rattle.marks.proofs.mark.Goals as goal

pub returns-then-mask-lt-MASKS : goal.returns-then-mask-lt-MASKS
unfolding marked
returns-then-mask-lt-MASKS c = grind (arith, common_steps)

pub returns-else-bit-lt-ENTRIES : goal.returns-else-bit-lt-ENTRIES
unfolding marked
returns-else-bit-lt-ENTRIES c = grind (arith, common_steps)
