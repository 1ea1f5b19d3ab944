-- `numerals::put_number` meets its contract: at each turn, once the rest is written, so is the number.
use native.Mathlib.Omega.{arith}
use Rattle.output.proofs.Laws.{then, as-text, same_size}
use Rattle.numerals.proofs.Groups.{only-group, first-group}
use Rattle.numerals.proofs.put_number.Goals as goal

pub loop-rest-preserved : goal.loop-rest-preserved
loop-rest-preserved c = λ r d later.
    c.loop-rest.invariant r d (as-text _ _ _ _ _ _ (first-group _ c.loop-rest-test.true (omega arith))
    (then _ _ _ _ _ _ _ _ c.put_byte-next.ensures later))

pub shape_of-out : goal.shape_of-out
shape_of-out c = same_size _ _ _ _ _ (c.loop-rest.invariant _ _ (as-text _ _ _ _ _ _ (only-group _ c.loop-rest-test.false) c.put_byte.ensures))

pub returns : goal.returns
returns c = c.loop-rest.invariant _ _ (as-text _ _ _ _ _ _ (only-group _ c.loop-rest-test.false) c.put_byte.ensures)
