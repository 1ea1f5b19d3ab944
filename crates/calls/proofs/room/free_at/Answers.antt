-- `room::free_at` meets its contract: of the slots passed the one with the smallest serial is kept, the lowest among equals.
use native.Mathlib.Omega.{arith}
use mathlib.Core.Path.{refl}
use Rattle.calls.proofs.Searches.{chosen-next, chosen-end}
use Rattle.calls.proofs.room.free_at.Goals as goal

pub loop-i-preserved : goal.loop-i-preserved
loop-i-preserved c = (
  c.loop-i.invariant.0,
  chosen-next c.loop-i.auto.i c.loop-i-test.true c.loop-i.invariant.1 c.wide.ensures
      c.word.ensures c.word-serial.ensures _ refl c.first-best.ensures c.first-least.ensures,
)

pub returns : goal.returns
returns c = chosen-end _ c.loop-i.invariant.0 (omega (arith, c.loop-i.auto.i-end)) c.loop-i.invariant.1
