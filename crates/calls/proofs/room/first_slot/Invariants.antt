-- `room::first_slot` meets its contract: the sum of the runs passed.
use mathlib.Core.Path.{◌≡◌}
use Rattle.rules.specs.Layout.{configuration}
use Rattle.calls.specs.World.{first_by}
use Rattle.calls.proofs.room.first_slot.Given as goal

abbrev pub invariant-loop-i : goal.invariant-loop-i
invariant-loop-i l = l.from ≡ first_by (configuration l.t) l.k l.i
