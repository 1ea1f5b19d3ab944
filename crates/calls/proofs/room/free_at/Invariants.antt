-- `room::free_at` meets its contract: of the slots passed the one with the smallest serial is kept, the lowest among equals.
use mathlib.Core.Path.{◌≡◌}
use Prim.Native.Nat.{◌+◌}
use Rattle.calls.proofs.Searches.{Chosen}
use Rattle.calls.proofs.room.free_at.Given as goal

abbrev pub invariant-loop-i : goal.invariant-loop-i
invariant-loop-i l = (l.end ≡ l.from + l.n) × Chosen l.t l.base l.size l.from l.i l.end l.best l.least
