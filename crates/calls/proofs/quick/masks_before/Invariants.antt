-- `quick::masks_before` meets its contract: the sum of the cells passed.
use mathlib.Core.Path.{◌≡◌}
use Rattle.rules.specs.Layout.{configuration}
use Rattle.follow.specs.Right.{rows_to}
use Rattle.calls.proofs.quick.masks_before.Given as goal

abbrev pub invariant-loop-i : goal.invariant-loop-i
invariant-loop-i l = l.words ≡ rows_to (configuration l.t) l.i
