-- `masks_of` meets its contract: the masks of the descriptors passed are made.
use Prim.Native.Nat.{◌≤◌}
use Rattle.rules.specs.Layout.{entries}
use Rattle.marks.proofs.Made.{Made}
use Rattle.marks.proofs.masks_of.Given as goal

abbrev pub invariant-loop-d : goal.invariant-loop-d
invariant-loop-d l = (l.d ≤ entries) × Made l.t l.at l.d l.masks
