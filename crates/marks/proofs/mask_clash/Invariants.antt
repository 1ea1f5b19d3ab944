-- `mask_clash` meets its contract: what is left to look at from here on decides.
use mathlib.Core.Path.{◌≡◌}
use Prim.Native.Nat.{◌≤◌, ◌-◌}
use Rattle.rules.specs.Layout.{entries}
use Rattle.marks.specs.Masks.{met}
use Rattle.marks.proofs.mask_clash.Given as goal

abbrev pub invariant-loop-d : goal.invariant-loop-d
invariant-loop-d l = (l.d ≤ entries) × (met l.t l.at l.s l.b (entries - l.d) l.x l.d ≡ met l.t l.at l.s l.b entries l.mask 0)
