-- `put_masks` meets its contract: the masks passed are stored.
use mathlib.Core.Path.{◌≡◌}
use Prim.Native.Nat.{◌≤◌}
use lib.ListN.{take}
use lib.Seq.{sets}
use Rattle.marks.proofs.put_masks.Given as goal

abbrev pub invariant-loop-i : goal.invariant-loop-i
invariant-loop-i l = (l.i ≤ l.i-end) × (l.w ≡ sets l.initial.w l.place (take l.i l.mask-items))
