-- `script::advance` meets its contract: from each place on, the rest of the piece comes to what the whole does.
use mathlib.Core.Path.{◌≡◌}
use Prim.Native.Nat.{◌-◌}
use lib.ListN.{length, drop}
use Rattle.script.specs.Advance.{advance}
use Rattle.script.proofs.advance.Given as goal

abbrev pub invariant-loop-i : goal.invariant-loop-i
invariant-loop-i l =
    advance l.reader l.table l.buf (drop l.i l.s) l.i ≡ advance l.initial.reader l.initial.table l.initial.buf (drop l.from l.s) l.from

abbrev pub decreases-loop-i : goal.decreases-loop-i
decreases-loop-i l = length l.s - l.i
