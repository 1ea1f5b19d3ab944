-- `numerals::feed_all` meets its contract: from each place on, the rest of the bytes makes of the part what all of them make of the first.
use mathlib.Core.Path.{◌≡◌}
use Prim.Native.Nat.{◌≤◌, max}
use lib.ListN.{length, drop}
use Rattle.numerals.specs.Fed.{scan_of}
use Rattle.numerals.proofs.feed_all.Given as goal

abbrev pub invariant-loop-i : goal.invariant-loop-i
invariant-loop-i l = (l.i ≤ max l.from (length l.s)) × (scan_of l.part (drop l.i l.s) l.i ≡ scan_of l.initial.part (drop l.from l.s) l.from)
