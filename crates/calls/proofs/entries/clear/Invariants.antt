-- `entries::clear` meets its contract: so many zeros are stored as turns were made.
use mathlib.Core.Path.{◌≡◌}
use lib.ListN.{replicate}
use lib.Seq.{sets}
use Rattle.calls.proofs.entries.clear.Given as goal

abbrev pub invariant-loop-i : goal.invariant-loop-i
invariant-loop-i l = l.t ≡ sets l.initial.t l.from (replicate l.i 0)
