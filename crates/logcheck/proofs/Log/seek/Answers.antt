-- `Log::seek` goes turn after turn.
use Rattle.logcheck.proofs.Ways.{no_way, onward, sought}
use Rattle.logcheck.proofs.Log.seek.Goals as goal

pub loop-init : goal.loop-init
loop-init c = no_way _

pub returns-in-Some : goal.returns-in-Some
returns-in-Some c = sought c.requires c.loop.invariant (rw c.in-Some.is at c.in_ok-finding.ensures)

pub loop-preserved : goal.loop-preserved
loop-preserved c = onward c.loop.invariant (c.in_ok-finding.ensures.way c.in_default.is).0
