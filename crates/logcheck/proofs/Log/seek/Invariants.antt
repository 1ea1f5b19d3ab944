-- `Log::seek` goes turn after turn.
use Rattle.logcheck.specs.Sought.{Way}
use Rattle.logcheck.proofs.Log.seek.Given as goal

abbrev pub invariant-loop : goal.invariant-loop
invariant-loop l = Way l.fn.self l.self
