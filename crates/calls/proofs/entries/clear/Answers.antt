-- `entries::clear` meets its contract: so many zeros are stored as turns were made.
use Rattle.laws.proofs.Stored.{clear-more}
use Rattle.calls.proofs.entries.clear.Goals as goal

pub loop-i-preserved : goal.loop-i-preserved
loop-i-preserved c = rw (clear-more, ← c.loop-i.invariant) c.put.ensures
