-- `player::replay` plays from a new player on, and reports that.
use Rattle.player.proofs.Ways.{replayed}
use Rattle.player.proofs.replay.Goals as goal

pub returns : goal.returns
returns c = rw c.report.ensures (replayed c.new-player.ensures c.run.ensures)
