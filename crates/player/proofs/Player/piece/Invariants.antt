-- `Player::piece` hands on the text of the whole piece, as far as the output takes it, and ends: with room for a line, each turn takes a byte.
use Rattle.std.proofs.Common.{◌-◌}
use Rattle.player.specs.Went.{Pieced}
use Rattle.player.proofs.Player.piece.Given as goal

abbrev pub invariant-loop-from : goal.invariant-loop-from
invariant-loop-from l = Pieced l.fn.self l.n l.from l.self

abbrev pub decreases-loop-from : goal.decreases-loop-from
decreases-loop-from l = l.n - l.from
