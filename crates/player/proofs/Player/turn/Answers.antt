-- `Player::turn` does what it says: nothing where the read failed, the last text where the input has ended, and else a piece.
use Rattle.std.proofs.Common.{rules}
use Rattle.player.proofs.Ways.{went-none, went-last, went-piece}
use Rattle.player.proofs.Player.turn.Goals as goal

pub returns-in_err-n : goal.returns-in_err-n
returns-in_err-n c = went-none _ _ _ c.requires

pub returns-then-n-eq0 : goal.returns-then-n-eq0
returns-then-n-eq0 c = went-last _ _ _ _ _ _ (search rules) c.finish-end.ensures c.hand_on.ensures

pub returns : goal.returns
returns c = went-piece _ _ _ _ _ c.requires c.in_ok-n.ensures c.piece.ensures
