-- `Player::piece` hands on the text of the whole piece, as far as the output takes it, and ends: with room for a line, each turn takes a byte.
use Rattle.std.proofs.Common.{rules}
use Rattle.std.proofs.lemmas.Result.{IfOk-from_err}
use Rattle.player.proofs.Ways.{no-piece, played-on, nearer}
use Rattle.player.proofs.Player.piece.Goals as goal

pub loop-from-init : goal.loop-from-init
loop-from-init c = no-piece _ _

pub returns-in_err-hand_on : goal.returns-in_err-hand_on
returns-in_err-hand_on c = (
  c.play-r.result.next,
  played-on c.loop-from.invariant c.play-r.ensures c.hand_on.ensures,
  IfOk-from_err _ _ c.from_residual.ensures.0,
)

pub loop-from-smaller : goal.loop-from-smaller
loop-from-smaller c =
    nearer c.loop-from.self _ _ _ _ _ _ _ (search rules) c.loop-from-test.true (search rules) c.play-r.ensures

pub loop-from-preserved : goal.loop-from-preserved
loop-from-preserved c = played-on c.loop-from.invariant c.play-r.ensures c.hand_on.ensures
