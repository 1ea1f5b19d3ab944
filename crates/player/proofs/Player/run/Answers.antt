-- `Player::run` goes turn after turn as long as the input has not ended.
use Rattle.player.proofs.Ways.{failed, nothing_yet, one_more}
use Rattle.player.proofs.Player.run.Goals as goal

pub loop-init : goal.loop-init
loop-init c = (nothing_yet _ c.requires, c.requires)

pub returns-in_err-turn : goal.returns-in_err-turn
returns-in_err-turn c =
    failed (one_more c.loop.invariant.0 c.loop.invariant.1 c.turn.ensures) _ c.from_residual.ensures.0

pub returns-then-self : goal.returns-then-self
returns-then-self c = one_more c.loop.invariant.0 c.loop.invariant.1 c.in_ok-turn.ensures

pub loop-preserved : goal.loop-preserved
loop-preserved c =
    (one_more c.loop.invariant.0 c.loop.invariant.1 c.in_ok-turn.ensures, c.if-self.false)
