-- `session::step` meets its contract: a session that is not over acts on what was read.
use Rattle.session.proofs.Ways.{step-on}
use Rattle.session.proofs.step.Goals as goal

pub returns : goal.returns
returns c =
    step-on _ _ _ _ _ _ _ _ _ _ _ _ _ _ _ _ c.if-x.false c.advance-m.ensures c.act.ensures
