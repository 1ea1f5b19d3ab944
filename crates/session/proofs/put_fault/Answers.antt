-- `session::put_fault` meets its contract: the two byte strings are the rules' two lines.
use Rattle.rules.specs.Errors.{ascii}
use Rattle.rules.specs.Replay.{bad_configuration, bad_script}
use Rattle.session.proofs.Ways.{fault-script, fault-configuration}
use Rattle.session.proofs.put_fault.Goals as goal

pub returns-then-calling : goal.returns-then-calling
unfolding bad_script ascii
returns-then-calling c =
    fault-script _ _ _ _ _ c.if-calling.true c.put_bytes.ensures

pub returns-else-calling : goal.returns-else-calling
unfolding bad_configuration ascii
returns-else-calling c =
    fault-configuration _ _ _ _ _ c.if-calling.false c.put_bytes-else-calling.ensures
