-- `outside` meets its contract: what refuses before the call's own list, or the part's refusal.
use mathlib.Core.Path.{◌∙◌, ap}
use Rattle.calls.specs.Left.{told}
use Rattle.calls.proofs.Leaves.{ended-so}
use Rattle.calls.proofs.TrayLaws.{outside-unasked, outside-asked}
use Rattle.calls.proofs.trays.outside.Goals as goal

pub returns-in_err-asked : goal.returns-in_err-asked
returns-in_err-asked c =
    ap told (ended-so _ _ c.from_residual.ensures.0 c.from_residual.ensures.1)
    ∙ outside-unasked c.args.t.now c.args.r _ c.in_err-asked.ensures

pub returns : goal.returns
returns c = outside-asked c.args.t.now c.args.r _ c.in_ok-asked.ensures
