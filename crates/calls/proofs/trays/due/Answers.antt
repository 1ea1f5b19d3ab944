-- `due` meets its contract.
use Rattle.calls.proofs.TrayLaws.{due_all, due-none}
use Rattle.calls.proofs.trays.due.Goals as goal

pub returns-then-error-eq-XOK : goal.returns-then-error-eq-XOK
returns-then-error-eq-XOK c = due_all _ _ c.if-error-eq-XOK.true

pub returns-else-error-eq-XOK : goal.returns-else-error-eq-XOK
returns-else-error-eq-XOK c = due-none _ _ c.if-error-eq-XOK.false
