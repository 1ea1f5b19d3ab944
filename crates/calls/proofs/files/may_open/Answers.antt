-- `files::may_open` meets its contract: its five tests in their order.
use mathlib.Core.Path.{◌∙◌}
use Rattle.calls.proofs.Leaves.{passed-on}
use Rattle.calls.proofs.FilesLaws.{open-found}
use Rattle.calls.proofs.files.may_open.Goals as goal

pub returns-in_err-find : goal.returns-in_err-find
returns-in_err-find c =
    passed-on _ _ c.from_residual-in_err-find.ensures.0 c.from_residual-in_err-find.ensures.1
    ∙ open-found c.args.f c.args.b _ (rw c.valid.ensures at c.in_ok-refuse.ensures) (rw c.writes.ensures at c.in_err-find.ensures)
