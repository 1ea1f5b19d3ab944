-- `subtypes::may_open_under` meets its contract: its two tests in their order, where the file has a subtype.
use mathlib.Core.Path.{sym, ◌∙◌}
use Rattle.calls.proofs.Leaves.{passed-on, error-named}
use Rattle.calls.proofs.SubtypesLaws.{open-none, open-held}
use Rattle.calls.proofs.subtypes.may_open_under.Goals as goal

pub returns-in_err-x : goal.returns-in_err-x
returns-in_err-x c =
    passed-on _ _ c.from_residual.ensures.0 c.from_residual.ensures.1
    ∙ error-named _ _ _ c.in_err-x.ensures.value
    ∙ open-none _ _ _ c.args.b _ c.if-s-eq0.false (sym c.in_err-x.ensures.ok_part ∙ c.held_by.ensures)

pub returns : goal.returns
returns c =
    open-held _ _ _ c.args.b _ c.if-s-eq0.false (sym c.in_ok-x.ensures.ok_part ∙ c.held_by.ensures)
    (rw (c.reads.ensures, c.reads-2.ensures, c.writes.ensures, c.writes-2.ensures) at c.refuse.ensures)
