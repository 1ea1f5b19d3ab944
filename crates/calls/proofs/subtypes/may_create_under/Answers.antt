-- `subtypes::may_create_under` meets its contract: its two tests in their order, where a subtype is named, and that subtype.
use borrow.Author.Tests.{eq-eqb}
use mathlib.Core.Path.{sym, ◌∙◌}
use Rattle.calls.proofs.Leaves.{passed-on, error-named}
use Rattle.calls.proofs.SubtypesLaws.{create-none, create-held, create-subtype}
use Rattle.rules.specs.Call07.{subtype_for}
use Rattle.calls.proofs.subtypes.may_create_under.Goals as goal

pub returns-then-by-eq0-clause-subtype : goal.returns-then-by-eq0-clause-subtype
unfolding subtype_for
returns-then-by-eq0-clause-subtype c = rw (eq-eqb _ 0 c.if-by-eq0.true)

pub returns-in_err-x-clause-refusals : goal.returns-in_err-x-clause-refusals
returns-in_err-x-clause-refusals c =
    passed-on _ _ c.from_residual.ensures.0 c.from_residual.ensures.1
    ∙ error-named _ _ _ c.in_err-x.ensures.value
    ∙ create-none _ _ _ c.args.by c.if-by-eq0.false (sym c.in_err-x.ensures.ok_part ∙ c.held_by.ensures)

pub returns-in_err-refuse-clause-refusals : goal.returns-in_err-refuse-clause-refusals
returns-in_err-refuse-clause-refusals c =
    passed-on _ _ c.from_residual-in_err-refuse.ensures.0 c.from_residual-in_err-refuse.ensures.1
    ∙ create-held _ _ _ c.args.by c.if-by-eq0.false (sym c.in_ok-x.ensures.ok_part ∙ c.held_by.ensures) (c.subtype_word-cell.ensures ∙ rw c.index_of.ensures)
    (rw (c.reads.ensures, c.writes.ensures, c.requires.home) at c.in_err-refuse.ensures)

pub returns-clause-refusals : goal.returns-clause-refusals
returns-clause-refusals c =
    create-held _ _ _ c.args.by c.if-by-eq0.false (sym c.in_ok-x.ensures.ok_part ∙ c.held_by.ensures) (c.subtype_word-cell.ensures ∙ rw c.index_of.ensures)
    (rw (c.reads.ensures, c.writes.ensures, c.requires.home) at c.in_ok-refuse.ensures)

pub returns-clause-subtype : goal.returns-clause-subtype
returns-clause-subtype c = create-subtype _ _ c.args.by c.if-by-eq0.false (sym c.in_ok-x.ensures.ok_part ∙ c.held_by.ensures)
