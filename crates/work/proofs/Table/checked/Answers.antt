-- `checked` meets its contract: a table that is well formed has its shape.
use mathlib.Core.Path.{sym, ◌∙◌}
use Rattle.work.proofs.Whole.{well-shaped}
use Rattle.work.proofs.Table.checked.Goals as goal

pub invariant_of-result : goal.invariant_of-result
invariant_of-result c =
    record { shaped = well-shaped _ _ (sym c.check.ensures ∙ c.if-not-check.false) _ c.header_of-n.ensures }
