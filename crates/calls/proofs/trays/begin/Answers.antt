-- `begin` meets its contract: a tray that is too long, and one whose table is judged.
use mathlib.Core.Path.{sym, ◌∙◌}
use Rattle.calls.proofs.TrayLaws.{begun-long, begun-short}
use Rattle.calls.proofs.trays.begin.Goals as goal

pub returns-then-too_long : goal.returns-then-too_long
returns-then-too_long c = begun-long _ _ _ (sym c.too_long.ensures ∙ c.if-too_long.true)

pub returns : goal.returns
returns c = c.judge.ensures.hall_after ∙ begun-short _ _ _ (sym c.too_long.ensures ∙ c.if-too_long.false)
