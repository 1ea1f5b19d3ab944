-- `levels::level_at` meets its contract: the words of a cell of the table are in its configuration, and past the last cell there are none.
use mathlib.Core.Path.{ap, ◌∙◌}
use Rattle.levels.specs.Rule.{rule_level}
use Rattle.levels.proofs.Cells.{level_in_lem, level-past, default_nil}
use Rattle.levels.proofs.level_at.Goals as goal

pub returns-then-c-word : goal.returns-then-c-word
returns-then-c-word c =
    level_in_lem _ _ _ c.word.ensures c.if-c-word.true _ _ _
    (rw c.wide.ensures at c.word-then-c-word.ensures)
    (rw c.wide.ensures at c.word-then-c-word-2.ensures)
    (rw c.wide.ensures at c.word-then-c-word-3.ensures)

pub returns-else-c-word : goal.returns-else-c-word
returns-else-c-word c = ap rule_level (default_nil _ c.default.ensures) ∙ level-past _ _ _ c.word.ensures c.if-c-word.false
