-- `modes::valid_table` meets its contract: the table is the rule's, number by number.
use mathlib.Core.Path.{refl}
use Rattle.rules.specs.Words.{tab_from}
use Rattle.rules.specs.Modes.{valid_modes}
use Rattle.modes.proofs.valid_table.Goals as goal

pub returns : goal.returns
unfolding valid_modes tab_from
returns c = refl
