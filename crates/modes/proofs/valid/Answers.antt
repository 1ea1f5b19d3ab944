-- `modes::valid` meets its contract: the table is the rule's, and past it no number is valid.
use mathlib.Core.Path.{◌∙◌}
use Rattle.rules.specs.Words.{tab_from}
use Rattle.rules.specs.Modes.{valid_modes}
use Rattle.modes.proofs.Numbers.{valid-told}
use Rattle.modes.proofs.valid.Goals as goal

pub returns : goal.returns
unfolding valid_modes tab_from
returns c = c.valid_in.ensures ∙ valid-told c.args.m
