-- `list` of `Filling` lays the list down.
use mathlib.Core.Path.{refl, ◌∙◌}
use Rattle.work.proofs.Listed.{relisted-few}
use Rattle.work.proofs.FillingPass.list.Goals as goal

pub returns : goal.returns
returns c = (c.relist.ensures ∙ relisted-few _ _ _ _ _ _ c.args.slots.few _, refl)
