-- `masks` of `Filling` lays the masks down.
use mathlib.Core.Path.{refl, ◌∙◌}
use Rattle.work.proofs.Masked.{masked-few}
use Rattle.work.proofs.FillingPass.masks.Goals as goal

pub returns : goal.returns
returns c = (c.put_masks.ensures ∙ masked-few _ _ _ _ _ c.args.files.few _, refl)
