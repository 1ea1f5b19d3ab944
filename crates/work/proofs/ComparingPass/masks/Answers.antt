-- `masks` of `Comparing` looks at the masks.
use mathlib.Core.Path.{refl, ap, ◌∙◌}
use mathlib.Core.Bool.{Bool, ◌&&◌}
use Rattle.work.proofs.Masked.{are-masks-few}
use Rattle.work.proofs.ComparingPass.masks.Goals as goal

pub returns : goal.returns
returns c = (refl, ap (λ (b : Bool). c.args.self.now.right && b) (c.are_masks.ensures ∙ are-masks-few _ _ _ _ _ c.args.files.few _))
