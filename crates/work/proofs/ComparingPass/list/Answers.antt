-- `list` of `Comparing` looks at the list.
use mathlib.Core.Path.{refl, ap, ◌∙◌}
use mathlib.Core.Bool.{Bool, ◌&&◌}
use Rattle.work.proofs.Listed.{is-list-few}
use Rattle.work.proofs.ComparingPass.list.Goals as goal

pub returns : goal.returns
returns c = (refl, ap (λ (b : Bool). c.args.self.now.right && b) (c.is_list.ensures ∙ is-list-few _ _ _ _ _ _ c.args.slots.few _))
