-- `image::image_length` meets its contract: the length, or 0 for none.
use mathlib.Core.Path.{◌∙◌}
use Rattle.image.proofs.Imaged.{length_told}
use Rattle.image.proofs.image_length.Goals as goal

pub returns : goal.returns
returns c = c.unwrap_or.ensures ∙ length_told _ _ _ c.exact_length.ensures
