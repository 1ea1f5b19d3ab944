-- `layout::header_of` meets its contract: the header's words, each as the rules have it.
use mathlib.Core.Path.{refl}
use Rattle.rules.specs.Layout.{cells, slots, blocks, guard, subtypes}
use Rattle.layout.proofs.header_of.Goals as goal

pub returns : goal.returns
unfolding cells slots blocks guard subtypes
returns c = refl
