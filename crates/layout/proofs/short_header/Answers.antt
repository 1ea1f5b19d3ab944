-- `layout::short_header` meets its contract: the header's words, each as the rules have it, and 0 where there is none.
use Rattle.std.proofs.Common.{rules}
use Rattle.rules.specs.Layout.{cells, slots, blocks, guard, subtypes}
use Rattle.layout.proofs.short_header.Goals as goal

pub returns : goal.returns
unfolding cells slots blocks guard subtypes
returns c = search rules
