-- `layout::index_of` meets its contract: the code's quotients are the rule's.
use borrow.Author.Rules.{rules}
use Rattle.rules.specs.Seid.{index_of}
use Rattle.layout.proofs.index_of.Goals as goal

pub returns : goal.returns
unfolding index_of
returns c = search rules
