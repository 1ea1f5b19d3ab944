-- `layout::class_of` meets its contract: the code's quotients are the rule's.
use borrow.Author.Rules.{rules}
use Rattle.rules.specs.Seid.{class_of}
use Rattle.layout.proofs.class_of.Goals as goal

pub returns : goal.returns
unfolding class_of
returns c = search rules
