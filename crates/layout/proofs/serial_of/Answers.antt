-- `layout::serial_of` meets its contract: the code's quotients are the rule's.
use borrow.Author.Rules.{rules}
use Rattle.rules.specs.Seid.{serial_of}
use Rattle.layout.proofs.serial_of.Goals as goal

pub returns : goal.returns
unfolding serial_of
returns c = search rules
