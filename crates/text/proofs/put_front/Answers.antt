-- `text::put_front` meets its contract: four texts, one after the other.
use Rattle.std.proofs.Common.{rules}
use Rattle.output.proofs.Laws.{then}
use Rattle.text.proofs.put_front.Goals as goal

pub returns : goal.returns
returns c = search (rules, then)
