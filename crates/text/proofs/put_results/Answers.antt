-- `text::put_results` meets its contract: three texts, one after the other.
use Rattle.std.proofs.Common.{rules}
use Rattle.output.proofs.Laws.{then}
use Rattle.text.proofs.put_results.Goals as goal

pub returns : goal.returns
returns c = search (rules, then)
