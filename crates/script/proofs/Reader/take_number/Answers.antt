-- `script::Reader::take_number` meets its contract.
use Rattle.script.proofs.Stretch.{code-number}
use Rattle.script.proofs.Reader.take_number.Goals as goal

pub returns : goal.returns
returns c =
    λ l. code-number _ _ l _ _ _ _ _ _ c.requires c.args.ahead.some c.feed_all-scan.ensures c.with_part.ensures
    c.take_fed-took.ensures.0 c.take_fed-took.ensures.1
