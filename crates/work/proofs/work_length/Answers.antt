-- `work_length` meets its contract: of a bad table 0, else the whole slice's length.
use Rattle.work.proofs.Whole.{length-bad, length-good}
use Rattle.work.proofs.work_length.Goals as goal

pub returns-in_default : goal.returns-in_default
returns-in_default c = length-bad _ _ c.in_default.ensures

pub returns : goal.returns
returns c =
    let whole = rw c.in-Some.ensures.1 at c.whole_length.ensures in
    length-good _ _ c.in-Some.ensures.0 _ whole
