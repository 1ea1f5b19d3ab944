-- `entries::give_up` meets its contract: the entry is cleared, and the object has one holder less where it is of the holder's cell.
use Rattle.calls.specs.Entries.{given_up_at}
use Rattle.calls.proofs.entries.give_up.Goals as goal

pub returns-then-own : goal.returns-then-own
unfolding given_up_at
returns-then-own c =
    rw (c.if-own.true, ← c.enter.ensures) c.less.ensures

pub returns-else-own : goal.returns-else-own
unfolding given_up_at
returns-else-own c =
    rw c.if-own.false c.enter.ensures
