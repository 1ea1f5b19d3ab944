-- `entries::take_up` meets its contract: the count is read before the entry is filled.
use Rattle.calls.specs.Entries.{taken_up_at}
use Rattle.calls.proofs.entries.take_up.Goals as goal

pub returns-then-own : goal.returns-then-own
unfolding taken_up_at
returns-then-own c =
    rw (
      c.if-own.true,
      ← c.holders_word.ensures,
      ← c.word-n.ensures,
      ← c.enter.ensures,
    ) c.put.ensures

pub returns-else-own : goal.returns-else-own
unfolding taken_up_at
returns-else-own c =
    rw c.if-own.false c.enter.ensures
