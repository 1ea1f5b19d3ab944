-- `entries::less` meets its contract: the test decides which of the two is written.
use Rattle.calls.specs.Entries.{less_at}
use Rattle.calls.proofs.entries.less.Goals as goal

pub returns-then-n-kept : goal.returns-then-n-kept
unfolding less_at
returns-then-n-kept c =
    rw (c.if-n-kept.true, ← c.record_words.ensures) c.free_record.ensures

pub returns-else-n-kept : goal.returns-else-n-kept
unfolding less_at
returns-else-n-kept c =
    rw (c.if-n-kept.false, ← c.saturating_sub.ensures, ← c.holders_word.ensures) c.put.ensures
