-- `map::taken` meets its contract: the pages of the run hold the number, as far as there are pages.
use borrow.Author.Rules.{rules}
use Rattle.calls.proofs.MapLaws.{taken-part, taken-none}
use Rattle.calls.proofs.map.taken.Goals as goal

pub returns-then-comes : goal.returns-then-comes
returns-then-comes c =
    taken-part c.args.m c.args.v c.args.b c.args.n (search rules) c.if-comes.true c.min.ensures c.min-then-comes.ensures (c.fill.ensures.after (search rules))

pub returns-else-comes : goal.returns-else-comes
returns-else-comes c = taken-none c.args.m c.args.v c.args.b c.args.n (search rules) c.if-comes.false
