-- `modes::clash` meets its contract: the table is the rule's, and past it nothing clashes.
use mathlib.Core.Path.{sym, ◌∙◌}
use mathlib.Core.Bool.{false}
use mathlib.Core.List.{[]}
use Rattle.rules.specs.Words.{tab_from}
use Rattle.rules.specs.Modes.{clash, excludes_readers, excludes_writers, writes}
use Rattle.laws.proofs.Tab.{get_or-tab2}
use Rattle.modes.proofs.Numbers.{clash-in}
use Rattle.modes.proofs.clash.Goals as goal

pub returns-then-j-lt-NUMBERS : goal.returns-then-j-lt-NUMBERS
unfolding clash excludes_readers excludes_writers writes tab_from
returns-then-j-lt-NUMBERS c =
    get_or-tab2 16 16 clash c.args.m c.args.n [] false c.if-i-lt-NUMBERS.true c.if-j-lt-NUMBERS.true
    ∙ sym (clash-in c.args.m c.args.n c.if-i-lt-NUMBERS.true c.if-j-lt-NUMBERS.true)
