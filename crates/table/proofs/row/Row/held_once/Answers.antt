-- `row::Row::held_once` meets its contract: keys that all differ show it, and else each entry against each does.
use Rattle.std.proofs.Common.{ap, sym, ◌∙◌, length, arith, eqb-true}
use Rattle.rules.specs.Layout.{entries}
use Rattle.laws.proofs.Tests.{and_left}
use Rattle.table.specs.declared.entry.Entry.{Entry}
use Rattle.table.specs.Entries.{held_word, unused}
use Rattle.table.proofs.Listed.{all_apart}
use Rattle.table.proofs.row.Row.held_once.Goals as goal

none : Entry
none = record { held = 0; used = 0 }

pub returns-then-apart : goal.returns-then-apart
returns-then-apart c =
    let t = c.args.self.t.now in
    let x = c.requires in
    sym (all_apart (unused t c.args.self.from) (held_word t c.args.self.from) x.numbers (length c.args.used.now) entries x.lists
    (λ d e. eqb-true _ 0 (and_left _ _ e))
    (λ j k i a q. c.apart.ensures c.if-apart.true none j k i a
    (ap (λ (e : Entry). e.held) (x.entry-is i (omega arith) none) ∙ q ∙ sym (ap (λ (e : Entry). e.held) (x.entry-is j k none)))))
