-- `row::Row::all_fresh` meets its contract: `ok` says that every entry passed is fresh.
use Rattle.std.proofs.Common.{◌≡◌, ◌-◌, ◌≤◌}
use Rattle.rules.specs.Words.{all_below}
use Rattle.rules.specs.Layout.{entries}
use Rattle.table.specs.Entries.{held_word, fresh}
use Rattle.table.proofs.row.Row.all_fresh.Given as goal

abbrev pub invariant-loop-e : goal.invariant-loop-e
invariant-loop-e l = (l.e ≤ entries) × (l.ok ≡ all_below l.e (fresh (held_word l.self.t.now l.self.from)))

abbrev pub decreases-loop-e : goal.decreases-loop-e
decreases-loop-e l = entries - l.e
