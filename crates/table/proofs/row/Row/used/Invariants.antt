-- `row::Row::used` meets its contract: where all words are zero no entry is used; else the used entries passed are squeezed to the front, and the words put at its end
-- count only where their entry is used.
use Rattle.std.proofs.Common.{◌≡◌, ◌-◌, ◌≤◌, length}
use Rattle.rules.specs.Layout.{entries}
use Rattle.table.specs.Entries.{Squeezed}
use Rattle.table.proofs.row.Row.used.Given as goal

abbrev pub invariant-loop-d : goal.invariant-loop-d
invariant-loop-d l = (l.d ≤ entries) × (length l.list ≡ entries) × Squeezed l.self.t.now l.self.from l.list l.n l.d

abbrev pub decreases-loop-d : goal.decreases-loop-d
decreases-loop-d l = entries - l.d
