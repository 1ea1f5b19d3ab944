-- `row::Row::is_fresh` meets its contract: an empty entry is passed over; else no entry passed holds the same, and one that does decides.
use Rattle.std.proofs.Common.{◌≡◌, ◌-◌, ◌≤◌, true, not, ◌||◌, eqb}
use Rattle.rules.specs.Words.{all_below}
use Rattle.table.specs.Entries.{held_word}
use Rattle.table.proofs.row.Row.is_fresh.Given as goal

abbrev pub invariant-loop-d : goal.invariant-loop-d
invariant-loop-d l = (l.d ≤ l.e) × (true ≡ all_below l.d (λ d. not (not (eqb (held_word l.self.t.now l.self.from l.e) 0)) || not (eqb (held_word l.self.t.now l.self.from d) (held_word l.self.t.now l.self.from l.e))))

abbrev pub decreases-loop-d : goal.decreases-loop-d
decreases-loop-d l = l.e - l.d
