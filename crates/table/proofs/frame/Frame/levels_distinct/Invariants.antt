-- `frame::Frame::levels_distinct` meets its contract: `ok` says that every cell passed has a level of its own, and that this one differs from those before it that are passed.
use Rattle.std.proofs.Common.{◌≡◌, ℕ, ◌-◌, ◌≤◌, Bool, not, ◌&&◌, List}
use Rattle.rules.specs.Words.{all_below}
use Rattle.rules.specs.Level.{equals}
use Rattle.rules.specs.Layout.{max_cells, cells, level_of, configuration}
use Rattle.table.proofs.Loops.{pairs_below}
use Rattle.table.proofs.frame.Frame.levels_distinct.Given as goal

-- the level of cell c is not that of cell d
abbrev pub differ : List ℕ → ℕ → ℕ → Bool
differ t d c = not (equals (level_of (configuration t) c) (level_of (configuration t) d))

abbrev pub invariant-loop-c : goal.invariant-loop-c
invariant-loop-c l = (l.c ≤ l.d) × (l.ok ≡ pairs_below (differ l.self.t.now) l.d && all_below l.c (differ l.self.t.now l.d))

abbrev pub decreases-loop-c : goal.decreases-loop-c
decreases-loop-c l = l.d - l.c

abbrev pub invariant-loop-d : goal.invariant-loop-d
invariant-loop-d l = (l.d ≤ l.d-end) × (l.d-end ≡ cells (configuration l.self.t.now)) × (l.d-end ≤ max_cells) × (l.ok ≡ pairs_below (differ l.self.t.now) l.d)

abbrev pub decreases-loop-d : goal.decreases-loop-d
decreases-loop-d l = l.d-end - l.d
