-- `frame::Frame::slots_owned` meets its contract: the sum of the cells passed, which fits since each word does.
use Rattle.std.proofs.Common.{◌≡◌, ◌-◌, ◌*◌, ◌≤◌}
use Rattle.rules.specs.Words.{sum_below}
use Rattle.rules.specs.Layout.{cells, cell_word, configuration}
use Rattle.table.proofs.frame.Frame.slots_owned.Given as goal

abbrev pub invariant-loop-c : goal.invariant-loop-c
invariant-loop-c l = (l.c ≤ l.c-end) × (l.c-end ≡ cells (configuration l.self.t.now)) × (l.sum ≡ sum_below l.c (λ c. cell_word (configuration l.self.t.now) c l.k))
    × (l.sum ≤ 4294967296 * l.c)

abbrev pub decreases-loop-c : goal.decreases-loop-c
decreases-loop-c l = l.c-end - l.c
