-- `frame::Frame::cells_ok` meets its contract: `ok` says that every cell passed is right.
use Rattle.std.proofs.Common.{◌≡◌, ◌-◌, ◌≤◌}
use Rattle.rules.specs.Words.{all_below}
use Rattle.rules.specs.Claim.{test}
use Rattle.rules.specs.Layout.{cells, configuration}
use Rattle.rules.specs.WellFormed.{cell_ok}
use Rattle.table.proofs.frame.Frame.cells_ok.Given as goal

abbrev pub invariant-loop-c : goal.invariant-loop-c
invariant-loop-c l = (l.c ≤ l.c-end) × (l.c-end ≡ cells (configuration l.self.t.now)) × (l.ok ≡ all_below l.c (λ c. test (cell_ok (configuration l.self.t.now) c)))

abbrev pub decreases-loop-c : goal.decreases-loop-c
decreases-loop-c l = l.c-end - l.c
