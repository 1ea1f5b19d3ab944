-- `frame::Frame::subtypes_ok` meets its contract: `ok` says that every subtype passed is right.
use Rattle.std.proofs.Common.{◌≡◌, ◌-◌, ◌≤◌}
use Rattle.rules.specs.Words.{all_below}
use Rattle.rules.specs.Claim.{test}
use Rattle.rules.specs.Layout.{subtypes, configuration}
use Rattle.rules.specs.WellFormed.{subtype_ok}
use Rattle.table.proofs.frame.Frame.subtypes_ok.Given as goal

abbrev pub invariant-loop-i : goal.invariant-loop-i
invariant-loop-i l = (l.i ≤ l.i-end) × (l.i-end ≡ subtypes (configuration l.self.t.now)) × (l.i-end ≡ l.self.n.subtypes)
    × (l.ok ≡ all_below l.i (λ i. test (subtype_ok (configuration l.self.t.now) i)))

abbrev pub decreases-loop-i : goal.decreases-loop-i
decreases-loop-i l = l.i-end - l.i
