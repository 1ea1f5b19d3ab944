-- `found::Found::objects_ok` meets its contract: `ok` says that every object passed is right.
use Rattle.std.proofs.Common.{◌≡◌, ◌-◌, ◌≤◌}
use Rattle.rules.specs.Words.{all_below}
use Rattle.rules.specs.Claim.{test}
use Rattle.rules.specs.Layout.{slots}
use Rattle.layout.specs.Kinds.{kind_of}
use Rattle.table.specs.Frame.{conf, words}
use Rattle.table.specs.Entries.{object_ok}
use Rattle.table.proofs.found.Found.objects_ok.Given as goal

abbrev pub invariant-loop-i : goal.invariant-loop-i
invariant-loop-i l =
    (l.i ≤ l.i-end) × (l.i-end ≡ slots (conf l.self.frame) (kind_of l.kind)) ×
    (l.ok ≡ all_below l.i (λ i. test (object_ok (conf l.self.frame) (words l.self.frame) (kind_of l.kind) i)))

abbrev pub decreases-loop-i : goal.decreases-loop-i
decreases-loop-i l = l.i-end - l.i
