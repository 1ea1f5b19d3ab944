-- `pages::pages_ok` meets its contract: `ok` says that every page passed is right.
use Rattle.std.proofs.Common.{◌≡◌, ◌-◌, ◌≤◌}
use Rattle.rules.specs.Words.{all_below}
use Rattle.rules.specs.Claim.{test}
use Rattle.rules.specs.Layout.{pages}
use Rattle.rules.specs.WellFormed.{page_ok}
use Rattle.table.specs.Entries.{record_at}
use Rattle.table.proofs.pages.pages_ok.Given as goal

abbrev pub invariant-loop-g : goal.invariant-loop-g
invariant-loop-g l = (l.g ≤ pages) × (l.ok ≡ all_below l.g (λ g. test (page_ok (record_at l.t l.at) 0 g)))

abbrev pub decreases-loop-g : goal.decreases-loop-g
decreases-loop-g l = pages - l.g
