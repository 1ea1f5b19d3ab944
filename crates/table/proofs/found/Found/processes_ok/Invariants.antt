-- `found::Found::processes_ok` meets its contract: every process passed is right and counted, and one that is wrong decides.
use Rattle.std.proofs.Common.{◌≡◌, ◌-◌, ◌≤◌, true}
use Rattle.rules.specs.Words.{all_below}
use Rattle.rules.specs.Claim.{test}
use Rattle.rules.specs.Layout.{process, segment, file, max_slots, slots}
use Rattle.rules.specs.WellFormed.{process_ok}
use Rattle.table.specs.Frame.{conf, words}
use Rattle.table.specs.Entries.{Tally}
use Rattle.table.proofs.found.Found.processes_ok.Given as goal

abbrev pub invariant-loop-p : goal.invariant-loop-p
invariant-loop-p l =
    (l.p ≤ l.p-end) × (l.p-end ≡ slots (conf l.self.frame) process) × (l.p-end ≤ max_slots)
    × (true ≡ all_below l.p (λ p. test (process_ok (conf l.self.frame) (words l.self.frame) p)))
    × Tally (conf l.self.frame) (words l.self.frame) segment l.p l.references × Tally (conf l.self.frame) (words l.self.frame) file l.p l.opens

abbrev pub decreases-loop-p : goal.decreases-loop-p
decreases-loop-p l = l.p-end - l.p
