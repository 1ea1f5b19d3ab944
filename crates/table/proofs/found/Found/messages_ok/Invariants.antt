-- `found::Found::messages_ok` meets its contract: of an empty queue every word is zero; else `ok` says that every message passed is right.
use Rattle.std.proofs.Common.{◌≡◌, ◌-◌, ◌≤◌}
use Rattle.rules.specs.Words.{all_below}
use Rattle.rules.specs.Claim.{test}
use Rattle.rules.specs.Layout.{messages}
use Rattle.rules.specs.WellFormed.{message_ok}
use Rattle.table.specs.Frame.{conf, words}
use Rattle.table.proofs.found.Found.messages_ok.Given as goal

abbrev pub invariant-loop-m : goal.invariant-loop-m
invariant-loop-m l = (l.m ≤ messages) × (l.ok ≡ all_below l.m (λ m. test (message_ok (conf l.self.frame) (words l.self.frame) l.p m)))

abbrev pub decreases-loop-m : goal.decreases-loop-m
decreases-loop-m l = messages - l.m
