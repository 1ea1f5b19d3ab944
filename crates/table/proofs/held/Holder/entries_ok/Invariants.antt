-- `held::Holder::entries_ok` meets its contract: of the used entries each is judged and counted, and the others are right and count for nothing.
use Rattle.std.proofs.Common.{◌≡◌, length, get_or}
use Rattle.rules.specs.Words.{all_below, count_below}
use Rattle.rules.specs.Claim.{test}
use Rattle.rules.specs.Layout.{max_slots}
use Rattle.rules.specs.WellFormed.{entry_ok}
use Rattle.layout.specs.Kinds.{kind_of}
use Rattle.table.specs.declared.entry.Entry.{Entry}
use Rattle.table.specs.Frame.{conf, words}
use Rattle.table.specs.Entries.{names, Counts}
use Rattle.table.proofs.held.Holder.entries_ok.Given as goal

abbrev pub none : Entry
none = record { held = 0; used = 0 }

abbrev pub invariant-loop-e : goal.invariant-loop-e
invariant-loop-e l =
    let frame = l.self.found.frame in
    (length l.counts ≡ max_slots)
    × (l.ok ≡ all_below l.e-index (λ j.
    test (entry_ok (conf frame) (words frame) (kind_of l.self.kind) l.self.mine (get_or l.used j none).held (get_or l.used j none).used)))
    × Counts (λ i. count_below l.e-index (λ j. names (conf frame) (kind_of l.self.kind) l.self.mine (get_or l.used j none).held i)) l.e-index l.ok
    l.initial.counts l.counts
