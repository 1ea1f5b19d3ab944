-- `once::apart` meets its contract: every key passed has been seen, and while none was seen before no two entries passed hold the same.
use Rattle.std.proofs.Common.{◌≡◌, true, length, get_or}
use Rattle.table.specs.declared.entry.Entry.{Entry}
use Rattle.table.specs.Entries.{keys, key_of, Apart}
use Rattle.table.proofs.Listed.{Seen}
use Rattle.table.proofs.once.apart.Given as goal

abbrev pub invariant-loop-e : goal.invariant-loop-e
invariant-loop-e l =
    (length l.seen ≡ keys) × ((none : Entry) → Seen (λ j. (get_or l.used j none).held) key_of l.e-index l.seen)
    × (l.ok ≡ true → (none : Entry) → Apart (λ j. (get_or l.used j none).held) l.e-index)
