-- `quick::listed_slot` meets its contract: the list's next slot is the one that the search finds.
use Rattle.layout.specs.Kinds.{kind_of}
use Rattle.calls.proofs.Searches.{run_small, slot-there, slot-past}
use Rattle.calls.proofs.QuickPlaces.{listed-told}
use native.Mathlib.Omega.{arith}
use mathlib.Core.Path.{◌≡◌}
use Rattle.rules.specs.Layout.{configuration}
use Rattle.rules.specs.Find.{free_slot}
use Rattle.calls.specs.World.{words_of}
use Rattle.calls.proofs.quick.listed_slot.Goals.{After-next-i}
use Rattle.calls.proofs.quick.listed_slot.Goals as goal

pub overflow_add-end : goal.overflow_add-end
overflow_add-end c =
    record { fits = omega (arith, run_small c.requires.0 (kind_of c.args.kind) _ c.requires.1 c.run_of-run.ensures.from c.run_of-run.ensures.count) }

-- the next slot of the list is the one that the search finds
listed : (c : After-next-i) → c.next-i.result ≡ free_slot (configuration c.args.t.now) (words_of c.args.t.now) (kind_of c.args.kind) c.args.cell
listed c =
    listed-told c.requires.0 c.requires.2 (kind_of c.args.kind) _ c.requires.1 c.run_of-run.ensures.from c.run_of-run.ensures.count c.list_at-at.ensures c.next-i.ensures

pub returns-then-i-end : goal.returns-then-i-end
returns-then-i-end c =
    slot-there c.requires.0 (kind_of c.args.kind) _ c.run_of-run.ensures.from c.run_of-run.ensures.count
    (listed (goal.at.returns-then-i-end c).After-next-i) c.if-i-end.true

pub returns-else-i-end : goal.returns-else-i-end
returns-else-i-end c =
    slot-past c.requires.0 (kind_of c.args.kind) _ c.run_of-run.ensures.from c.run_of-run.ensures.count
    (listed (goal.at.returns-else-i-end c).After-next-i) c.if-i-end.false
