-- `room::free_slot` meets its contract: the run of the cell is searched, and the search is the rule's.
use Rattle.calls.proofs.Searches.{record-small, run_small, slot-told, slot-there, slot-past}
use Rattle.layout.specs.Kinds.{kind_of}
use native.Mathlib.Omega.{arith}
use mathlib.Core.Path.{◌≡◌}
use Rattle.rules.specs.Layout.{configuration}
use Rattle.rules.specs.Find.{free_slot}
use Rattle.calls.specs.World.{words_of}
use Rattle.calls.proofs.room.free_slot.Goals.{After-free_at-i}
use Rattle.calls.proofs.room.free_slot.Goals as goal

pub free_at-i-requires : goal.free_at-i-requires
free_at-i-requires c = (
  c.base.ensures.1,
  rw c.record_words.ensures (record-small (kind_of c.args.kind)),
  omega (arith, run_small c.requires.0 (kind_of c.args.kind) _ c.requires.1 c.run_of-run.ensures.from c.run_of-run.ensures.count),
)

pub overflow_add-run : goal.overflow_add-run
overflow_add-run c =
    record { fits = omega (arith, run_small c.requires.0 (kind_of c.args.kind) _ c.requires.1 c.run_of-run.ensures.from c.run_of-run.ensures.count) }

-- the search is the rule's
searched : (c : After-free_at-i) → c.free_at-i.result ≡ free_slot (configuration c.args.t.now) (words_of c.args.t.now) (kind_of c.args.kind) c.args.cell
searched c =
    slot-told c.requires.0 (kind_of c.args.kind) _ c.run_of-run.ensures.from c.run_of-run.ensures.count c.base.ensures.0 c.record_words.ensures
    c.free_at-i.ensures

pub returns-then-i-run : goal.returns-then-i-run
returns-then-i-run c =
    slot-there c.requires.0 (kind_of c.args.kind) _ c.run_of-run.ensures.from c.run_of-run.ensures.count
    (searched (goal.at.returns-then-i-run c).After-free_at-i) c.if-i-run.true

pub returns-else-i-run : goal.returns-else-i-run
returns-else-i-run c =
    slot-past c.requires.0 (kind_of c.args.kind) _ c.run_of-run.ensures.from c.run_of-run.ensures.count
    (searched (goal.at.returns-else-i-run c).After-free_at-i) c.if-i-run.false
