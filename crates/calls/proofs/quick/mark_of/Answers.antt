-- `quick::mark_of` meets its contract: both slots are counted from the first of the cell's run.
use Rattle.rules.specs.Layout.{process, file}
use Rattle.calls.proofs.QuickPlaces.{near-from, near-low, mark-of-told}
use Rattle.calls.proofs.quick.mark_of.Goals as goal

pub overflow_sub-f : goal.overflow_sub-f
overflow_sub-f c = near-from c.requires.0 file c.args.f c.requires.3 c.run_of-files.ensures.from

pub overflow_sub-p : goal.overflow_sub-p
overflow_sub-p c = near-from c.requires.0 process c.args.p c.requires.2 c.run_of-processes.ensures.from

pub mark_in-requires : goal.mark_in-requires
mark_in-requires c = (
  c.requires.0,
  c.requires.1,
  near-low c.requires.0 file c.args.f c.requires.3 c.run_of-files.ensures.from,
  near-low c.requires.0 process c.args.p c.requires.2 c.run_of-processes.ensures.from,
)

pub returns : goal.returns
returns c =
    mark-of-told c.requires.0 c.args.p c.args.f c.requires.2 c.run_of-processes.ensures.from c.run_of-files.ensures.from c.mark_in.ensures
