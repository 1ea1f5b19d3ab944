-- `processes::drop_entries` meets its contract: so many entries are given up as turns were made.
use mathlib.Core.Path.{◌≡◌}
use native.Mathlib.Omega.{arith}
use Rattle.rules.specs.Layout.{entries}
use Rattle.layout.specs.Kinds.{kind_of}
use Rattle.calls.proofs.ProcessesLaws.{none_yet, ready, one_more}
use Rattle.calls.proofs.processes.drop_entries.Goals as goal

pub loop-d-init : goal.loop-d-init
loop-d-init c = none_yet (kind_of c.args.kind) _ c.requires

pub drop_entry-requires : goal.drop_entry-requires
drop_entry-requires c =
    ready (kind_of c.args.kind) _ c.requires _ c.loop-d.invariant

pub loop-d-preserved : goal.loop-d-preserved
loop-d-preserved c =
    one_more (kind_of c.args.kind) _ c.requires _ (omega arith) c.loop-d.invariant c.drop_entry.ensures

pub returns : goal.returns
returns c = let e : c.loop-d.d ≡ entries = omega arith in rw e at c.loop-d.invariant
