-- `processes::drop_entries` meets its contract: so many entries are given up as turns were made.
use mathlib.Core.Path.{◌≡◌}
use Rattle.rules.specs.Layout.{configuration}
use Rattle.rules.specs.Rule.{write}
use Rattle.rules.specs.Call02.{dropped_to}
use Rattle.layout.specs.Kinds.{kind_of}
use Rattle.calls.specs.World.{words_of}
use Rattle.calls.proofs.processes.drop_entries.Given as goal

abbrev pub invariant-loop-d : goal.invariant-loop-d
invariant-loop-d l =
    l.t ≡ write (configuration l.initial.t) l.initial.t (dropped_to (configuration l.initial.t) (words_of l.initial.t) (kind_of l.kind) l.q l.d)
