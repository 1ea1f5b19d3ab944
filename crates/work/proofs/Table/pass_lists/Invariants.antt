-- `pass_lists` meets its contract: the lists of the cells before c are passed.
use mathlib.Core.Path.{◌≡◌}
use Rattle.rules.specs.Layout.{configuration, first_slot}
use Rattle.rules.specs.Work.{joined}
use Rattle.layout.specs.Kinds.{kind_of}
use Rattle.work.proofs.Sized.{Walk}
use Rattle.work.proofs.Listed.{list_in}
use Rattle.work.proofs.Table.pass_lists.Given as goal

abbrev pub invariant-loop-c : goal.invariant-loop-c
invariant-loop-c g l = Walk l.self.t.now l.c-end l.c × (l.from ≡ first_slot (configuration l.self.t.now) (kind_of l.kind) l.c)
    × g.P.Pass.passed l.initial.pass l.pass l.at (joined l.c (list_in l.self.t.now (kind_of l.kind)))
