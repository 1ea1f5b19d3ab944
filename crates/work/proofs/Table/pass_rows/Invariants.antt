-- `pass_rows` meets its contract: the masks of the cells before c are passed.
use Rattle.rules.specs.Work.{joined}
use Rattle.work.specs.Parts.{rows_in}
use Rattle.work.proofs.Masked.{Passed}
use Rattle.work.proofs.Table.pass_rows.Given as goal

abbrev pub invariant-loop-c : goal.invariant-loop-c
invariant-loop-c g l = Passed l.self.t.now l.initial.at l.c-end l.c l.p l.f l.at
    × g.P.Pass.passed l.initial.pass l.pass l.initial.at (joined l.c (rows_in l.self.t.now))
