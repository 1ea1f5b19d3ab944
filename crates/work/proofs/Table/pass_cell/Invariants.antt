-- `pass_cell` meets its contract: the masks of the processes before i are passed.
use Prim.Native.Nat.{◌≤◌}
use Rattle.rules.specs.Work.{joined}
use Rattle.work.proofs.Masked.{row_from}
use Rattle.work.proofs.Table.pass_cell.Given as goal

abbrev pub invariant-loop-i : goal.invariant-loop-i
invariant-loop-i g l = (l.i ≤ l.i-end)
    × g.P.Pass.passed l.initial.pass l.pass l.at (joined l.i (row_from l.self.t.now l.self.n l.processes.from l.files.from l.files.count))
