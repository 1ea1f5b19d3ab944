-- `pass_cell` meets its contract: the masks of the processes before i are passed.
use native.Mathlib.Omega.{arith}
use Rattle.work.proofs.Joined.{pass-none}
use Rattle.work.proofs.Masked.{row-passed, all-processes}
use Rattle.work.proofs.Table.pass_cell.Goals as goal

pub loop-i-init : goal.loop-i-init
loop-i-init g c = (omega arith, pass-none g.met.P.Pass.in_turn _ _ _)

pub loop-i-preserved : goal.loop-i-preserved
loop-i-preserved g c =
    let a = c.args in
    (omega arith, row-passed _ a.self.n _ _ _ _ g.met.P.Pass.in_turn _ _ _ _ c.loop-i.invariant.1 c.masks.ensures)

pub returns : goal.returns
returns g c =
    rw (all-processes _ c.args.self.n _ _ _ _ _ c.loop-i.invariant.0 c.loop-i-test.false) at c.loop-i.invariant.1
