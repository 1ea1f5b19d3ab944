-- `row_clash` meets its contract: no mask passed names a descriptor that clashes.
use Prim.Native.Nat.{◌≤◌}
use Rattle.marks.proofs.Steps.{Missed}
use Rattle.marks.proofs.row_clash.Given as goal

abbrev pub invariant-loop-i : goal.invariant-loop-i
invariant-loop-i l = (l.i ≤ l.i-end) × Missed l.t l.w l.held l.row l.width l.s l.b l.i
