-- `call` meets its contract: refused where the table is bad, and else the call on the judged table.
use Rattle.calls.proofs.Whole.{no_table, ready_by}
use native.Mathlib.Omega.{arith}
use Rattle.calls.proofs.call.Goals as goal

pub returns-then-not-judge : goal.returns-then-not-judge
returns-then-not-judge c = no_table _ _ _ _ _ _ _ _ c.judge.ensures.value c.if-not-judge.true c.told.ensures

pub call_judged-requires : goal.call_judged-requires
call_judged-requires c = (
  ready_by _ _ c.judge.ensures.value c.if-not-judge.false c.judge.ensures.hall_after c.matrix_in-m.ensures,
  λ l. absurd (omega (arith, l)),
)

pub returns : goal.returns
returns c = rw c.told-2.ensures c.call_judged.ensures.did
