-- The public functions of crates/table.
use mathlib.Core.Path.{refl}
use Rattle.table.proofs as code
use Rattle.outcomes.proofs.Exact.{Exact, one, both}

pub can-set-up : Exact code.can_set_up.Kinds.ps code.can_set_up.Kinds.r code.can_set_up.Reads.Asked code.can_set_up.Reads.Learnt
can-set-up = (λ κs a. tt, λ κs a z z' w w' p q. (one p q, refl))

pub judge : Exact code.judge.Kinds.ps code.judge.Kinds.r code.judge.Reads.Asked code.judge.Reads.Learnt
judge = (λ κs a. tt, λ κs a z z' w w' p q. (one p.0 q.0, both refl (both refl (both (one p.1 q.1) refl))))

pub check : Exact code.check.Kinds.ps code.check.Kinds.r code.check.Reads.Asked code.check.Reads.Learnt
check = (λ κs a. tt, λ κs a z z' w w' p q. (one p q, refl))

pub set-up : Exact code.set_up.Kinds.ps code.set_up.Kinds.r code.set_up.Reads.Asked code.set_up.Reads.Learnt
set-up = (λ κs a. tt, λ κs a z z' w w' p q. (one p.0 q.0, both (one p.1 q.1) refl))
