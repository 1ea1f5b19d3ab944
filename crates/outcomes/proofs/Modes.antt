-- The public functions of crates/modes.
use mathlib.Core.Path.{refl}
use Rattle.modes.proofs as code
use Rattle.outcomes.proofs.Exact.{Exact, one}

pub valid : Exact code.valid.Kinds.ps code.valid.Kinds.r code.valid.Reads.Asked code.valid.Reads.Learnt
valid = (λ κs a. tt, λ κs a z z' w w' p q. (one p q, refl))

pub clash : Exact code.clash.Kinds.ps code.clash.Kinds.r code.clash.Reads.Asked code.clash.Reads.Learnt
clash = (λ κs a. tt, λ κs a z z' w w' p q. (one p q, refl))

pub reads : Exact code.reads.Kinds.ps code.reads.Kinds.r code.reads.Reads.Asked code.reads.Reads.Learnt
reads = (λ κs a. tt, λ κs a z z' w w' p q. (one p q, refl))

pub writes : Exact code.writes.Kinds.ps code.writes.Kinds.r code.writes.Reads.Asked code.writes.Reads.Learnt
writes = (λ κs a. tt, λ κs a z z' w w' p q. (one p q, refl))

pub valid-table : Exact code.valid_table.Kinds.ps code.valid_table.Kinds.r code.valid_table.Reads.Asked code.valid_table.Reads.Learnt
valid-table = (λ κs a. tt, λ κs a z z' w w' p q. (one p q, refl))

pub valid-in : Exact code.valid_in.Kinds.ps code.valid_in.Kinds.r code.valid_in.Reads.Asked code.valid_in.Reads.Learnt
valid-in = (λ κs a. tt, λ κs a z z' w w' p q. (one p q, refl))
