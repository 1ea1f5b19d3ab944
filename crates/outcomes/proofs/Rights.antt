-- The public functions of crates/rights.
use mathlib.Core.Path.{refl}
use Rattle.rights.proofs as code
use Rattle.outcomes.proofs.Exact.{Exact, one}

pub rights : Exact code.rights.Kinds.ps code.rights.Kinds.r code.rights.Reads.Asked code.rights.Reads.Learnt
rights = (λ κs a. tt, λ κs a z z' w w' p q. (one p q, refl))

pub may_read : Exact code.may_read.Kinds.ps code.may_read.Kinds.r code.may_read.Reads.Asked code.may_read.Reads.Learnt
may_read = (λ κs a. tt, λ κs a z z' w w' p q. (one p q, refl))

pub may_write : Exact code.may_write.Kinds.ps code.may_write.Kinds.r code.may_write.Reads.Asked code.may_write.Reads.Learnt
may_write = (λ κs a. tt, λ κs a z z' w w' p q. (one p q, refl))

pub lacks : Exact code.lacks.Kinds.ps code.lacks.Kinds.r code.lacks.Reads.Asked code.lacks.Reads.Learnt
lacks = (λ κs a. tt, λ κs a z z' w w' p q. (one p q, refl))

pub asks_read : Exact code.asks_read.Kinds.ps code.asks_read.Kinds.r code.asks_read.Reads.Asked code.asks_read.Reads.Learnt
asks_read = (λ κs a. tt, λ κs a z z' w w' p q. (one p q, refl))

pub asks_write : Exact code.asks_write.Kinds.ps code.asks_write.Kinds.r code.asks_write.Reads.Asked code.asks_write.Reads.Learnt
asks_write = (λ κs a. tt, λ κs a z z' w w' p q. (one p q, refl))

pub valid-access : Exact code.valid_access.Kinds.ps code.valid_access.Kinds.r code.valid_access.Reads.Asked code.valid_access.Reads.Learnt
valid-access = (λ κs a. tt, λ κs a z z' w w' p q. (one p q, refl))

pub access : Exact code.access.Kinds.ps code.access.Kinds.r code.access.Reads.Asked code.access.Reads.Learnt
access = (λ κs a. tt, λ κs a z z' w w' p q. (one p q, refl))
