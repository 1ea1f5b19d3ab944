-- The public functions of crates/script.
use mathlib.Core.Path.{refl}
use Rattle.script.proofs as code
use Rattle.outcomes.proofs.Exact.{Exact, one, both}

pub Reader-new : Exact code.Reader.new.Kinds.ps code.Reader.new.Kinds.r code.Reader.new.Reads.Asked code.Reader.new.Reads.Learnt
Reader-new = (λ κs a. tt, λ κs a z z' w w' p q. (one p q, refl))

pub Reader-is-calling : Exact code.Reader.is_calling.Kinds.ps code.Reader.is_calling.Kinds.r code.Reader.is_calling.Reads.Asked code.Reader.is_calling.Reads.Learnt
Reader-is-calling = (λ κs a. tt, λ κs a z z' w w' p q. (one p q, refl))

pub Reader-is-between : Exact code.Reader.is_between.Kinds.ps code.Reader.is_between.Kinds.r code.Reader.is_between.Reads.Asked code.Reader.is_between.Reads.Learnt
Reader-is-between = (λ κs a. tt, λ κs a z z' w w' p q. (one p q, refl))

pub advance : Exact code.advance.Kinds.ps code.advance.Kinds.r code.advance.Reads.Asked code.advance.Reads.Learnt
advance = (λ κs a. tt, λ κs a z z' w w' p q. (one p.moved q.moved, both refl (both (one p.table q.table) (both (one p.buffer q.buffer) refl))))
