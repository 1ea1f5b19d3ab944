-- The public functions of crates/output.
use mathlib.Core.Path.{refl}
use Rattle.output.proofs as code
use Rattle.outcomes.proofs.Exact.{Exact, both, one-text}

pub put_byte : Exact code.put_byte.Kinds.ps code.put_byte.Kinds.r code.put_byte.Reads.Asked code.put_byte.Reads.Learnt
put_byte = (λ κs a. tt, λ κs a z z' w w' p q. let t = one-text p q in (t.0, both t.1 refl))

pub put-bytes : Exact code.put_bytes.Kinds.ps code.put_bytes.Kinds.r code.put_bytes.Reads.Asked code.put_bytes.Reads.Learnt
put-bytes = (λ κs a. tt, λ κs a z z' w w' p q. let t = one-text p q in (t.0, both t.1 refl))
