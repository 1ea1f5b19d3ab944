-- The public functions of crates/text.
use mathlib.Core.Path.{refl}
use Rattle.text.proofs as code
use Rattle.outcomes.proofs.Exact.{Exact, both, one-text}

pub put-error-name : Exact code.put_error_name.Kinds.ps code.put_error_name.Kinds.r code.put_error_name.Reads.Asked code.put_error_name.Reads.Learnt
put-error-name = (λ κs a. tt, λ κs a z z' w w' p q. let t = one-text p q in (t.0, both t.1 refl))

pub put-decimal : Exact code.put_decimal.Kinds.ps code.put_decimal.Kinds.r code.put_decimal.Reads.Asked code.put_decimal.Reads.Learnt
put-decimal = (λ κs a. tt, λ κs a z z' w w' p q. let t = one-text p q in (t.0, both t.1 refl))

pub put-hex : Exact code.put_hex.Kinds.ps code.put_hex.Kinds.r code.put_hex.Reads.Asked code.put_hex.Reads.Learnt
put-hex = (λ κs a. tt, λ κs a z z' w w' p q. let t = one-text p q in (t.0, both t.1 refl))

pub put-line : Exact code.put_line.Kinds.ps code.put_line.Kinds.r code.put_line.Reads.Asked code.put_line.Reads.Learnt
put-line = (λ κs a. tt, λ κs a z z' w w' p q. let t = one-text p q in (t.0, both t.1 refl))
