-- The public functions of crates/words.
use mathlib.Core.Path.{refl}
use Rattle.words.proofs as code
use Rattle.outcomes.proofs.Exact.{Exact, one, both}

pub word : Exact code.word.Kinds.ps code.word.Kinds.r code.word.Reads.Asked code.word.Reads.Learnt
word = (λ κs a. tt, λ κs a z z' w w' p q. (one p q, refl))

pub byte : Exact code.byte.Kinds.ps code.byte.Kinds.r code.byte.Reads.Asked code.byte.Reads.Learnt
byte = (λ κs a. tt, λ κs a z z' w w' p q. (one p q, refl))

pub put : Exact code.put.Kinds.ps code.put.Kinds.r code.put.Reads.Asked code.put.Reads.Learnt
put = (λ κs a. tt, λ κs a z z' w w' p q. (refl, both (one p q) refl))

pub put-bytes : Exact code.put_bytes.Kinds.ps code.put_bytes.Kinds.r code.put_bytes.Reads.Asked code.put_bytes.Reads.Learnt
put-bytes = (λ κs a. tt, λ κs a z z' w w' p q. (refl, both (one p q) refl))

pub put-zeros : Exact code.put_zeros.Kinds.ps code.put_zeros.Kinds.r code.put_zeros.Reads.Asked code.put_zeros.Reads.Learnt
put-zeros = (λ κs a. tt, λ κs a z z' w w' p q. (refl, both (one p q) refl))

pub wide : Exact code.wide.Kinds.ps code.wide.Kinds.r code.wide.Reads.Asked code.wide.Reads.Learnt
wide = (λ κs a. tt, λ κs a z z' w w' p q. (one p q, refl))

pub one_less : Exact code.one_less.Kinds.ps code.one_less.Kinds.r code.one_less.Reads.Asked code.one_less.Reads.Learnt
one_less = (λ κs a. tt, λ κs a z z' w w' p q. (one p q, refl))

pub first : Exact code.first.Kinds.ps code.first.Kinds.r code.first.Reads.Asked code.first.Reads.Learnt
first = (λ κs a. tt, λ κs a z z' w w' p q. (one p q, refl))
