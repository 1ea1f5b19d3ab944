-- The public functions of crates/numerals.
use mathlib.Core.Path.{refl}
use Rattle.numerals.proofs as code
use Rattle.outcomes.proofs.Exact.{Exact, one, both, one-text}

pub feed : Exact code.feed.Kinds.ps code.feed.Kinds.r code.feed.Reads.Asked code.feed.Reads.Learnt
feed = (λ κs a. tt, λ κs a z z' w w' p q. (one p q, refl))

pub feed-all : Exact code.feed_all.Kinds.ps code.feed_all.Kinds.r code.feed_all.Reads.Asked code.feed_all.Reads.Learnt
feed-all = (λ κs a. tt, λ κs a z z' w w' p q. (one p q, refl))

pub put-number : Exact code.put_number.Kinds.ps code.put_number.Kinds.r code.put_number.Reads.Asked code.put_number.Reads.Learnt
put-number = (λ κs a. tt, λ κs a z z' w w' p q. let t = one-text p q in (t.0, both t.1 refl))
