-- The public functions of crates/session.
use mathlib.Core.Path.{◌≡◌, refl}
use Rattle.session.specs.declared.Stepped.{Stepped}
use Rattle.session.proofs as code
use Rattle.outcomes.proofs.Exact.{Exact, one, both, one-text}

-- what a turn answers is its three parts
stepped : {z z' : Stepped} → z.session ≡ z'.session → z.next ≡ z'.next → z.end ≡ z'.end → z ≡ z'
stepped a b c i = record { session = a i; next = b i; end = c i }

pub start : Exact code.start.Kinds.ps code.start.Kinds.r code.start.Reads.Asked code.start.Reads.Learnt
start = (λ κs a. tt, λ κs a z z' w w' p q. (one p.0 q.0, both (one p.1 q.1) refl))

pub finish : Exact code.finish.Kinds.ps code.finish.Kinds.r code.finish.Reads.Asked code.finish.Reads.Learnt
finish = (λ κs a. tt, λ κs a z z' w w' p q. let t = one-text p.text q.text in (t.0, both refl (both t.1 refl)))

pub step : Exact code.step.Kinds.ps code.step.Kinds.r code.step.Reads.Asked code.step.Reads.Learnt
step = (
  λ κs a. tt,
  λ κs a z z' w w' p q. let t = one-text p.written.text q.written.text in (
    stepped (one p.session q.session) (one p.next q.next) t.0,
    both refl (both (one p.table q.table) (both (one p.store q.store) (both (one p.buffer q.buffer) (both t.1 refl)))),
  ),
)

pub play : Exact code.play.Kinds.ps code.play.Kinds.r code.play.Reads.Asked code.play.Reads.Learnt
play = (
  λ κs a. tt,
  λ κs a z z' w w' p q. let t = one-text p.written q.written in (
    stepped (one p.session q.session) (one p.next q.next) t.0,
    both refl (both (one p.table q.table) (both (one p.store q.store) (both (one p.buffer q.buffer) (both t.1 refl)))),
  ),
)
