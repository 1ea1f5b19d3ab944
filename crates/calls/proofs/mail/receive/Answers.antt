-- `mail::receive` meets its contract: the message is shown before the queue moves up.
use Rattle.calls.proofs.Queues.{messages-near, messages-within, receive-refused, receive-done}
use native.Mathlib.Omega.{arith}
use Rattle.calls.proofs.mail.receive.Goals as goal

pub returns-in_err-refuse : goal.returns-in_err-refuse
returns-in_err-refuse c =
    receive-refused _ _ _ c.read-waiting.ensures _ _ c.in_err-refuse.ensures c.from_residual.ensures.0 c.from_residual.ensures.1

pub show-requires : goal.show-requires
show-requires c = omega (arith, messages-near c.requires c.record_at-from.ensures.0)

pub returns : goal.returns
returns c =
    receive-done _ _ _ c.read-waiting.ensures c.requires.known c.in_ok-refuse.ensures c.record_at-from.ensures.0 c.saturating_sub.ensures c.write.ensures
    (messages-within c.requires _ _ c.record_at-from.ensures.0 c.write.ensures) (omega arith) c.copy_within.ensures.after c.clear.ensures c.show.ensures
