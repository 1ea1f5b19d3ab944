-- `mail::show` meets its contract: so many words are shown as turns were made.
use mathlib.Core.Path.{refl}
use Rattle.calls.specs.Mail.{shown_at}
use Rattle.calls.proofs.Queues.{shown-more}
use Rattle.calls.proofs.mail.show.Goals as goal

pub loop-i-init : goal.loop-i-init
unfolding shown_at
loop-i-init c = refl

pub loop-i-preserved : goal.loop-i-preserved
loop-i-preserved c = rw (shown-more, ← c.loop-i.invariant, ← c.word.ensures) (rw c.to_be_bytes.ensures at c.put_bytes.ensures)
