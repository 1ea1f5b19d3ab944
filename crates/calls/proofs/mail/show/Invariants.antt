-- `mail::show` meets its contract: so many words are shown as turns were made.
use mathlib.Core.Path.{◌≡◌}
use Rattle.calls.specs.Mail.{shown_at}
use Rattle.calls.proofs.mail.show.Given as goal

abbrev pub invariant-loop-i : goal.invariant-loop-i
invariant-loop-i l = l.b ≡ shown_at l.t l.from l.initial.b l.i
