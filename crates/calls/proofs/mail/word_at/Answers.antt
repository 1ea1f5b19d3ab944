-- `mail::word_at` meets its contract.
use native.Mathlib.Omega.{arith}
use Rattle.rules.specs.Words.{word4}
use Rattle.calls.proofs.mail.word_at.Goals as goal

pub returns : goal.returns
unfolding word4
returns c = omega (arith, c.from_be_bytes.ensures, c.byte.ensures, c.byte-2.ensures, c.byte-3.ensures, c.byte-4.ensures)
