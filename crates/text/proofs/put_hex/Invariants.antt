-- `text::put_hex` meets its contract: the digits of the bytes so far are written.
use lib.ListN.{take}
use Rattle.rules.specs.Replay.{hex}
use Rattle.output.specs.Wrote.{Wrote}
use Rattle.text.proofs.put_hex.Given as goal

abbrev pub invariant-loop-b : goal.invariant-loop-b
invariant-loop-b l = Wrote l.initial.out l.at (hex (take l.b-index l.s)) l.next l.out
