-- `text::put_hex` meets its contract: the digits of the bytes so far are written.
use Rattle.rules.specs.Replay.{hex}
use Rattle.output.proofs.Laws.{none, then, as-text}
use Rattle.text.proofs.Numbers.{hex-more}
use Rattle.text.proofs.put_hex.Goals as goal

pub loop-b-init : goal.loop-b-init
unfolding hex
loop-b-init c = none _ _

pub loop-b-preserved : goal.loop-b-preserved
loop-b-preserved c =
    as-text _ _ _ _ _ _ (hex-more _ _ _ _ c.loop-b-test.true c.hex_digit.ensures c.hex_digit-in-loop-b.ensures)
    (then _ _ _ _ _ _ _ _ c.loop-b.invariant (then _ _ _ _ _ _ _ _
    c.put_byte-next.ensures c.put_byte-next-in-loop-b.ensures))
