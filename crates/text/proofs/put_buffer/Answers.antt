-- `text::put_buffer` meets its contract: a space and the hex digits where they are shown, else nothing.
use Rattle.output.proofs.Laws.{then}
use Rattle.text.proofs.put_buffer.Goals as goal

pub returns-then-shows_buffer : goal.returns-then-shows_buffer
returns-then-shows_buffer c =
    let is = c.shows_buffer.ensures in
    let yes = c.if-shows_buffer.true in
    rw (← is, yes) (then _ _ _ _ _ _ _ _ c.put_byte-part.ensures c.put_hex.ensures)
