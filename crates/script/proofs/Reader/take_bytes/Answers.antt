-- `script::Reader::take_bytes` meets its contract: the piece ends before the buffer, or not.
use Rattle.script.proofs.Stretch.{code-more-bytes, code-all-bytes}
use Rattle.script.proofs.Reader.take_bytes.Goals as goal

pub returns-then-come-left : goal.returns-then-come-left
returns-then-come-left c =
    λ t. rw c.further.ensures
    (code-more-bytes _ t _ _ _ _ c.requires c.args.ahead.some c.bytes_left-left.ensures _ c.if-come-left.true c.put_bytes.ensures)

pub returns : goal.returns
returns c =
    λ t. rw c.at_call.ensures
    (code-all-bytes _ t _ _ _ _ c.requires c.args.ahead.some c.bytes_left-left.ensures _ c.if-come-left.false c.put_bytes-2.ensures)
