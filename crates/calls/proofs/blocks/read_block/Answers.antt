-- `blocks::read_block` meets its contract: the buffer's length, then what refuses a view too, and the block copied out.
use native.Mathlib.Omega.{arith}
use Rattle.calls.proofs.BlocksLaws.{read-stops, read-passes, read-buffer, read-refused, read_done}
use Rattle.calls.proofs.blocks.read_block.Goals as goal

pub returns-in_err-refuse : goal.returns-in_err-refuse
returns-in_err-refuse c =
    read-refused _ _ _ _ _ _ _ _ c.from_residual.ensures.0 c.from_residual.ensures.1 (read-stops _ _ _ _ _ c.args.buffer.now _ c.in_err-refuse.ensures)

pub returns-in_err-from : goal.returns-in_err-from
returns-in_err-from c =
    read-refused _ _ _ _ _ _ _ _ c.from_residual-in_err-from.ensures.0 c.from_residual-in_err-from.ensures.1
    (read-passes _ _ _ _ _ c.args.buffer.now c.in_ok-refuse.ensures c.in_err-from.ensures.refused)

pub returns : goal.returns
returns c =
    read_done _ _ _ _ _ _ (read-passes _ _ _ _ _ c.args.buffer.now c.in_ok-refuse.ensures c.in_ok-from.ensures.refused)
    (read-buffer _ _ _ _ _ c.args.buffer.now c.in_ok-refuse.ensures c.in_ok-from.ensures.place (omega arith) c.put_bytes.ensures)
