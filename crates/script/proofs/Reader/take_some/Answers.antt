-- `script::Reader::take_some` meets its contract: a number and a call's buffer.
use Rattle.script.proofs.Reader.take_some.Goals as goal

pub returns-then-is_bytes : goal.returns-then-is_bytes
returns-then-is_bytes c = c.take_bytes.ensures _

pub returns-else-is_bytes : goal.returns-else-is_bytes
returns-else-is_bytes c = c.take_number.ensures _
