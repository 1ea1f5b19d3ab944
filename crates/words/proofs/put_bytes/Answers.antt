-- `words::put_bytes` meets its contract: the first i bytes that find room are copied, and the others change nothing.
use mathlib.Core.Path.{refl}
use Rattle.words.proofs.Copies.{copied_none, copied_more, copied_all}
use Rattle.words.proofs.put_bytes.Goals as goal

pub loop-i-init : goal.loop-i-init
loop-i-init c = copied_none _ _ _ _

pub loop-i-preserved : goal.loop-i-preserved
loop-i-preserved c = copied_more _ _ _ _ c.room-n.ensures _ _ c.loop-i.invariant 0 _ c.loop-i-test.true refl

pub returns : goal.returns
returns c = copied_all _ _ _ _ c.room-n.ensures _ _ c.loop-i.invariant c.loop-i-test.false
