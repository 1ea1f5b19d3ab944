-- `words::put_bytes` meets its contract: the first i bytes that find room are copied, and the others change nothing.
use Rattle.words.proofs.Copies.{Copied}
use Rattle.words.proofs.put_bytes.Given as goal

abbrev pub invariant-loop-i : goal.invariant-loop-i
invariant-loop-i l = Copied l.initial.d l.at l.s l.n l.i l.d
