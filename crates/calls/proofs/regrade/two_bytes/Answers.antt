-- `regrade::two_bytes` meets its contract: a byte is below 256.
use native.Mathlib.Omega.{arith}
use Rattle.rules.specs.Words.{word2}
use Rattle.calls.proofs.regrade.two_bytes.Goals as goal

pub returns : goal.returns
unfolding word2
returns c = omega (arith, c.from.ensures, c.from_be_bytes.ensures, c.byte.ensures, c.byte-2.ensures)
