-- `pages::map_of` meets its contract: the pages passed are read.
use native.Mathlib.Omega.{arith}
use Rattle.laws.proofs.Tab.{filled-all}
use Rattle.calls.proofs.pages.map_of.Goals as goal

pub returns : goal.returns
returns c = filled-all _ _ _ _ _ (omega arith) c.loop-g.invariant
