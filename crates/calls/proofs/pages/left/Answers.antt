-- `pages::left` meets its contract: of the pages passed, those that held the designator are free.
use native.Mathlib.Omega.{arith}
use Rattle.laws.proofs.Tab.{filled-all}
use Rattle.calls.proofs.pages.left.Goals as goal

pub returns : goal.returns
returns c = filled-all _ _ _ _ _ (omega arith) c.loop-g.invariant
