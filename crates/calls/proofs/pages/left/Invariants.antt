-- `pages::left` meets its contract: of the pages passed, those that held the designator are free.
use Prim.Native.Nat.{◌+◌}
use mathlib.Core.Bool.{cond}
use lib.Dec.{eqb}
use Rattle.rules.specs.Layout.{pages}
use Rattle.laws.proofs.Tab.{Filled}
use Rattle.calls.specs.Map.{held}
use Rattle.calls.proofs.pages.left.Given as goal

abbrev pub invariant-loop-g : goal.invariant-loop-g
invariant-loop-g l = Filled 0 (λ g. cond (eqb (held l.m g) (l.d + 1)) 0 (held l.m g)) pages l.g l.rest
