-- `pages::set_pages` meets its contract: the pages passed are written.
use mathlib.Core.Path.{◌≡◌}
use native.Mathlib.Omega.{arith}
use Rattle.rules.specs.Layout.{pages}
use Rattle.rules.specs.Find.{pages_set}
use Rattle.calls.proofs.MapLaws.{pages-none, pages-more}
use Rattle.calls.proofs.pages.set_pages.Goals as goal

pub loop-g-init : goal.loop-g-init
loop-g-init c = pages-none _ _ _ _

pub loop-g-preserved : goal.loop-g-preserved
loop-g-preserved c = pages-more c.requires _ _ _ c.loop-g.invariant c.write.ensures

pub returns : goal.returns
unfolding pages_set
returns c = let e : c.loop-g.g ≡ pages = omega arith in rw e at c.loop-g.invariant
