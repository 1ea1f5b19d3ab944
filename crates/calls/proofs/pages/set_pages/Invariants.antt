-- `pages::set_pages` meets its contract: the pages passed are written.
use mathlib.Core.Path.{◌≡◌}
use Rattle.rules.specs.Layout.{configuration}
use Rattle.rules.specs.Rule.{write}
use Rattle.calls.specs.Map.{held}
use Rattle.calls.proofs.MapLaws.{pages_to}
use Rattle.calls.proofs.pages.set_pages.Given as goal

abbrev pub invariant-loop-g : goal.invariant-loop-g
invariant-loop-g l = l.t ≡ write (configuration l.initial.t) l.initial.t (pages_to l.p (held l.fn.m) l.g)
