-- `quick::lists_at` meets its contract: the lists of a small table begin at a place that fits.
use Rattle.layout.specs.Kinds.{kind_of}
use Rattle.calls.proofs.QuickPlaces.{lists-few}
use native.Mathlib.Omega.{arith}
use Rattle.calls.proofs.quick.lists_at.Goals as goal

pub overflow_cast-result : goal.overflow_cast-result
overflow_cast-result c = record { fits = omega (arith, c.lists_at.ensures.0, lists-few c.requires (kind_of c.args.kind)) }

pub returns : goal.returns
returns c = (c.lists_at.ensures.0, omega (arith, c.lists_at.ensures.0, lists-few c.requires (kind_of c.args.kind)))
