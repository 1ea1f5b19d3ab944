-- `base::refuse` meets its contract: none of the refusals that are passed holds, so the first is among the rest.
use mathlib.Core.Path.{◌≡◌}
use lib.ListN.{drop}
use Rattle.rules.specs.Rule.{first_refusal}
use Rattle.calls.specs.Refusing.{listed}
use Rattle.calls.proofs.base.refuse.Given as goal

abbrev pub invariant-loop-test : goal.invariant-loop-test
invariant-loop-test g l = first_refusal (listed l.fn.refusals) ≡ first_refusal (listed (drop l.test-index l.fn.refusals))
