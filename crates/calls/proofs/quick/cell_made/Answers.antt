-- `quick::cell_made` meets its contract: a call that is no copy has another number.
use mathlib.Core.Path.{sym}
use Rattle.calls.specs.declared.code.Code.TheVariants.{Regrade}
use Rattle.laws.proofs.Tests.{cond-false}
use Rattle.calls.proofs.Named.{other-call}
use Rattle.calls.proofs.quick.cell_made.Goals as goal

pub returns-in_default : goal.returns-in_default
returns-in_default c = sym (cond-false _ _ _ (other-call c.args.code Regrade c.in_default.not-Regrade))
