-- `Level::flows_to` meets its contract: the word test on the compartments is the rule's.
use native.Mathlib.Omega.{arith}
use Rattle.levels.proofs.Flow.{by-words}
use Rattle.levels.proofs.Level.flows_to.Goals as goal

pub returns : goal.returns
returns c = by-words _ _ (omega arith)
