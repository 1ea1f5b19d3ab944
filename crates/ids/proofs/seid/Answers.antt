-- `ids::seid` meets its contract: where the three parts fit their places the word holds them.
use mathlib.Core.Path.{sym}
use Rattle.rules.specs.Seid.{seid}
use Rattle.laws.proofs.Tests.{cond-true}
use Rattle.ids.proofs.seid.Goals as goal

pub returns-then-class-index : goal.returns-then-class-index
unfolding seid
returns-then-class-index c = sym (cond-true _ _ _ c.if-class-index.true)
