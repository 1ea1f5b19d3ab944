-- `rights::rights` meets its contract: each way through the code picks the set of bits that the rule picks.
use borrow.Author.Tests.{eq-eqb, ne_eqb}
use Rattle.rules.specs.Rights.{rights}
use Rattle.rights.proofs.rights.Goals as goal

pub returns-then-u-owner : goal.returns-then-u-owner
unfolding rights
returns-then-u-owner c = rw (eq-eqb _ _ c.if-u-owner.true)

pub returns-then-g-group : goal.returns-then-g-group
unfolding rights
returns-then-g-group c = rw (ne_eqb _ _ c.if-u-owner.false, eq-eqb _ _ c.if-g-group.true)

pub returns-else-g-group : goal.returns-else-g-group
unfolding rights
returns-else-g-group c = rw (ne_eqb _ _ c.if-u-owner.false, ne_eqb _ _ c.if-g-group.false)
