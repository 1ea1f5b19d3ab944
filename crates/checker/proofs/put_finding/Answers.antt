-- `checker::put_finding` meets its contract: the four byte strings are the rules' words.
use Rattle.rules.specs.Errors.{ascii}
use Rattle.rules.specs.Finding.{said}
use Rattle.checker.proofs.put_finding.Goals as goal

pub returns-in-Agree : goal.returns-in-Agree
unfolding said ascii
returns-in-Agree c = rw c.in-Agree.is c.put_around.ensures

pub returns-in-Wrong : goal.returns-in-Wrong
unfolding said ascii
returns-in-Wrong c = rw c.in-Wrong.is c.put_around-in-Wrong.ensures

pub returns-in-Missing : goal.returns-in-Missing
unfolding said ascii
returns-in-Missing c = rw c.in-Missing.is c.put_around-in-Missing.ensures

pub returns-in-Over : goal.returns-in-Over
unfolding said ascii
returns-in-Over c = rw c.in-Over.is c.put_around-in-Over.ensures
