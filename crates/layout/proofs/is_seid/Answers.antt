-- `layout::is_seid` meets its contract: the code's tests are the rule's.
use Rattle.rules.specs.Seid.{is_seid}
use Rattle.layout.proofs.is_seid.Goals as goal

pub returns : goal.returns
unfolding is_seid
returns c = rw (c.serial_of.ensures, c.index_of.ensures, c.class_of.ensures)
