-- `subtypes::named` meets its contract.
use Rattle.table.proofs.subtypes.named.Goals as goal

pub returns : goal.returns
returns c = rw (c.serial_of.ensures, c.is_seid.ensures)
