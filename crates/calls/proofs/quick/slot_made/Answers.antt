-- `quick::slot_made` meets its contract: where the table does not have the cell, there is no slot in it.
use Rattle.calls.proofs.QuickPlaces.{made-nowhere}
use Rattle.calls.proofs.quick.slot_made.Goals as goal

pub returns-then-on-cell : goal.returns-then-on-cell
returns-then-on-cell c = made-nowhere _ _ _ _ c.requires.0 c.cell_made-cell.ensures c.if-on-cell.true
