-- `hall::tell` meets its contract: four lists are stored, one after the other.
use Rattle.layout.specs.Hall.{stored}
use Rattle.table.proofs.hall.tell.Goals as goal

pub returns : goal.returns
unfolding stored
returns c =
    rw (
      c.put_bytes.ensures,
      c.flow_bytes-flows.ensures,
      c.put_cells-3.ensures,
      c.put_cells-2.ensures,
      c.put_cells.ensures,
    )
