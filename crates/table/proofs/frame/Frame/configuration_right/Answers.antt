-- `frame::Frame::configuration_right` meets its contract.
use Rattle.table.proofs.frame.Frame.configuration_right.Goals as goal

pub returns : goal.returns
returns c =
    rw (
      c.subtypes_ok.ensures,
      c.sums_match.ensures,
      c.levels_distinct.ensures,
      c.cells_ok.ensures,
    )
