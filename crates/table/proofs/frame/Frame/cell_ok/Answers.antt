-- `frame::Frame::cell_ok` meets its contract: the cell's claims, word by word.
use Rattle.std.proofs.Common.{◌<◌, get_or, arith, rules}
use Rattle.rules.specs.WellFormed.{cell_ok}
use Rattle.table.proofs.Config.{cell-word}
use Rattle.table.proofs.frame.Frame.cell_ok.Goals as goal

pub returns : goal.returns
unfolding cell_ok
returns k =
    let f = k.args.self.now in
    let t = f.t.now in
    let c = k.args.c in
    let in_table : c < get_or t 0 0 = omega (arith, f.framed.header.cells_is) in
    rw (
      cell-word t c 0 in_table (search rules),
      cell-word t c 1 in_table (search rules),
      cell-word t c 3 in_table (search rules),
      cell-word t c 6 in_table (search rules),
      cell-word t c 7 in_table (search rules),
    )
