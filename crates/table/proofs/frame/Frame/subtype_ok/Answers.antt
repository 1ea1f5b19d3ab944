-- `frame::Frame::subtype_ok` meets its contract: the subtype's claims, word by word.
use Rattle.std.proofs.Common.{arith}
use Rattle.rules.specs.WellFormed.{subtype_ok}
use Rattle.table.proofs.Config.{cells-read, subtype-word}
use Rattle.table.proofs.frame.Frame.subtype_ok.Goals as goal

pub returns : goal.returns
unfolding subtype_ok
returns c =
    let f = c.args.self.now in
    let t = f.t.now in
    let i = c.args.i in
    let is = f.framed.header in
    rw (
      c.wide.ensures,
      c.subtype_cell-last.ensures,
      c.saturating_sub.ensures,
      c.subtype_cell-cell.ensures,
      c.subtype_at-at.ensures.0,
      cells-read t f.n is,
      subtype-word t f.n is i 1 c.requires (omega arith),
      subtype-word t f.n is i 2 c.requires (omega arith),
      subtype-word t f.n is i 3 c.requires (omega arith),
    )
