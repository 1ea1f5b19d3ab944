-- `found::Found::cell` meets its contract: the list of the kind has the slot's cell.
use Rattle.std.proofs.Common.{◌≡◌, arith, rules}
use Rattle.rules.specs.Layout.{cell_of}
use Rattle.layout.specs.Kinds.{kind_of}
use Rattle.table.specs.Frame.{conf}
use Rattle.table.proofs.Config.{slots-few}
use Rattle.table.proofs.Holders.{cell-few}
use Rattle.table.proofs.found.Found.cell.Goals as goal

pub bounds-cells-i : goal.bounds-cells-i
bounds-cells-i c = omega (arith, slots-few c.args.self.now.frame (kind_of c.args.kind))

pub returns : goal.returns
returns c =
    let f = c.args.self.now in
    let k = kind_of c.args.kind in
    let value : c.from.result ≡ cell_of (conf f.frame) k c.args.i = search rules in
    record { value = value; low = omega (arith, value, cell-few f.frame.t.now f.frame.n f.shaped k c.args.i c.requires) }
