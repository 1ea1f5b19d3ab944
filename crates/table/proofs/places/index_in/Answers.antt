-- `places::index_in` meets its contract: class and index make one number, and the class's part is taken off.
use Rattle.std.proofs.Common.{arith}
use Rattle.rules.specs.Seid.{class}
use Rattle.laws.proofs.Seids.{class_low}
use Rattle.layout.specs.Kinds.{kind_of}
use Rattle.table.proofs.Holders.{indexed}
use Rattle.table.proofs.places.index_in.Goals as goal

pub overflow_mul-class : goal.overflow_mul-class
overflow_mul-class c = omega (arith, c.class.ensures, class_low (kind_of c.args.kind))

pub returns : goal.returns
returns c =
    let k = kind_of c.args.kind in
    indexed (class k) c.args.s c.class.result _ (class_low k) c.ranges.s.fits c.class.ensures c.wide.ensures
