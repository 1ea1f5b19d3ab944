-- `frame::Frame::record_at` meets its contract: the place is layout's, and the table has it.
use Rattle.std.proofs.Common.{arith}
use Rattle.layout.specs.Kinds.{kind_of}
use Rattle.table.proofs.Config.{slots_read, slots-few, record_is}
use Rattle.table.proofs.frame.Frame.record_at.Goals as goal

pub overflow_cast-i : goal.overflow_cast-i
overflow_cast-i c = omega (arith, slots-few c.args.self.now (kind_of c.args.kind))

pub returns : goal.returns
returns c =
    let f = c.args.self.now in
    let k = kind_of c.args.kind in
    record_is f k c.args.i _ (omega (arith, slots_read f.t.now f.n f.framed.header k)) c.record_at.ensures.0
