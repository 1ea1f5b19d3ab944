-- `frame::Frame::sums_match` meets its contract.
use Rattle.rules.specs.Layout.{first_slot, process, segment, file}
use Rattle.rules.specs.WellFormed.{sums_match}
use Rattle.table.proofs.Config.{slots_read}
use Rattle.table.proofs.frame.Frame.sums_match.Goals as goal

pub returns : goal.returns
unfolding sums_match first_slot
returns c =
    let t = c.args.self.now.t.now in
    let n = c.args.self.now.n in
    rw (
      slots_read t n c.args.self.now.framed.header process,
      slots_read t n c.args.self.now.framed.header segment,
      slots_read t n c.args.self.now.framed.header file,
      c.wide.ensures,
      c.wide-2.ensures,
      c.wide-3.ensures,
      c.slots_owned.ensures,
      c.slots_owned-2.ensures,
      c.slots_owned-3.ensures,
    )
