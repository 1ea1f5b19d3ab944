-- `frame::Frame::slots` meets its contract: the header has the numbers of the configuration.
use Rattle.std.proofs.Common.{sym, ◌∙◌, arith}
use Rattle.layout.specs.Kinds.{kind_of}
use Rattle.table.proofs.Config.{slots_read, slots_small}
use Rattle.table.proofs.frame.Frame.slots.Goals as goal

pub returns : goal.returns
returns c =
    let f = c.args.self.now in
    let k = kind_of c.args.kind in
    let read = sym (slots_read f.t.now f.n f.framed.header k) in
    record { value = c.wide.ensures ∙ c.slots.ensures ∙ read; few = omega (arith, c.wide.ensures, c.slots.ensures, slots_small f.n f.framed.small k) }
