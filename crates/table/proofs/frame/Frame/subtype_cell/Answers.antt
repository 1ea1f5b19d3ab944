-- `frame::Frame::subtype_cell` meets its contract: the first of the subtype's words.
use Rattle.std.proofs.Common.{ℕ, ◌+◌, get_or, sym, ap, ◌∙◌, arith}
use Rattle.table.proofs.Config.{subtype-word}
use Rattle.table.proofs.frame.Frame.subtype_cell.Goals as goal

pub returns : goal.returns
returns c =
    let f = c.args.self.now in
    c.wide.ensures ∙ ap (λ (place : ℕ). get_or f.t.now (place + 0) 0) c.subtype_at.ensures.0
    ∙ sym (subtype-word f.t.now f.n f.framed.header c.args.i 0 c.requires (omega arith))
