-- `found::Found::segment_ok` meets its contract: the record's words, one by one, and its count.
use Rattle.std.proofs.Common.{◌+◌, Bool, ◌&&◌, eqb, get_or, ap, ◌∙◌}
use Rattle.rules.specs.Layout.{references}
use Rattle.table.proofs.Object.{segment-claim}
use Rattle.table.proofs.found.Found.segment_ok.Goals as goal

pub returns : goal.returns
returns c =
    let f = c.args.self.now.frame in
    let place = c.record_at-at.result in
    ap (λ (b : Bool). b && eqb (get_or f.t.now (place + references) 0) c.args.held) c.record_ok.ensures
    ∙ segment-claim f c.args.s place c.args.held c.record_at-at.ensures c.requires.1
