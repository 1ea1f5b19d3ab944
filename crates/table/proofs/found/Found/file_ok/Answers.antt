-- `found::Found::file_ok` meets its contract: the record's words, one by one, its subtype and its count.
use Rattle.std.proofs.Common.{◌+◌, Bool, ◌&&◌, eqb, get_or, ap, ◌∙◌}
use Rattle.rules.specs.Layout.{opens}
use Rattle.table.proofs.Object.{file-claim}
use Rattle.table.proofs.found.Found.file_ok.Goals as goal

pub returns : goal.returns
returns c =
    let f = c.args.self.now.frame in
    let place = c.record_at-at.result in
    ap (λ (b : Bool). b && eqb (get_or f.t.now (place + opens) 0) c.args.held) c.record_ok.ensures
    ∙ rw (c.wide.ensures, c.wide-size.ensures, c.wide-opens.ensures, c.wide-links.ensures)
    (file-claim f c.args.f place c.args.held c.record_at-at.ensures _ c.file_subtype_ok-typed.ensures c.requires.1)
