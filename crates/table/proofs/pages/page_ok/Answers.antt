-- `pages::page_ok` meets its contract: a page that is 0, that names no designator, or by what the designator holds.
use Rattle.std.proofs.Common.{sym, ◌∙◌, arith}
use Rattle.table.specs.Entries.{record_at}
use Rattle.table.proofs.Alive.{page-free, page-beyond, page-held}
use Rattle.table.proofs.pages.page_ok.Goals as goal

pub returns-then-x-eq0 : goal.returns-then-x-eq0
returns-then-x-eq0 c =
    sym (page-free (record_at c.args.t.now c.args.at) 0 c.args.g (sym c.wide-x.ensures ∙ c.if-x-eq0.true))

pub returns-then-x-gt-ENTRIES : goal.returns-then-x-gt-ENTRIES
returns-then-x-gt-ENTRIES c =
    let word = c.wide-x.ensures in
    sym (page-beyond (record_at c.args.t.now c.args.at) 0 c.args.g (λ e. c.if-x-eq0.false (word ∙ e)) (omega
    (arith, word, c.if-x-gt-ENTRIES.true)))

pub returns : goal.returns
returns c =
    let word = c.wide-x.ensures in
    rw word (page-held (record_at c.args.t.now c.args.at) 0 c.args.g (λ e. c.if-x-eq0.false (word ∙ e)) (omega
    (arith, word, c.if-x-gt-ENTRIES.false)))
