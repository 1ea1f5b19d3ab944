-- `found::Found::file_subtype_ok` meets its contract: the word is 0, or it names a subtype of the file's cell.
use Rattle.std.proofs.Common.{ℕ, ◌&&◌, eqb, sym, ap, ◌∙◌, eq-eqb}
use Rattle.rules.specs.Layout.{subtype_cell}
use Rattle.rules.specs.Seid.{index_of, names_subtype}
use Rattle.table.specs.Frame.{conf}
use Rattle.table.proofs.Named.{untyped, typed}
use Rattle.table.proofs.found.Found.file_subtype_ok.Goals as goal

pub returns-then-s-eq0 : goal.returns-then-s-eq0
returns-then-s-eq0 c = eq-eqb c.args.s 0 c.if-s-eq0.true ∙ sym (untyped _ _ _ c.if-s-eq0.true)

pub returns-else-s-eq0 : goal.returns-else-s-eq0
returns-else-s-eq0 c =
    let h = conf c.args.self.now.frame in
    let s = c.args.s in
    c.subtype_fits.ensures
    ∙ ap (λ (x : ℕ). names_subtype h s && eqb (subtype_cell h (index_of s)) x) c.cell.ensures.value
    ∙ typed h c.args.f s c.if-s-eq0.false
