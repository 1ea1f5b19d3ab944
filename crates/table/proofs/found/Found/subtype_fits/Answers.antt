-- `found::Found::subtype_fits` meets its contract: a word that names no subtype is refused, and else the cell decides.
use Rattle.std.proofs.Common.{◌≡◌, ℕ, true, eqb, sym, ap, ◌∙◌, arith}
use Rattle.rules.specs.Layout.{subtype_cell}
use Rattle.table.specs.Frame.{conf}
use Rattle.table.proofs.Named.{named_by, named-read, named_in}
use Rattle.table.proofs.found.Found.subtype_fits.Goals.{After-index_of}
use Rattle.table.proofs.found.Found.subtype_fits.Goals as goal

-- the word names a subtype
is-named : (c : After-index_of) → named_by c.args.self.now.frame.n c.args.s ≡ true
is-named c = sym c.named.ensures ∙ c.if-not-named.false

pub returns-then-not-named : goal.returns-then-not-named
returns-then-not-named c =
    let f = c.args.self.now.frame in
    let read = named-read f.t.now f.n f.framed.header c.args.s in
    rw (sym (c.named.ensures ∙ read) ∙ c.if-not-named.true)

pub subtype_cell-requires : goal.subtype_cell-requires
subtype_cell-requires c =
    omega (arith, c.index_of.ensures, named_in c.args.self.now.frame.n c.args.s (is-named (goal.at.subtype_cell-requires c).After-index_of))

pub returns : goal.returns
returns c =
    let f = c.args.self.now.frame in
    let read = named-read f.t.now f.n f.framed.header c.args.s in
    rw (sym read ∙ is-named (goal.at.returns c).After-index_of)
    (ap (λ (x : ℕ). eqb x c.args.cell) (c.subtype_cell.ensures ∙ ap (λ (i : ℕ). subtype_cell (conf f) i) c.index_of.ensures))
