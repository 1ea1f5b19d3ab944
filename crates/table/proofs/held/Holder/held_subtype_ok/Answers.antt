-- `held::Holder::held_subtype_ok` meets its contract: a word that names no subtype is refused, and else the tests are those of the rule.
use Rattle.std.proofs.Common.{◌≡◌, ℕ, ◌<◌, Bool, List, true, not, ◌&&◌, ◌||◌, eqb, sym, ap, ◌∙◌, ap₂, arith}
use Rattle.rules.specs.Layout.{subtype_cell, flows}
use Rattle.rules.specs.Seid.{index_of}
use Rattle.modes.specs.Valid.{said_in}
use Rattle.modes.proofs.Numbers.{valid-told}
use Rattle.table.specs.Frame.{conf}
use Rattle.table.proofs.Named.{named_by, named-read, named_in, subtype-low, descriptor-out, descriptor-in}
use Rattle.table.proofs.held.Holder.held_subtype_ok.Goals.{After-index_of}
use Rattle.table.proofs.held.Holder.held_subtype_ok.Goals as goal

-- the word names a subtype
is-named : (c : After-index_of) → named_by c.args.self.found.frame.n c.args.e.held ≡ true
is-named c = sym c.named.ensures ∙ c.if-not-named.false

-- one of the header's
index-low : (c : After-index_of) → c.index_of.result < c.args.self.found.frame.n.subtypes
index-low c = omega (arith, c.index_of.ensures, named_in c.args.self.found.frame.n c.args.e.held (is-named c))

pub returns-then-not-named : goal.returns-then-not-named
returns-then-not-named c =
    let f = c.args.self.found.frame in
    let read = named-read f.t.now f.n f.framed.header c.args.e.held in
    sym (descriptor-out (conf f) c.args.self.mine c.args.e.held c.args.e.used (sym (c.named.ensures ∙ read) ∙ c.if-not-named.true))

pub subtype_cell-cell-requires : goal.subtype_cell-cell-requires
subtype_cell-cell-requires c = index-low (goal.at.subtype_cell-cell-requires c).After-index_of

pub flows-requires : goal.flows-requires
flows-requires c =
    let found = c.args.self.found in
    let low = subtype-low found.frame.t.now found.frame.n found.shaped c.index_of.result (index-low (goal.at.flows-requires c).After-index_of) in
    (omega (arith, low, c.subtype_cell-cell.ensures), c.args.self.mine_is_cell)

pub returns : goal.returns
returns c =
    let f = c.args.self.found.frame in
    let h = conf f in
    let mine = c.args.self.mine in
    let s = c.args.e.held in
    let cell-is : c.subtype_cell-cell.result ≡ subtype_cell h (index_of s) =
    c.subtype_cell-cell.ensures ∙ ap (λ (i : ℕ). subtype_cell h i) c.index_of.ensures in
    let flow-is = c.flows.ensures ∙ ap (λ (x : ℕ). flows h x mine) cell-is in
    let valid = c.valid_in.ensures ∙ ap (λ (table : List Bool). said_in table c.args.e.used) c.args.self.found.valid_is ∙ valid-told c.args.e.used in
    ap₂ ◌&&◌ flow-is (ap₂ ◌&&◌ valid (ap₂ ◌||◌ (ap not c.writes.ensures) (ap (λ (x : ℕ). eqb x mine) cell-is)))
    ∙ descriptor-in h mine s c.args.e.used (sym (named-read f.t.now f.n f.framed.header s) ∙ is-named (goal.at.returns c).After-index_of)
