-- `quick::is_here` meets its contract: a word that has the form names a slot, whose cell the check has handed on.
use Rattle.layout.specs.Kinds.{kind_of}
use Rattle.laws.proofs.Seids.{index-small}
use Rattle.calls.proofs.QuickPlaces.{here-told, not-here}
use mathlib.Core.Path.{sym, ◌∙◌}
use native.Mathlib.Omega.{arith}
use Rattle.calls.proofs.quick.is_here.Goals as goal

pub cell_in-requires : goal.cell_in-requires
cell_in-requires c =
    omega (arith, c.index_of.ensures, index-small c.args.s)

pub returns-then-is_seid : goal.returns-then-is_seid
returns-then-is_seid c =
    here-told c.requires.sound (kind_of c.args.kind) c.args.s c.class.ensures c.slots.ensures c.requires.told
    (sym c.is_seid.ensures ∙ c.if-is_seid.true) c.index_of.ensures c.cell_in.ensures

pub returns : goal.returns
returns c =
    not-here c.requires.sound (kind_of c.args.kind) c.args.s c.class.ensures c.slots.ensures
    (sym c.is_seid.ensures ∙ c.if-is_seid.false)
