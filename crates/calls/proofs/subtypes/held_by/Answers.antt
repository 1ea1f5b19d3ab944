-- `subtypes::held_by` meets its contract: the entry is the one before `by`, if that holds a subtype.
use borrow.Author.Tests.{eq-eqb, ne_eqb}
use Rattle.calls.proofs.SubtypesLaws.{held-past, held-other, held-there}
use Rattle.calls.proofs.subtypes.held_by.Goals as goal

pub returns-then-by-wide : goal.returns-then-by-wide
returns-then-by-wide c = held-past _ _ c.args.by (rw c.wide.ensures at c.if-by-wide.true)

pub returns-then-class_of-eq-SUBTYPE_CLASS : goal.returns-then-class_of-eq-SUBTYPE_CLASS
returns-then-class_of-eq-SUBTYPE_CLASS c =
    rw c.entry_of-d.ensures
    (held-there _ _ c.args.by (rw c.wide.ensures at c.if-by-wide.false)
    (rw (c.class_of.ensures, c.entry_of-d.ensures) at (eq-eqb _ _ c.if-class_of-eq-SUBTYPE_CLASS.true)))

pub returns-else-class_of-eq-SUBTYPE_CLASS : goal.returns-else-class_of-eq-SUBTYPE_CLASS
returns-else-class_of-eq-SUBTYPE_CLASS c =
    held-other _ _ c.args.by (rw c.wide.ensures at c.if-by-wide.false)
    (rw (c.class_of.ensures, c.entry_of-d.ensures) at (ne_eqb _ _ c.if-class_of-eq-SUBTYPE_CLASS.false))
