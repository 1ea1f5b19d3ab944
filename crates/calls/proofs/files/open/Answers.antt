-- `files::open` meets its contract: it goes by the seid's class.
use Rattle.calls.proofs.FilesLaws.{left-of-subtype, left-of-file}
use borrow.Author.Tests.{eq-eqb, ne_eqb}
use Rattle.calls.proofs.files.open.Goals as goal

pub open_subtype-requires : goal.open_subtype-requires
open_subtype-requires c = (c.requires.0.sound, c.requires.0.handed.matrix)

pub returns-then-class_of-eq-SUBTYPE_CLASS : goal.returns-then-class_of-eq-SUBTYPE_CLASS
returns-then-class_of-eq-SUBTYPE_CLASS c =
    λ buffer. left-of-subtype _ _ _ _ _ buffer c.or_self-s.ensures (rw (← c.class_of.ensures) (eq-eqb _ _ c.if-class_of-eq-SUBTYPE_CLASS.true))
    (c.open_subtype.ensures buffer)

pub open_file-requires : goal.open_file-requires
open_file-requires c =
    (c.requires.0, rw c.or_self-s.ensures c.requires.1)

pub returns : goal.returns
returns c =
    λ buffer. left-of-file _ _ _ _ _ buffer c.or_self-s.ensures (rw (← c.class_of.ensures) (ne_eqb _ _ c.if-class_of-eq-SUBTYPE_CLASS.false))
    (c.open_file.ensures buffer)
