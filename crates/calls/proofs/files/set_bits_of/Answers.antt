-- `files::set_bits_of` meets its contract: the rule's refusals in order, and the bits stored, over the kind.
use mathlib.Core.Path.{refl, ◌∙◌}
use Rattle.layout.specs.Kinds.{kind_of}
use Rattle.calls.proofs.Names.{bits_small}
use Rattle.calls.proofs.Leaves.{left-stopped, left-told}
use Rattle.calls.proofs.FilesLaws.{bits-sized, bits-owned, bits-shared, bits-words}
use Rattle.calls.proofs.files.set_bits_of.Goals as goal

pub returns-in_err-refuse : goal.returns-in_err-refuse
returns-in_err-refuse c =
    λ buffer. left-stopped _ _ _ _
    (bits-sized c.requires.sound (kind_of c.args.kind) c.args.s c.args.b buffer c.look-x.ensures c.is_shared-shared.ensures _ c.in_err-refuse.ensures)
    c.from_residual.ensures.0 c.from_residual.ensures.1

pub returns-in_err-own : goal.returns-in_err-own
returns-in_err-own c =
    λ buffer. left-stopped _ _ _ _
    (bits-owned c.requires.sound (kind_of c.args.kind) c.args.s c.args.b buffer c.look-x.ensures c.is_shared-shared.ensures _
    c.in_ok-refuse.ensures c.in_err-own.ensures)
    c.from_residual-in_err-own.ensures.0 c.from_residual-in_err-own.ensures.1

pub returns-in_err-refuse-2 : goal.returns-in_err-refuse-2
returns-in_err-refuse-2 c =
    λ buffer. left-stopped _ _ _ _
    (bits-shared c.requires.sound (kind_of c.args.kind) c.args.s c.args.b buffer c.look-x.ensures c.is_shared-shared.ensures
    c.in_ok-refuse.ensures c.in_ok-own.ensures c.in_err-refuse-2.ensures)
    c.from_residual-in_err-refuse-2.ensures.0 c.from_residual-in_err-refuse-2.ensures.1

pub write-requires : goal.write-requires
write-requires c = bits_small (kind_of c.args.kind) c.bits_word.ensures

pub returns : goal.returns
returns c =
    λ buffer. left-told _ _
    (bits-shared c.requires.sound (kind_of c.args.kind) c.args.s c.args.b buffer c.look-x.ensures c.is_shared-shared.ensures
    c.in_ok-refuse.ensures c.in_ok-own.ensures c.in_ok-refuse-2.ensures) refl refl
    (c.write.ensures
    ∙ bits-words c.requires.sound (kind_of c.args.kind) c.args.s c.args.b buffer c.look-x.ensures c.is_shared-shared.ensures
    c.in_ok-own.ensures c.bits_word.ensures)
