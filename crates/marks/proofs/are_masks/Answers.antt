-- `are_masks` meets its contract.
use Rattle.marks.proofs.Made.{compared-none, compared-short, compared-all}
use native.Mathlib.Omega.{arith}
use Rattle.std.proofs.lemmas.Grind.{common_steps}
use Rattle.marks.specs.Masks.{are_masks}
use Rattle.marks.proofs.are_masks.Goals as goal

pub returns-then-first_file-files-gt-MAX_SLOTS : goal.returns-then-first_file-files-gt-MAX_SLOTS
unfolding are_masks
returns-then-first_file-files-gt-MAX_SLOTS c = grind (arith, common_steps)

pub returns-then-files-eq0 : goal.returns-then-files-eq0
returns-then-files-eq0 c =
    compared-none _ _ _ c.wide-files.ensures c.wide-first_file.ensures c.wide-place.ensures (omega arith) (omega arith)

pub returns-then-w-place : goal.returns-then-w-place
returns-then-w-place c =
    compared-short _ _ _ c.wide-files.ensures c.wide-first_file.ensures c.wide-place.ensures (omega arith) c.if-files-eq0.false (omega arith)

pub returns : goal.returns
returns c =
    compared-all _ _ _ c.wide-files.ensures c.wide-first_file.ensures c.wide-place.ensures
    (omega arith) c.entry_at.ensures.0 c.masks_of-masks.ensures c.eq.ensures
