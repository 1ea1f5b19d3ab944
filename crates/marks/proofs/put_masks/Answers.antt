-- `put_masks` meets its contract: the masks passed are stored.
use mathlib.Core.Path.{refl, ap, ◌∙◌}
use native.Mathlib.Omega.{arith}
use lib.ListN.{length}
use lib.Seq.{length-sets}
use Rattle.std.proofs.lemmas.Grind.{common_steps}
use Rattle.marks.specs.Masks.{masked}
use Rattle.marks.proofs.Made.{stored-more, stored-all}
use Rattle.marks.proofs.put_masks.Goals as goal

pub loop-i-init : goal.loop-i-init
loop-i-init c = (omega arith, refl)

pub loop-i-preserved : goal.loop-i-preserved
loop-i-preserved c =
    (omega arith, c.put.ensures ∙ stored-more _ _ _ _ _ c.loop-i-test.true c.loop-i.invariant.1)

pub shape_of-w : goal.shape_of-w
shape_of-w c = ap length c.loop-i.invariant.1 ∙ simp length-sets

pub returns-after-loop-i : goal.returns-after-loop-i
returns-after-loop-i c =
    stored-all _ _ _ c.wide-files.ensures c.wide-first_file.ensures c.wide-place.ensures
    (omega arith) c.entry_at.ensures.0 c.masks_of-masks.ensures c.loop-i.i c.loop-i-test.false c.loop-i.invariant.1

pub returns-else-first_file-files-le-MAX_SLOTS : goal.returns-else-first_file-files-le-MAX_SLOTS
unfolding masked
returns-else-first_file-files-le-MAX_SLOTS c = grind (arith, common_steps)
