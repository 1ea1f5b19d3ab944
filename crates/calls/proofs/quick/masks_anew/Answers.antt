-- `quick::masks_anew` meets its contract: the masks of the files of the cell.
use Rattle.calls.proofs.QuickSteps.{first_below, place-small, mask-told}
use native.Mathlib.Omega.{arith}
use Rattle.calls.proofs.quick.masks_anew.Goals as goal

pub overflow_sub-i : goal.overflow_sub-i
overflow_sub-i c =
    first_below c.requires.0 _ _ c.requires.2 c.requires.3 c.run_of-processes.ensures.from

pub mark_in-at-requires : goal.mark_in-at-requires
mark_in-at-requires c =
    (c.requires.0, c.requires.1, omega arith, place-small c.requires.0 _ _ c.requires.2 c.requires.3 c.run_of-processes.ensures.from)

pub returns : goal.returns
returns c =
    mask-told c.requires.0 _ _ c.requires.2 c.requires.3 c.run_of-processes.ensures.from c.requires.1
    c.run_of-files.ensures.from c.run_of-files.ensures.count _ c.mark_in-at.ensures c.put_masks.ensures
