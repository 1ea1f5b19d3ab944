-- The public functions of crates/marks.
use mathlib.Core.Path.{refl}
use Rattle.marks.proofs as code
use Rattle.outcomes.proofs.Exact.{Exact, one, both}

pub mark : Exact code.mark.Kinds.ps code.mark.Kinds.r code.mark.Reads.Asked code.mark.Reads.Learnt
mark = (λ κs a. tt, λ κs a z z' w w' p q. (refl, both (one p q) refl))

pub unmark : Exact code.unmark.Kinds.ps code.unmark.Kinds.r code.unmark.Reads.Asked code.unmark.Reads.Learnt
unmark = (λ κs a. tt, λ κs a z z' w w' p q. (refl, both (one p q) refl))

pub row-clash : Exact code.row_clash.Kinds.ps code.row_clash.Kinds.r code.row_clash.Reads.Asked code.row_clash.Reads.Learnt
row-clash = (λ κs a. tt, λ κs a z z' w w' p q. (one p q, refl))

pub put-masks : Exact code.put_masks.Kinds.ps code.put_masks.Kinds.r code.put_masks.Reads.Asked code.put_masks.Reads.Learnt
put-masks = (λ κs a. tt, λ κs a z z' w w' p q. (refl, both refl (both refl (both refl (both refl (both refl (both (one p q) refl)))))))

pub are-masks : Exact code.are_masks.Kinds.ps code.are_masks.Kinds.r code.are_masks.Reads.Asked code.are_masks.Reads.Learnt
are-masks = (λ κs a. tt, λ κs a z z' w w' p q. (one p q, refl))
