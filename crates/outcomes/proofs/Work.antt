-- The public functions of crates/work.
use mathlib.Core.Path.{refl}
use Rattle.work.proofs as code
use Rattle.outcomes.proofs.Exact.{Exact, one, both}

pub lists-at : Exact code.lists_at.Kinds.ps code.lists_at.Kinds.r code.lists_at.Reads.Asked code.lists_at.Reads.Learnt
lists-at = (λ κs a. tt, λ κs a z z' w w' p q. (one p.0 q.0, refl))

pub rows-at : Exact code.rows_at.Kinds.ps code.rows_at.Kinds.r code.rows_at.Reads.Asked code.rows_at.Reads.Learnt
rows-at = (λ κs a. tt, λ κs a z z' w w' p q. (one p.0 q.0, refl))

pub work-length : Exact code.work_length.Kinds.ps code.work_length.Kinds.r code.work_length.Reads.Asked code.work_length.Reads.Learnt
work-length = (λ κs a. tt, λ κs a z z' w w' p q. (one p q, refl))

pub fill : Exact code.fill.Kinds.ps code.fill.Kinds.r code.fill.Reads.Asked code.fill.Reads.Learnt
fill = (λ κs a. tt, λ κs a z z' w w' p q. (one p.0 q.0, both refl (both refl (both (one p.1 q.1) refl))))

pub fits : Exact code.fits.Kinds.ps code.fits.Kinds.r code.fits.Reads.Asked code.fits.Reads.Learnt
fits = (λ κs a. tt, λ κs a z z' w w' p q. (one p q, refl))
