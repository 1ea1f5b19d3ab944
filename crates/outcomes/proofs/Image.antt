-- The public functions of crates/image.
use mathlib.Core.Path.{refl}
use Rattle.image.proofs as code
use Rattle.outcomes.proofs.Exact.{Exact, one, both}

pub image-length : Exact code.image_length.Kinds.ps code.image_length.Kinds.r code.image_length.Reads.Asked code.image_length.Reads.Learnt
image-length = (λ κs a. tt, λ κs a z z' w w' p q. (one p q, refl))

pub image : Exact code.image.Kinds.ps code.image.Kinds.r code.image.Reads.Asked code.image.Reads.Learnt
image = (λ κs a. tt, λ κs a z z' w w' p q. (one p.0 q.0, both refl (both refl (both (one p.1 q.1) refl))))

pub reload : Exact code.reload.Kinds.ps code.reload.Kinds.r code.reload.Reads.Asked code.reload.Reads.Learnt
reload = (λ κs a. tt, λ κs a z z' w w' p q. (one p.0 q.0, both (one p.1.0 q.1.0) (both (one p.1.1 q.1.1) refl)))
