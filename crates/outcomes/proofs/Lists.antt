-- The public functions of crates/lists.
use mathlib.Core.Path.{refl}
use Rattle.lists.proofs as code
use Rattle.outcomes.proofs.Exact.{Exact, one, both}

pub next : Exact code.next.Kinds.ps code.next.Kinds.r code.next.Reads.Asked code.next.Reads.Learnt
next = (λ κs a. tt, λ κs a z z' w w' p q. (one p q, refl))

pub take : Exact code.take.Kinds.ps code.take.Kinds.r code.take.Reads.Asked code.take.Reads.Learnt
take = (λ κs a. tt, λ κs a z z' w w' p q. (refl, both (one p q) refl))

pub give-back : Exact code.give_back.Kinds.ps code.give_back.Kinds.r code.give_back.Reads.Asked code.give_back.Reads.Learnt
give-back = (λ κs a. tt, λ κs a z z' w w' p q. (refl, both (one p q) refl))

pub relist : Exact code.relist.Kinds.ps code.relist.Kinds.r code.relist.Reads.Asked code.relist.Reads.Learnt
relist = (λ κs a. tt, λ κs a z z' w w' p q. (refl, both refl (both refl (both refl (both refl (both refl (both (one p q) refl)))))))

pub is-list : Exact code.is_list.Kinds.ps code.is_list.Kinds.r code.is_list.Reads.Asked code.is_list.Reads.Learnt
is-list = (λ κs a. tt, λ κs a z z' w w' p q. (one p q, refl))
