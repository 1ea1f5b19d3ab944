-- The public functions of crates/calls; the tray's is in Trays.
use mathlib.Core.Path.{◌≡◌, refl}
use contract.Lifetimes.{Lfts}
use denote.Triple.Clauses.{Lasts, at_exit}
use borrow.Fn.Kinds.{Dens, res_t, ended_of}
use Rattle.calls.proofs.view.Kinds as shown
use Rattle.calls.proofs.view.Reads as said
use Rattle.calls.specs.declared.Answer.{Answer}
use Rattle.calls.specs.Did.{rule_answer}
use Rattle.calls.proofs as code
use Rattle.outcomes.proofs.Exact.{Always, Exact, one, both}

-- an answer is its three numbers
one_answer : {z z' : Answer} → rule_answer z ≡ rule_answer z' → z ≡ z'
one_answer e i = record { error = (e i).error; first = (e i).first; second = (e i).second }

-- the answer, and what is left of table and store, of five numbers, and of the buffer
pub call : Exact code.call.Kinds.ps code.call.Kinds.r code.call.Reads.Asked code.call.Reads.Learnt
call = (
  λ κs a. tt,
  λ κs a z z' w w' p q. (
    one_answer (one p.answered q.answered),
    both (one p.table q.table) (both (one p.store q.store) (both refl (both refl (both refl (both refl (both refl (both (one p.buffer q.buffer) refl))))))),
  ),
)

-- a view: the number, the first byte and the count; nothing is left, for all is lent to be read alone
pub view-part : Exact code.view_part.Kinds.ps code.view_part.Kinds.r code.view_part.Reads.Asked code.view_part.Reads.Learnt
view-part = (λ κs a. tt, λ κs a z z' w w' p q. (one p.0 q.0, refl))

pub view-number : Exact code.view_number.Kinds.ps code.view_number.Kinds.r code.view_number.Reads.Asked code.view_number.Reads.Learnt
view-number = (λ κs a. tt, λ κs a z z' w w' p q. (one p q, refl))

-- a part of the store: its bytes and its place. The name by which the logic follows what stands there is no outcome of the program.
pub view : Always shown.ps said.Asked × ((κs : Lfts 2) (a : Dens κs shown.ps) (z z' : (res_t shown.r κs).Denot) (w w' : Lasts (ended_of 2 shown.ps shown.r) κs a)
    → said.Learnt κs a z (at_exit (ended_of 2 shown.ps shown.r) κs a w) → said.Learnt κs a z' (at_exit (ended_of 2 shown.ps shown.r) κs a w')
    → (z.now ≡ z'.now) × (z.ref_ptr ≡ z'.ref_ptr) × (w ≡ w'))
view = (λ κs a. tt, λ κs a z z' w w' p q. (one p.0 q.0, one p.1 q.1, refl))
