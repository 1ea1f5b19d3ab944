-- The public functions of crates/checker.
use mathlib.Core.Path.{◌≡◌, refl}
use Rattle.checker.specs.declared.Checked.{Checked}
use Rattle.checker.proofs as code
use Rattle.outcomes.proofs.Exact.{Exact, one, both, one-text}

-- what is answered is a check and a place
checked : {z z' : Checked} → z.check ≡ z'.check → z.next ≡ z'.next → z ≡ z'
checked a b i = record { check = a i; next = b i }

pub wants-input : Exact code.Check.wants_input.Kinds.ps code.Check.wants_input.Kinds.r code.Check.wants_input.Reads.Asked code.Check.wants_input.Reads.Learnt
wants-input = (λ κs a. tt, λ κs a z z' w w' p q. (one p q, refl))

pub start : Exact code.start.Kinds.ps code.start.Kinds.r code.start.Reads.Asked code.start.Reads.Learnt
start = (λ κs a. tt, λ κs a z z' w w' p q. (one p.0 q.0, both (one p.1 q.1) refl))

pub due : Exact code.due.Kinds.ps code.due.Kinds.r code.due.Reads.Asked code.due.Reads.Learnt
due = (
  λ κs a. tt,
  λ κs a z z' w w' p q. (
    checked (one p.check q.check) (one p.next q.next),
    both refl (both (one p.table q.table) (both (one p.store q.store) (both (one p.buffer q.buffer) (both (one p.output q.output) refl)))),
  ),
)

pub last : Exact code.last.Kinds.ps code.last.Kinds.r code.last.Reads.Asked code.last.Reads.Learnt
last = (λ κs a. tt, λ κs a z z' w w' p q. (one p.0 q.0, both refl (both (one p.1 q.1) refl)))

pub compare : Exact code.compare.Kinds.ps code.compare.Kinds.r code.compare.Reads.Asked code.compare.Reads.Learnt
compare = (λ κs a. tt, λ κs a z z' w w' p q. (one p q, refl))

pub found : Exact code.found.Kinds.ps code.found.Kinds.r code.found.Reads.Asked code.found.Reads.Learnt
found = (λ κs a. tt, λ κs a z z' w w' p q. (one p q, refl))

pub put-finding : Exact code.put_finding.Kinds.ps code.put_finding.Kinds.r code.put_finding.Reads.Asked code.put_finding.Reads.Learnt
put-finding = (λ κs a. tt, λ κs a z z' w w' p q. let t = one-text p q in (t.0, both t.1 refl))
