-- Demand 3 of what a host is shown through the exported `monitor_view`: "Demand 3 covers its bytes as it does the buffer's" (02, CR 8).
--
-- Two views are had of it, each on a well-formed table and store (`Viewed`: of each its contract is known, and nothing else), by one process, of one descriptor and one
-- block. C is a set of cells that holds with each cell every cell flowing to it, the two states agree on all that the set may see, and the process's cell lies in the set
-- or its number beyond the table. Then the two answers are equal, number, first byte and count, and so are the bytes of the two stores from that byte on. A view by
-- anyone leaves table and store: it is lent them to read alone, and `Viewed` has no state that is left. It follows from the contract and from crates/secrecy/proofs/Viewed.
use mathlib.Core.Path.{◌≡◌, sym, ap, ◌∙◌}
use mathlib.Core.Bool.{Bool, true}
use mathlib.Core.List.{List}
use Prim.Native.Nat.{ℕ}
use Rattle.rules.specs.Words.{part}
use Rattle.rules.specs.Layout.{configuration}
use Rattle.rules.specs.Step.{State, Call, Reply}
use Rattle.rules.specs.Observer.{Closed, Agree, stays}
use Rattle.rules.specs.Regrade.{guard_within, NamesNone}
use Rattle.rules.specs.View.{view_shown}
use Rattle.kept.proofs.Kept.{Well, run-kept, run-conf-kept}
use Rattle.secrecy.proofs.Viewed.{read, view-alike}
use Rattle.calls.specs.declared.Part.{Part}
use Rattle.calls.specs.Did.{state_of}
use Rattle.calls.specs.View.{part_of, view_part}
use Rattle.monitor.proofs as code
use Rattle.linked.proofs.Image.{Called}
use Rattle.linked.proofs.Made.{Made, ends_at, events_by}
use Rattle.linked.proofs.Demand3.{as-asked}

abbrev pub Viewed : Type 0
Viewed = Called code.monitor_view.Kinds.ps code.monitor_view.Kinds.r code.monitor_view.Reads.Learnt

module _ (d : Viewed) where
  -- the state that it finds, and who asks for what
  abbrev pub found : State
  found = state_of d.lent.0.now d.lent.1.0.now

  abbrev pub caller : ℕ
  caller = d.lent.1.1.0

  abbrev pub descriptor : ℕ
  descriptor = d.lent.1.1.1.0

  abbrev pub block : ℕ
  block = d.lent.1.1.1.1.0

  -- what the store holds there
  abbrev pub bytes : List ℕ
  bytes = part found.store d.answer.from d.answer.count

  bytes-are : bytes ≡ view_shown found caller descriptor block
  unfolding view_shown
  bytes-are = ap (λ (x : Part). part found.store x.from x.count) d.allowed.0

-- one question, by a process that is not struck out
pub record Asked (h : List ℕ) (C : ℕ → Bool) (d e : Viewed) : Type 0 where
  pub callers : caller d ≡ caller e
  pub descriptors : descriptor d ≡ descriptor e
  pub blocks : block d ≡ block e
  pub remains : stays h C (read (caller d) (descriptor d) (block d)) ≡ true

pub two-views : (C : ℕ → Bool) (d e : Viewed) → Well (found d) → Well (found e) → let h : List ℕ = configuration (found d).table in Closed h C → Agree C (found d) (found e)
    → Asked h C d e → (d.answer ≡ e.answer) × (bytes d ≡ bytes e)
two-views C d e wd we cl a q =
    let x = view-alike C (found d) (found e) wd we cl a (caller d) (descriptor d) (block d) q.remains in
    let same : view_part (found d) (caller d) (descriptor d) (block d) ≡ view_part (found e) (caller d) (descriptor d) (block d)
    = λ i. part_of (x.number i) (x.from i) (x.count i) in
    let told : view_part (found e) (caller d) (descriptor d) (block d) ≡ view_part (found e) (caller e) (descriptor e) (block e)
    = λ i. view_part (found e) (q.callers i) (q.descriptors i) (q.blocks i) in
    let shown : view_shown (found e) (caller d) (descriptor d) (block d) ≡ view_shown (found e) (caller e) (descriptor e) (block e)
    = λ i. view_shown (found e) (q.callers i) (q.descriptors i) (q.blocks i) in
    (d.allowed.0 ∙ same ∙ told ∙ sym e.allowed.0, bytes-are d ∙ x.shown ∙ shown ∙ sym (bytes-are e))

well-at : {s u : State} {ks : List Call} {ys : List Reply} → Made s ks ys u → Well s → Well u
well-at {s} {ks = ks} m w = rw (ends_at m) (run-kept s ks w)

conf-at : {s u : State} {ks : List Call} {ys : List Reply} → Made s ks ys u → Well s → configuration u.table ≡ configuration s.table
conf-at {s} {ks = ks} m w = rw (ends_at m) (run-conf-kept s ks w)

-- after two runs of calls through `monitor_call`, by Demand3
pub views_after : (C : ℕ → Bool) {s t : State} {ks js : List Call} {ys zs : List Reply} (d e : Viewed) (m : Made s ks ys (found d)) (n : Made t js zs (found e))
    → Well s → Well t → let h : List ℕ = configuration s.table in Closed h C → Agree C s t → events_by h C m ≡ events_by h C n → (guard_within h C ≡ true → NamesNone h C ks)
    → Asked h C d e → (d.answer ≡ e.answer) × (bytes d ≡ bytes e)
views_after C d e m n ws wt cl a same none q =
    let c = conf-at m ws in
    two-views C d e (well-at m ws) (well-at n wt) (rw c cl) (as-asked C m n ws wt cl a same none).1 (rw c q)
