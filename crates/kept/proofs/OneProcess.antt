-- A change of one process that keeps a reading fine.
use mathlib.Core.Path.{◌≡◌, sym, ◌∙◌}
use mathlib.Core.List.{List}
use Prim.Native.Nat.{ℕ, ◌≤◌, ◌<◌}
use native.Mathlib.Omega.{arith}
use Rattle.rules.specs.Layout.{Kind, process, slots, cell_of, Addr, at, serial, queue, entries, held_at, used_at, message_at, holders}
use Rattle.laws.proofs.Shape.{Held, Entry}
use Rattle.laws.proofs.Object.{Object, no-process}
use Rattle.kept.proofs.Fine.{Own, EntryAt, Fine}
use Rattle.kept.proofs.Records.{by-slot, by-record}
use Rattle.kept.proofs.Counting.{count-all}
use Rattle.kept.proofs.Readings.{own_same, Grown, held_kept, entry_kept, same-steady}

module _ (h : List ℕ) (r q : Addr → ℕ) where
  pub record ProcessChanged (p : ℕ) : Type 0 where
    pub others : (l : Kind) (m j : ℕ) → (l ≡ process → m ≡ p → ⊥) → q (at l m j) ≡ r (at l m j)
    pub own-process : Own h q process p
    pub serial-grown : r (at process p serial) ≤ q (at process p serial)
    pub same-held : (k : Kind) → Object k → (d : ℕ) → d < entries → q (at process p (held_at k d)) ≡ r (at process p (held_at k d))
    pub entry-ok : (k : Kind) → Object k → (d : ℕ) → d < entries → Entry h r k (cell_of h process p) (r (at process p (held_at k d))) (q (at process p (used_at k d)))
    pub sender-ok : (m : ℕ) → m < q (at process p queue) → Held h r process (cell_of h process p) (q (at process p (message_at m 0)))

  module _ (w : Fine h r) (p : ℕ) (x : ProcessChanged p) where
    pub process-grown : Grown h r q
    process-grown = by-record (λ l m. m < slots h l → r (at l m serial) ≤ q (at l m serial)) process p (λ l. x.serial-grown)
        (λ l m n b. omega (arith, x.others l m serial n))

    object-stays : (k : Kind) → Object k → (i j : ℕ) → q (at k i j) ≡ r (at k i j)
    object-stays k o i j = x.others k i j (λ e f. no-process k o e)

    held_stays : (k : Kind) → Object k → (o d : ℕ) → d < entries → q (at process o (held_at k d)) ≡ r (at process o (held_at k d))
    held_stays k s = by-slot (λ o. (d : ℕ) → d < entries → q (at process o (held_at k d)) ≡ r (at process o (held_at k d))) p (x.same-held k s)
        (λ o n d l. x.others process o (held_at k d) (λ e f. n f))

    entry-stays : (k : Kind) → Object k → (o d : ℕ) → o < slots h process → d < entries → EntryAt h q k o d
    entry-stays k s = by-slot (λ o. (d : ℕ) → o < slots h process → d < entries → EntryAt h q k o d) p
        (λ d ol dl. rw (x.same-held k s d dl) (kept p d (q (at process p (used_at k d))) (x.entry-ok k s d dl)))
        (λ o n d ol dl. rw (x.others process o (held_at k d) (λ e f. n f), x.others process o (used_at k d) (λ e f. n f)) (kept o d _ (w.entry k s o d ol dl)))
      where
        kept : (o d u : ℕ) → Entry h r k (cell_of h process o) (r (at process o (held_at k d))) u → Entry h q k (cell_of h process o) (r (at process o (held_at k d))) u
        kept o d u e = entry_kept h r q process-grown k _ _ _ (λ n c. same-steady h r q k _ (object-stays k s _)) e

    sender-stays : (o m : ℕ) → o < slots h process → m < q (at process o queue) → Held h q process (cell_of h process o) (q (at process o (message_at m 0)))
    sender-stays = by-slot (λ o. (m : ℕ) → o < slots h process → m < q (at process o queue) → Held h q process (cell_of h process o) (q (at process o (message_at m 0)))) p
        (λ m ol ml. held_kept h r q process-grown process _ _ (x.sender-ok m ml))
        (λ o n m ol ml. rw (x.others process o (message_at m 0) (λ e f. n f))
        (held_kept h r q process-grown process _ _ (w.sender o m ol (rw (x.others process o queue (λ e f. n f)) at ml))))

    pub process-changed : Fine h q
    process-changed = record {
      own = by-record (λ l m. m < slots h l → Own h q l m) process p (λ l. x.own-process) (λ l m n b. own_same h r q l m (λ j jl. x.others l m j n) (w.own l m b));
      entry = entry-stays;
      sender = sender-stays;
      counted = λ k o i l. object-stays k o i (holders k) ∙ w.counted k o i l ∙ sym (count-all h r q k (λ p d pl dl. held_stays k o p d dl) i);
    }
