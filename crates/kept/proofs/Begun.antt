-- A process begun in a slot whose words past its parent are zero, with bits of its own.
use mathlib.Core.Path.{◌≡◌, ◌∙◌}
use mathlib.Core.List.{List}
use Prim.Native.Nat.{ℕ, ◌+◌, ◌≤◌, ◌<◌}
use native.Mathlib.Omega.{arith}
use Rattle.rules.specs.Claim.{Holds}
use Rattle.rules.specs.Layout.{max_serial, max_owner, max_bits, process, segment, record_words, slots, cell_of, Addr, at, live, serial, owner, group, parent, queue, zero7, held_at, used_at, message_at, page_at, bits}
use Rattle.rules.specs.WellFormed.{parent_ok}
use Rattle.rules.specs.Rule.{Word, over}
use Rattle.laws.proofs.Written.{AllOf}
use Rattle.kept.proofs.Fine.{Fine}
use Rattle.kept.proofs.Records.{InRecord, elsewhere}
use Rattle.kept.proofs.Made.{placed, live-record}
use Rattle.kept.proofs.Keeps.{Keeps, keeps-process}

pub record Begun (h : List ℕ) (r : Addr → ℕ) (q : ℕ) (ws : List Word) : Type 0 where
  pub in-range : q < slots h process
  pub not-worn : r (at process q serial) < max_serial
  pub zeros : (j : ℕ) → 5 ≤ j → j < record_words process → r (at process q j) ≡ 0
  pub in-record : AllOf (InRecord process q) ws
  pub lives : over r ws (at process q live) ≡ 1
  pub next-serial : over r ws (at process q serial) ≡ r (at process q serial) + 1
  pub owner-fits : over r ws (at process q owner) ≤ max_owner
  pub group-fits : over r ws (at process q group) ≤ max_owner
  pub parent-ok : Holds (parent_ok h (cell_of h process q) (over r ws (at process q parent)))
  pub bits_fit : over r ws (at process q (bits process)) ≤ max_bits
  pub beyond : (j : ℕ) → 5 ≤ j → (j ≡ bits process → ⊥) → over r ws (at process q j) ≡ r (at process q j)

module _ (h : List ℕ) (r : Addr → ℕ) (w : Fine h r) (q : ℕ) (ws : List Word) (x : Begun h r q ws) where
  zero : (j : ℕ) → 5 ≤ j → j < record_words process → (j ≡ bits process → ⊥) → over r ws (at process q j) ≡ 0
  zero j l m n = x.beyond j l n ∙ x.zeros j l m

  pub keeps-begun : Keeps h r ws
  keeps-begun = keeps-process h r w q x.in-range x.in-record (record {
    others = elsewhere process q x.in-record r;
    own-process = live-record _ process q _ x.lives (omega (arith, x.next-serial)) (omega (arith, x.next-serial, x.not-worn)) x.owner-fits x.group-fits (record {
      parent-ok = x.parent-ok;
      queue-fits = rw (zero queue (omega arith) (omega arith) (λ e. omega arith)) (omega arith);
      bits_fit = x.bits_fit;
      zero-seven = zero zero7 (omega arith) (omega arith) (λ e. omega arith);
      once = λ d e dl el n some same. some (zero (held_at segment e) (omega arith) (omega arith) (λ e. omega arith));
      unused = λ m j ml jl full. zero (message_at m j) (omega arith) (omega arith) (λ e. omega arith);
      paged = λ g l n. absurd (n (zero (page_at g) (omega arith) (omega arith) (λ e. omega arith)));
    });
    serial-grown = omega (arith, x.next-serial);
    same-held = λ k o d l. let y = placed k o d l in x.beyond (held_at k d) (omega arith) (λ e. omega arith);
    entry-ok = λ k o d l. let y = placed k o d l in rw (x.beyond (used_at k d) (omega arith) (λ e. omega arith)) (w.entry k o q d x.in-range l);
    sender-ok = λ m l. absurd (omega (arith, zero queue (omega arith) (omega arith) (λ e. omega arith)));
  })
