-- A change of a live process's queue and messages alone.
use mathlib.Core.Path.{◌≡◌}
use mathlib.Core.List.{List}
use Prim.Native.Nat.{ℕ, ◌≤◌, ◌<◌}
use native.Mathlib.Omega.{arith}
use Rattle.rules.specs.Layout.{Kind, process, segment, slots, cell_of, Addr, at, live, serial, queue, entries, held_at, used_at, messages, message_words, messages_at, message_at, pages_at, page_at, bits}
use Rattle.rules.specs.Rule.{Word, over}
use Rattle.laws.proofs.Shape.{Held}
use Rattle.laws.proofs.Written.{AllOf}
use Rattle.laws.proofs.Object.{Object}
use Rattle.kept.proofs.Fine.{Fine}
use Rattle.kept.proofs.Records.{InRecord, elsewhere}
use Rattle.kept.proofs.Made.{placed}
use Rattle.kept.proofs.Readings.{paged-same, live-process}
use Rattle.kept.proofs.Keeps.{Keeps, keeps-process}

pub keeps-mail : (h : List ℕ) (r : Addr → ℕ) {ws : List Word} → Fine h r → (p : ℕ) → p < slots h process → r (at process p live) ≡ 1 → AllOf (InRecord process p) ws
    → ((j : ℕ) → (messages_at ≤ j → j < pages_at → ⊥) → (j ≡ queue → ⊥) → over r ws (at process p j) ≡ r (at process p j)) → over r ws (at process p queue) ≤ messages
    → ((m j : ℕ) → m < messages → j < message_words → over r ws (at process p queue) ≤ m → over r ws (at process p (message_at m j)) ≡ 0)
    → ((m : ℕ) → m < over r ws (at process p queue) → Held h r process (cell_of h process p) (over r ws (at process p (message_at m 0)))) → Keeps h r ws
keeps-mail h r {ws} w p l lives in-it beside queue-fits unused senders =
    let mine = w.own process p l in
    let x = mine.alive lives in
    let held : (k : Kind) → Object k → (d : ℕ) → d < entries → over r _ (at process p (held_at k d)) ≡ r (at process p (held_at k d)) =
    λ k o d dl. let y = placed k o d dl in beside (held_at k d) (λ a b. omega arith) (λ e. omega arith) in
    keeps-process h r w p l in-it (record {
      others = elsewhere process p in-it r;
      own-process = live-process h r _ p lives mine (λ j jl n m. beside j (λ a b. omega arith) n) queue-fits
          (rw (beside (bits process) (λ a b. omega arith) (λ e. omega arith)) x.bits_fit)
          (λ d e dl el. rw (held segment tt d dl, held segment tt e el) (x.once d e dl el)) unused
          (λ g gl. rw (beside (page_at g) (λ a b. omega arith) (λ e. omega arith)) (paged-same h r (over r ws) p _ (held segment tt) (x.paged g gl)));
      serial-grown = rw (beside serial (λ a b. omega arith) (λ e. omega arith)) (omega arith);
      same-held = held;
      entry-ok = λ k o d dl. let y = placed k o d dl in rw (beside (used_at k d) (λ a b. omega arith) (λ e. omega arith)) (w.entry k o p d l dl);
      sender-ok = senders;
    })
