-- Call 12, set bits, keeps tables well formed, for a process, a segment and a file.
use mathlib.Core.Path.{◌≡◌, refl, ◌∙◌}
use mathlib.Core.Bool.{true}
use mathlib.Core.List.{List, [], ◌∷◌}
use Prim.Native.Nat.{ℕ, ◌≤◌, ◌<◌}
use native.Mathlib.Omega.{arith}
use borrow.Author.Tests.{ltb-false}
use Rattle.rules.specs.Layout.{max_bits, Kind, process, segment, file, slots, Addr, at, live, serial, queue, entries, held_at, used_at, message_at, page_at, bits}
use Rattle.rules.specs.Seid.{index_of}
use Rattle.rules.specs.Rule.{◌≔◌, over}
use Rattle.rules.specs.Call12.{set_bits_of}
use Rattle.laws.proofs.Written.{nil}
use Rattle.laws.proofs.Object.{Object}
use Rattle.laws.proofs.Refusals.{numbered, clear}
use Rattle.kept.proofs.Fine.{Fine}
use Rattle.kept.proofs.Records.{word_in, word_at, word-past, elsewhere}
use Rattle.kept.proofs.Made.{placed, object-words}
use Rattle.kept.proofs.Readings.{paged-same, live-process}
use Rattle.kept.proofs.Keeps.{Keeps, KeptBy, Caller, keeps-process}
use Rattle.kept.proofs.Found.{found}
use Rattle.kept.proofs.Objects.{alive-now, keeps-word}

-- a segment's and a file's
keeps-object-bits : (h : List ℕ) (r : Addr → ℕ) → Fine h r → (k : Kind) → Object k → (i b : ℕ) → i < slots h k → r (at k i live) ≡ 1 → b ≤ max_bits
    → Keeps h r ((at k i (bits k) ≔ b) ∷ [])
keeps-object-bits h r w k o i b l lives fits =
    let y = object-words k o in
    let x = alive-now h r k o i (w.own k i l) lives in
    keeps-word h r w k o i l lives (bits k) b (omega arith) (omega arith) (record {
      bits_fit = rw y.bits_at fits;
      particular = rw y.bits_at x.particular;
      needed = rw (y.bits_at, y.holders-at) (rw y.holders-at at x.needed);
    })

-- a process's
keeps-process-bits : (h : List ℕ) (r : Addr → ℕ) → Fine h r → (p b : ℕ) → p < slots h process → r (at process p live) ≡ 1 → b ≤ max_bits
    → Keeps h r ((at process p (bits process) ≔ b) ∷ [])
keeps-process-bits h r w p b l lives fits =
    let mine = w.own process p l in
    let x = mine.alive lives in
    let q : Addr → ℕ = over r ((at process p (bits process) ≔ b) ∷ []) in
    let past : (j : ℕ) → (j ≡ bits process → ⊥) → q (at process p j) ≡ r (at process p j) = word-past r process p (bits process) b in
    let held : (k : Kind) → Object k → (d : ℕ) → d < entries → q (at process p (held_at k d)) ≡ r (at process p (held_at k d)) =
    λ k o d dl. let y = placed k o d dl in past (held_at k d) (λ e. omega arith) in
    let in-it = word_in process p (bits process) b (omega arith) nil in
    let e5 = past queue (λ e. omega arith) in
    keeps-process h r w p l in-it (record {
      others = elsewhere process p in-it r;
      own-process = live-process h r q p lives mine (λ j jl n m. past j m) (rw e5 x.queue-fits) (rw (word_at r process p (bits process) b) fits)
          (λ d e dl el. rw (held segment tt d dl, held segment tt e el) (x.once d e dl el))
          (λ m j ml jl full. past (message_at m j) (λ e. omega arith) ∙ x.unused m j ml jl (rw e5 at full))
          (λ g gl. rw (past (page_at g) (λ e. omega arith)) (paged-same h r q p _ (held segment tt) (x.paged g gl)));
      serial-grown = rw (past serial (λ e. omega arith)) (omega arith);
      same-held = held;
      entry-ok = λ k o d dl. let y = placed k o d dl in rw (past (used_at k d) (λ e. omega arith)) (w.entry k o p d l dl);
      sender-ok = λ m ml. rw (past (message_at m 0) (λ e. omega arith)) (w.sender p m l (rw e5 at ml));
    })

keeps-bits : (h : List ℕ) (r : Addr → ℕ) → Fine h r → (k : Kind) (i b : ℕ) → i < slots h k → r (at k i live) ≡ 1 → b ≤ max_bits → Keeps h r ((at k i (bits k) ≔ b) ∷ [])
keeps-bits h r w process = keeps-process-bits h r w
keeps-bits h r w segment = keeps-object-bits h r w segment tt
keeps-bits h r w file = keeps-object-bits h r w file tt

module _ (h : List ℕ) (r : Addr → ℕ) (p b : ℕ) (buffer : List ℕ) where
  -- every refusal has a number
  pub bits-numbered : (s : ℕ) (k : Kind) → numbered (set_bits_of h r p s b buffer k).refusals ≡ true
  bits-numbered s process = refl
  bits-numbered s segment = refl
  bits-numbered s file = refl

  pub keeps : Caller h r p → (s : ℕ) (k : Kind) → KeptBy h r (set_bits_of h r p s b buffer k)
  keeps c s k e =
      let ok = clear (set_bits_of h r p s b buffer k).refusals (bits-numbered s k) e in
      let f = found h r k s ok.1.0 ok.1.1.1.0 in
      keeps-bits h r c.fine k (index_of s) b f.parts.index_in f.here.is_live (ltb-false max_bits b ok.0)
