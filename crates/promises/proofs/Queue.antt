-- A process's messages stand where they stood after every call but a release of it and a receive by it; a post may have added one behind them.
use mathlib.Core.Path.{◌≡◌, sym, ap}
use mathlib.Core.Bool.{◌&&◌}
use mathlib.Core.List.{List, []}
use Prim.Native.Nat.{ℕ, ◌≤◌, ◌<◌}
use native.Mathlib.Omega.{arith}
use native.Mathlib.Decide.{ℕ_discrete}
use lib.Dec.{ltb}
use Rattle.rules.specs.Layout.{Kind, process, segment, file, Addr, at, live, queue, messages, message_words, messages_at, message_at, pages_at, bits}
use Rattle.rules.specs.Seid.{index_of, or_self, present, seid_at}
use Rattle.rules.specs.Rule.{Word, over}
use Rattle.rules.specs.Call15.{queued, may_post, post}
use Rattle.rules.specs.Step.{Call, rule_of}
use Rattle.laws.proofs.Tests.{cond_both}
use Rattle.laws.proofs.Written.{AllOf, nil, all_map, over-miss}
use Rattle.laws.proofs.Object.{no-process}
use Rattle.laws.proofs.Refusals.{Clear}
use Rattle.laws.proofs.Slots.{slot-untaken}
use Rattle.kept.proofs.Keeps.{Caller}
use Rattle.kept.proofs.Keep15.{queued-past, queued-length}
use Rattle.promises.proofs.Writes.{EntryWord, Wrote, made, filled, emptied, paged, counted, freed-word, cleared, linked, sized, set-bits, posted, received, writes}

-- a word of a process that tells nothing of its life and its mail: bits, an entry's, or a page
abbrev Apart : ℕ → Type 0
Apart n = (6 ≤ n) × (messages_at ≤ n → pages_at ≤ n)

-- a word that is not process p's, or is such a one
abbrev Spares : ℕ → Word → Type 0
Spares p x = x.at.kind ≡ process → x.at.slot ≡ p → Apart x.at.word

spared : (p : ℕ) {ws : List Word} → AllOf (Spares p) ws → (j : ℕ) → (Apart j → ⊥) → (r : Addr → ℕ) → over r ws (at process p j) ≡ r (at process p j)
spared p a j out = over-miss (at process p j) (all_map (λ x f e.
    let w = f (sym (ap (λ (b : Addr). b.kind) e)) (sym (ap (λ (b : Addr). b.slot) e)) in
    let same : j ≡ x.at.word = ap (λ (b : Addr). b.word) e in
    out (rw same w)) a)

bits-apart : (j : Kind) → j ≡ process → Apart (bits j)
bits-apart j e = rw e (omega arith, λ m. omega arith)

entry-fits : (j : Kind) (n : ℕ) → EntryWord j n → Apart n
entry-fits process n w = absurd w
entry-fits segment n w = (omega arith, λ m. omega arith)
entry-fits file n w = (omega arith, λ m. omega arith)

-- ---- the queue that a call leaves

-- the process lives as before, its messages stand where they stood, and there may be more behind them
pub record Later (r q : Addr → ℕ) (p : ℕ) : Type 0 where
  pub same_live : q (at process p live) ≡ r (at process p live)
  pub no-fewer : r (at process p queue) ≤ q (at process p queue)
  pub same-message : (m j : ℕ) → m < messages → m < r (at process p queue) → j < message_words → q (at process p (message_at m j)) ≡ r (at process p (message_at m j))

later-spared : (r : Addr → ℕ) (p : ℕ) {ws : List Word} → AllOf (Spares p) ws → Later r (over r ws) p
later-spared r p a =
    let e = spared p a queue (λ x. omega arith) r in
    record {
      same_live = spared p a live (λ x. omega arith) r;
      no-fewer = omega arith;
      same-message = λ m j few ml jl. spared p a (message_at m j) (λ x. omega (arith, x.1 (omega arith))) r;
    }

-- a message added behind n others
module _ (r : Addr → ℕ) (p me : ℕ) (buffer : List ℕ) where
  abbrev n : ℕ
  n = r (at process p queue)

  later-posted : Later r (over r (queued me p buffer n)) p
  later-posted = record {
    same_live = queued-past me p n buffer r live (λ e. omega arith) (λ x y. omega arith);
    no-fewer = omega (arith, queued-length me p n buffer r);
    same-message = λ m j few ml jl. queued-past me p n buffer r (message_at m j) (λ e. omega arith) (λ x y. omega arith);
  }

-- ---- every call but a release of p and a receive by p

module _ (h : List ℕ) (r : Addr → ℕ) (st : List ℕ) (k : Call) (p : ℕ) (me : Caller h r k.caller) (lives : r (at process p live) ≡ 1) where
  abbrev caller : ℕ
  caller = k.caller

  abbrev given : ℕ
  given = or_self r k.caller k.a

  module _ (unreleased : k.code ≡ 2 → index_of given ≡ p → ⊥) (unreceived : k.code ≡ 16 → caller ≡ p → ⊥) where
    -- (the slot that spawn takes is not live)
    sparing : (k.code ≡ 15 → index_of given ≡ p → ⊥) → (x : Word) → Wrote h r k x → Spares p x
    sparing unposted x (made {j} {c} m l room low s) e f = absurd (omega (arith, (slot-untaken h r j c room).is_free, lived j _ e f))
      where
        lived : (j : Kind) (i : ℕ) → j ≡ process → i ≡ p → r (at j i live) ≡ 1
        lived j i e f = rw (e, f) lives
    sparing unposted x (filled j {n} y w) e f = entry-fits j n w
    sparing unposted x (emptied j {q} {n} y w) e f = entry-fits j n w
    sparing unposted x (paged {q} {n} y l) e f = (omega arith, λ m. l)
    sparing unposted x (counted {j} o) e f = absurd (no-process j o e)
    sparing unposted x (freed-word j o z y) e f = absurd (no-process j o e)
    sparing unposted x (cleared c y) e f = absurd (unreleased c f)
    sparing unposted x linked e f = absurd (no-process file tt e)
    sparing unposted x sized e f = absurd (no-process file tt e)
    sparing unposted x (set-bits {j} c z) e f = bits-apart j e
    sparing unposted x (posted c y) e f = absurd (unposted c f)
    sparing unposted x (received c y) e f = absurd (unreceived c f)

    by-post : index_of given ≡ p → Later r (over r (post h r caller k.a k.buffer).effects.words) p
    unfolding post
    by-post e = rw e (cond_both (λ ws. Later r (over r ws) p) (present r process given && (may_post r caller p && ltb (r (at process p queue)) messages))
        (queued (seid_at r process caller) p k.buffer (r (at process p queue))) []
        (λ t. later-posted r p (seid_at r process caller) k.buffer) (λ t. later-spared r p nil))

    pub later : Clear (rule_of h r st k).refusals → Later r (over r (rule_of h r st k).effects.words) p
    unfolding rule_of
    later ok = elim (ℕ_discrete (index_of given) p) [
      | yes e ↦ elim (ℕ_discrete k.code 15) [
        | yes c ↦ rw c (by-post e)
        | no n ↦ later-spared r p (all_map (sparing (λ c f. n c)) (writes h r st k me ok))
      ]
      | no n ↦ later-spared r p (all_map (sparing (λ c. n)) (writes h r st k me ok))
    ]
