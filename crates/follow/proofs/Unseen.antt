-- The calls that write no live word, no serial and no descriptor's file: 4, 6, 10, 12 to 20, and any code that is no call's.
use mathlib.Core.Path.{◌≡◌, ap, sym}
use mathlib.Core.Bool.{◌&&◌}
use mathlib.Core.List.{List, []}
use Prim.Native.Nat.{ℕ, ◌+◌, ◌*◌, ◌-◌, ◌≤◌, ◌<◌}
use native.Mathlib.Omega.{arith}
use lib.Dec.{ltb}
use Rattle.rules.specs.Words.{tab_from}
use Rattle.rules.specs.Layout.{Kind, process, segment, file, Addr, at, live, serial, queue, held_at, used_at, messages, message_words, messages_at, message_at, pages, page_at, bits, links, size, holders}
use Rattle.rules.specs.Seid.{index_of, or_self, present}
use Rattle.rules.specs.Rule.{Word, ◌≔◌, over, effect, Rule, rule}
use Rattle.rules.specs.Find.{in_own_cell, free_entry, zeros, pages_set}
use Rattle.rules.specs.Call04.{rendezvous}
use Rattle.rules.specs.Call06.{set_access}
use Rattle.rules.specs.Call10.{link}
use Rattle.rules.specs.Call12.{set_bits_of}
use Rattle.rules.specs.Call13.{read_block}
use Rattle.rules.specs.Call14.{write_block}
use Rattle.rules.specs.Call15.{queued, may_post, post}
use Rattle.rules.specs.Call16.{moved_up, receive}
use Rattle.rules.specs.Call17.{status_of}
use Rattle.rules.specs.Call18.{access_of}
use Rattle.rules.specs.Call19.{remapped, remap}
use Rattle.rules.specs.Call20.{page_access}
use Rattle.laws.proofs.Written.{AllOf, nil, also, all_append, all-if, all_map, all-tab, over-miss}
use Rattle.laws.proofs.Object.{Object, no-process}
use Rattle.follow.proofs.One.{Unseen}

-- a write past the live word and the serial, and in a process's record before or past the descriptors
pub record Quiet (x : Word) : Type 0 where
  pub late : serial < x.at.word
  pub beside : x.at.kind ≡ process → held_at file 0 ≤ x.at.word → held_at segment 0 ≤ x.at.word

pub unseen : (r : Addr → ℕ) {ws : List Word} → AllOf Quiet ws → Unseen r (over r ws)
unseen r a = record {
  lives = λ m j. over-miss (at m j live) (all_map (λ x q e. let w = ap (λ (b : Addr). b.word) e in omega (arith, q.late)) a) r;
  serials = λ m j. over-miss (at m j serial) (all_map (λ x q e. let w = ap (λ (b : Addr). b.word) e in omega (arith, q.late)) a) r;
  held = λ o d l. over-miss (at process o (held_at file d)) (all_map (λ x q e.
      let w = ap (λ (b : Addr). b.word) e in
      omega (arith, q.beside (sym (ap (λ (b : Addr). b.kind) e)) (omega arith))) a) r;
}

in-process : (i j v : ℕ) → serial < j → (held_at file 0 ≤ j → held_at segment 0 ≤ j) → Quiet (at process i j ≔ v)
in-process i j v lo hi = record { late = lo; beside = λ e. hi }

in-object : (k : Kind) → Object k → (i j v : ℕ) → serial < j → Quiet (at k i j ≔ v)
in-object k o i j v lo = record { late = lo; beside = λ e. absurd (no-process k o e) }

-- a run of words past the descriptors
run : (i j n : ℕ) (f : ℕ → ℕ) → held_at segment 0 ≤ j → AllOf Quiet (tab_from j n (λ k. at process i k ≔ f k))
run i j n f lo = all-tab Quiet j n (λ k. at process i k ≔ f k) (λ k a b. in-process i k (f k) (omega arith) (λ l. omega arith))

-- ---- call by call

-- what the rule writes is unseen
abbrev pub UnseenBy : (Addr → ℕ) → Rule → Type 0
UnseenBy r x = Unseen r (over r x.effects.words)

none : (r : Addr → ℕ) → Unseen r (over r [])
none r = unseen r nil

module _ (h : List ℕ) (r : Addr → ℕ) (p : ℕ) where
  pub unseen-4 : (a b : ℕ) (buffer : List ℕ) → UnseenBy r (rendezvous h r p a b buffer)
  unfolding rendezvous
  unseen-4 a b buffer =
      let d : ℕ = free_entry r segment p in
      let s : ℕ = or_self r p a in
      unseen r (also (in-process p (held_at segment d) s (omega arith) (λ l. omega arith)) (also (in-process p (used_at segment d) b (omega arith) (λ l. omega arith))
      (all-if Quiet (in_own_cell h p segment s) _ _ (λ e. also (in-object segment tt (index_of s) (holders segment) _ (omega arith)) nil) (λ e. nil))))

  pub unseen-6 : (a b : ℕ) (buffer : List ℕ) → UnseenBy r (set_access h r p a b buffer)
  unfolding set_access
  unseen-6 a b buffer = unseen r (also (in-process p (used_at segment a) b (omega arith) (λ l. omega arith)) nil)

  pub unseen-10 : (a : ℕ) (buffer : List ℕ) → UnseenBy r (link h r p a buffer)
  unfolding link
  unseen-10 a buffer = unseen r (also (in-object file tt (index_of (or_self r p a)) links _ (omega arith)) nil)

  pub unseen-12 : (b : ℕ) (buffer : List ℕ) (s : ℕ) (k : Kind) → UnseenBy r (set_bits_of h r p s b buffer k)
  unseen-12 b buffer s process = unseen r (also (in-process (index_of s) (bits process) b (omega arith) (λ l. omega arith)) nil)
  unseen-12 b buffer s segment = unseen r (also (in-object segment tt (index_of s) (bits segment) b (omega arith)) nil)
  unseen-12 b buffer s file = unseen r (also (in-object file tt (index_of s) (bits file) b (omega arith)) nil)

  pub unseen-13 : (st : List ℕ) (a b : ℕ) (buffer : List ℕ) → UnseenBy r (read_block h r st p a b buffer)
  unfolding read_block
  unseen-13 st a b buffer = none r

  pub unseen-14 : (a b : ℕ) (buffer : List ℕ) → UnseenBy r (write_block h r p a b buffer)
  unfolding write_block
  unseen-14 a b buffer = unseen r (also (in-object file tt (index_of (r (at process p (held_at file a)))) size _ (omega arith)) nil)

  pub unseen-15 : (a : ℕ) (buffer : List ℕ) → UnseenBy r (post h r p a buffer)
  unfolding post queued
  unseen-15 a buffer =
      let s : ℕ = or_self r p a in
      let q : ℕ = index_of s in
      let n : ℕ = r (at process q queue) in
      let text : (j v : ℕ) → Quiet (at process q (message_at n j) ≔ v) = λ j v. in-process q (message_at n j) v (omega arith) (λ l. omega arith) in
      unseen r (all-if Quiet (present r process s && (may_post r p q && ltb n messages)) _ _
      (λ e. also (in-process q queue (n + 1) (omega arith) (λ l. omega arith)) (also (text 0 _) (also (text 1 _) (also (text 2 _) (also (text 3 _) nil)))))
      (λ e. nil))

  pub unseen-16 : (buffer : List ℕ) → UnseenBy r (receive h r p buffer)
  unfolding receive moved_up zeros
  unseen-16 buffer =
      unseen r (also (in-process p queue (r (at process p queue) - 1) (omega arith) (λ l. omega arith))
      (all_append _ (run p messages_at (message_words * (messages - 1)) (λ k. r (at process p (k + message_words))) (omega arith))
      (run p (message_at (messages - 1) 0) message_words (λ k. 0) (omega arith))))

  pub unseen-17 : (buffer : List ℕ) (s : ℕ) (k : Kind) → UnseenBy r (status_of h r p s buffer k)
  unseen-17 buffer s k = none r

  pub unseen-18 : (a : ℕ) (buffer : List ℕ) → UnseenBy r (access_of h r p a buffer)
  unfolding access_of
  unseen-18 a buffer = none r

  pub unseen-19 : (a b c : ℕ) (buffer : List ℕ) → UnseenBy r (remap h r p a b c buffer)
  unfolding remap pages_set
  unseen-19 a b c buffer =
      unseen r (all-tab Quiet 0 pages (λ g. at process p (page_at g) ≔ remapped r p a b c g)
      (λ g lo hi. in-process p (page_at g) _ (omega arith) (λ l. omega arith)))

  pub unseen-20 : (a : ℕ) (buffer : List ℕ) → UnseenBy r (page_access h r p a buffer)
  unfolding page_access access_of
  unseen-20 a buffer = none r

-- a code that is no call's
pub unseen-other : (r : Addr → ℕ) (buffer : List ℕ) → UnseenBy r (rule [] (effect 0 0 buffer [] []))
unseen-other r buffer = none r
