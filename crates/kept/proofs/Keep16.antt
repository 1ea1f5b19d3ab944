-- Call 16, receive, keeps tables well formed.
use mathlib.Core.Path.{◌≡◌, refl, ap, ◌∙◌}
use mathlib.Core.Bool.{cond}
use mathlib.Core.List.{List, ◌∷◌}
use Prim.Native.Nat.{ℕ, ◌+◌, ◌-◌, ◌*◌, ◌≤◌, ◌<◌}
use native.Mathlib.Omega.{arith}
use native.Mathlib.Decide.{ℕ_discrete}
use borrow.Author.Tests.{eqb-false}
use Rattle.rules.specs.Words.{tab_from}
use Rattle.rules.specs.Layout.{process, Addr, at, queue, messages, message_words, messages_at, message_at, pages_at}
use Rattle.rules.specs.Rule.{Word, over, ◌≔◌, same_addr}
use Rattle.rules.specs.Find.{zeros}
use Rattle.rules.specs.Call16.{receive, moved_up}
use Rattle.laws.proofs.Written.{AllOf, all_append, hit, miss, over-append}
use Rattle.laws.proofs.Refusals.{clear}
use Rattle.kept.proofs.Records.{InRecord, word_in, apart-word, tab-in, tab-past, tab-at}
use Rattle.kept.proofs.Keeps.{Keeps, KeptBy, Caller}
use Rattle.kept.proofs.Mail.{keeps-mail}

-- the oldest message taken away: every other moves up
module _ (r : Addr → ℕ) (p : ℕ) where
  abbrev n : ℕ
  n = r (at process p queue)

  abbrev pub taken : List Word
  taken = (at process p queue ≔ n - 1) ∷ moved_up r p

  pub taken_in : AllOf (InRecord process p) taken
  unfolding moved_up zeros
  taken_in = word_in process p queue (n - 1) (omega arith)
      (all_append _ (tab-in process p (λ k. r (at process p (k + message_words))) messages_at (message_words * (messages - 1)) (omega arith))
      (tab-in process p (λ w. 0) (message_at (messages - 1) 0) message_words (omega arith)))

  -- the length written, then the messages moved, then the last one cleared
  shortened : Addr → ℕ
  shortened b = cond (same_addr b (at process p queue)) (n - 1) (r b)

  moved : List Word
  moved = tab_from messages_at (message_words * (messages - 1)) (λ k. at process p k ≔ r (at process p (k + message_words)))

  word : (j : ℕ) → over r taken (at process p j) ≡ over (over shortened moved) (zeros process p (message_at (messages - 1) 0) message_words) (at process p j)
  unfolding over moved_up shortened moved
  word j = ap (λ (f : Addr → ℕ). f (at process p j)) (over-append shortened moved (zeros process p (message_at (messages - 1) 0) message_words))

  -- the last message
  cleared : (j : ℕ) → message_at (messages - 1) 0 ≤ j → j < message_at messages 0 → over r taken (at process p j) ≡ 0
  unfolding zeros
  cleared j a b = word j ∙ tab-at process p (λ w. 0) (message_at (messages - 1) 0) message_words (over shortened moved) j a (omega arith)

  before : (j : ℕ) → j < message_at (messages - 1) 0 → over r taken (at process p j) ≡ over shortened moved (at process p j)
  unfolding zeros
  before j a = word j ∙ tab-past process p (λ w. 0) (message_at (messages - 1) 0) message_words (over shortened moved) j (λ x y. omega arith)

  -- the others move up
  moves : (j : ℕ) → messages_at ≤ j → j < message_at (messages - 1) 0 → over r taken (at process p j) ≡ r (at process p (j + message_words))
  unfolding moved
  moves j a b = before j b ∙ tab-at process p (λ k. r (at process p (k + message_words))) messages_at (message_words * (messages - 1)) shortened j a (omega arith)

  -- a word that is no message's
  apart : (j : ℕ) → (messages_at ≤ j → j < pages_at → ⊥) → over r taken (at process p j) ≡ shortened (at process p j)
  unfolding zeros moved
  apart j n =
      word j ∙ tab-past process p (λ w. 0) (message_at (messages - 1) 0) message_words (over shortened moved) j (λ x y. n (omega arith) (omega arith))
      ∙ tab-past process p (λ k. r (at process p (k + message_words))) messages_at (message_words * (messages - 1)) shortened j (λ x y. n (omega arith) (omega arith))

  pub taken-length : over r taken (at process p queue) ≡ n - 1
  unfolding shortened
  taken-length = apart queue (λ x y. omega arith) ∙ hit (at process p queue) (at process p queue) (n - 1) n refl

  pub taken-past : (j : ℕ) → (messages_at ≤ j → j < pages_at → ⊥) → (j ≡ queue → ⊥) → over r taken (at process p j) ≡ r (at process p j)
  unfolding shortened
  taken-past j l x = apart j l ∙ miss (at process p j) (at process p queue) (n - 1) (r (at process p j)) (apart-word process p j queue x)

  -- message m is the one that stood after it
  pub taken-later : (m j : ℕ) → m + 1 < messages → j < message_words → over r taken (at process p (message_at m j)) ≡ r (at process p (message_at (m + 1) j))
  taken-later m j ml jl =
      let e : message_at m j + message_words ≡ message_at (m + 1) j = omega arith in
      moves (message_at m j) (omega arith) (omega arith) ∙ ap (λ (w : ℕ). r (at process p w)) e

module _ (h : List ℕ) (r : Addr → ℕ) (p : ℕ) (me : Caller h r p) (some : r (at process p queue) ≡ 0 → ⊥) where
  receives : Keeps h r (taken r p)
  receives =
      let x = (me.fine.own process p me.in-range).alive me.alive in
      keeps-mail h r me.fine p me.in-range me.alive (taken_in r p) (taken-past r p) (rw (taken-length r p) (omega (arith, x.queue-fits)))
      (λ m j ml jl full. let full' : r (at process p queue) - 1 ≤ m = rw (taken-length r p) at full in
      elim (ℕ_discrete m (messages - 1)) [
        | yes e ↦ cleared r p (message_at m j) (omega arith) (omega arith)
        | no ne ↦ taken-later r p m j (omega arith) jl ∙ x.unused (m + 1) j (omega arith) jl (omega arith)
      ])
      (λ m l. let l' : m < r (at process p queue) - 1 = rw (taken-length r p) at l in
      rw (taken-later r p m 0 (omega (arith, x.queue-fits)) (omega arith)) (me.fine.sender p (m + 1) me.in-range (omega arith)))

pub keeps : (h : List ℕ) (r : Addr → ℕ) (p : ℕ) → Caller h r p → (buffer : List ℕ) → KeptBy h r (receive h r p buffer)
unfolding receive
keeps h r p me buffer e =
    let ok = clear (receive h r p buffer).refusals refl e in
    receives h r p me (eqb-false (r (at process p queue)) 0 ok.1.0)
