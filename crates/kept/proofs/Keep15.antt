-- Call 15, post, keeps tables well formed.
use mathlib.Core.Path.{◌≡◌, refl, ◌∙◌}
use mathlib.Core.Bool.{true, cond, ◌&&◌}
use mathlib.Core.List.{List, []}
use Prim.Native.Nat.{ℕ, ◌+◌, ◌≤◌, ◌<◌}
use native.Mathlib.Omega.{arith}
use lib.Dec.{ltb, eqb}
use borrow.Author.Tests.{ltb-true, eq-eqb, ne_eqb}
use Rattle.rules.specs.Words.{word4}
use Rattle.rules.specs.Layout.{process, slots, cell_of, flows, Addr, at, live, queue, messages, message_words, message_at}
use Rattle.rules.specs.Seid.{seid_at, or_self, index_of, present}
use Rattle.rules.specs.Rule.{over}
use Rattle.rules.specs.Call15.{post, queued, may_post}
use Rattle.laws.proofs.Tests.{and_left, and_right, passed, cond_both}
use Rattle.laws.proofs.Seids.{is-formed, is-present}
use Rattle.laws.proofs.Shape.{Held}
use Rattle.laws.proofs.Written.{AllOf, nil}
use Rattle.laws.proofs.Refusals.{clear}
use Rattle.kept.proofs.Records.{InRecord, word_in, same-record, by-slot}
use Rattle.kept.proofs.Keeps.{Keeps, KeptBy, Caller, keeps-none}
use Rattle.kept.proofs.Found.{own-index, own-found}
use Rattle.kept.proofs.Mail.{keeps-mail}

-- the caller's own seid, held by a process that it flows to
me-held : (h : List ℕ) (r : Addr → ℕ) (p c : ℕ) → Caller h r p → flows h (cell_of h process p) c ≡ true → Held h r process c (seid_at r process p)
me-held h r p c me flow =
    let f = own-found h r p me in
    record { form = f.form; serial-known = omega (arith, f.here.same-serial); flow = rw (own-index h r p me) flow }

-- a message written behind n others
module _ (me q n : ℕ) (buffer : List ℕ) where
  pub queued-in : n < messages → AllOf (InRecord process q) (queued me q buffer n)
  unfolding queued
  queued-in nl =
      word_in process q queue (n + 1) (omega arith) (word_in process q (message_at n 0) _ (omega arith) (word_in process q (message_at n 1) _ (omega arith)
      (word_in process q (message_at n 2) _ (omega arith) (word_in process q (message_at n 3) _ (omega arith) nil))))

  module _ (r : Addr → ℕ) where
    word : (j : ℕ) → over r (queued me q buffer n) (at process q j)
        ≡ cond (eqb j (message_at n 3)) (word4 buffer 8) (cond (eqb j (message_at n 2)) (word4 buffer 4) (cond (eqb j (message_at n 1)) (word4 buffer 0)
        (cond (eqb j (message_at n 0)) me (cond (eqb j queue) (n + 1) (r (at process q j))))))
    unfolding over queued
    word j = simp same-record

    -- a word of neither the queue's length nor message n
    pub queued-past : (j : ℕ) → (j ≡ queue → ⊥) → (message_at n 0 ≤ j → j < message_at n 0 + message_words → ⊥)
        → over r (queued me q buffer n) (at process q j) ≡ r (at process q j)
    queued-past j x y = word j
        ∙ rw (
          ne_eqb j (message_at n 3) (λ e. y (omega arith) (omega arith)),
          ne_eqb j (message_at n 2) (λ e. y (omega arith) (omega arith)),
          ne_eqb j (message_at n 1) (λ e. y (omega arith) (omega arith)),
          ne_eqb j (message_at n 0) (λ e. y (omega arith) (omega arith)),
          ne_eqb j queue x,
        )

    pub queued-length : over r (queued me q buffer n) (at process q queue) ≡ n + 1
    queued-length = word queue
        ∙ rw (
          ne_eqb queue (message_at n 3) (λ e. omega arith),
          ne_eqb queue (message_at n 2) (λ e. omega arith),
          ne_eqb queue (message_at n 1) (λ e. omega arith),
          ne_eqb queue (message_at n 0) (λ e. omega arith),
        )

    queued-sender : over r (queued me q buffer n) (at process q (message_at n 0)) ≡ me
    queued-sender = word (message_at n 0)
        ∙ rw (
          ne_eqb (message_at n 0) (message_at n 3) (λ e. omega arith),
          ne_eqb (message_at n 0) (message_at n 2) (λ e. omega arith),
          ne_eqb (message_at n 0) (message_at n 1) (λ e. omega arith),
          eq-eqb (message_at n 0) (message_at n 0) refl,
        )

module _ (h : List ℕ) (r : Addr → ℕ) (p : ℕ) (me : Caller h r p) (q n : ℕ) (buffer : List ℕ) (ql : q < slots h process) (lives : r (at process q live) ≡ 1)
    (n-is : n ≡ r (at process q queue)) (nl : n < messages) (flow : flows h (cell_of h process p) (cell_of h process q) ≡ true) where
  abbrev mine : ℕ
  mine = seid_at r process p

  queues : Keeps h r (queued (seid_at r process p) q buffer n)
  queues = keeps-mail h r me.fine q ql lives (queued-in mine q n buffer nl) (λ j l x. queued-past mine q n buffer r j x (λ a b. l (omega arith) (omega arith)))
      (rw (queued-length mine q n buffer r) (omega arith))
      (λ m j ml jl full. let full' : n + 1 ≤ m = rw (queued-length mine q n buffer r) at full in
      queued-past mine q n buffer r (message_at m j) (λ e. omega arith) (λ a b. omega arith) ∙ ((me.fine.own process q ql).alive lives).unused m j ml jl (omega arith))
      (λ m l. by-slot (λ m. m < n + 1 → Held h r process (cell_of h process q) (over r (queued mine q buffer n) (at process q (message_at m 0)))) n
      (λ l. rw (queued-sender mine q n buffer r) (me-held h r p (cell_of h process q) me flow))
      (λ m ne l. rw (queued-past mine q n buffer r (message_at m 0) (λ e. omega arith) (λ a b. ne (omega arith))) (me.fine.sender q m ql (omega arith))) m
      (rw (queued-length mine q n buffer r) at l))

pub keeps : (h : List ℕ) (r : Addr → ℕ) (p : ℕ) → Caller h r p → (a : ℕ) (buffer : List ℕ) → KeptBy h r (post h r p a buffer)
unfolding post
keeps h r p me a buffer e =
    let s : ℕ = or_self r p a in
    let q : ℕ = index_of s in
    let n : ℕ = r (at process q queue) in
    let ok = clear (post h r p a buffer).refusals refl e in
    cond_both (Keeps h r) (present r process s && (may_post r p q && ltb n messages)) (queued (seid_at r process p) q buffer n) []
    (λ t. queues h r p me q n buffer (is-formed _ _ s (passed _ ok.1.0)).index_in (is-present r process s (and_left (present r process s) _ t)).is_live refl
    (ltb-true n messages (and_right (may_post r p q) (ltb n messages) (and_right (present r process s) _ t))) (passed _ ok.1.1.0))
    (λ t. keeps-none h r me.fine)
