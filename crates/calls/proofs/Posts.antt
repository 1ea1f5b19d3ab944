-- Posts: what refuses one, the message's words, and the two ends of the call.
use mathlib.Core.Path.{◌≡◌, refl, sym, ◌∙◌}
use mathlib.Core.Bool.{Bool, true, false, ◌&&◌, not}
use mathlib.Core.List.{List, []}
use Prim.Native.Nat.{ℕ, ◌+◌, ◌*◌}
use native.Mathlib.Omega.{arith}
use lib.Dec.{ltb, leb}
use lib.ListN.{length, get_or, set}
use borrow.Author.Tests.{leb-true, leb-false, lt-ltb, le-ltb}
use Rattle.std.specs.Prelude.{Result, Ok, IsErr, IsErrAnd}
use Rattle.rules.specs.Words.{word4}
use Rattle.rules.specs.Layout.{process, configuration, cell_of, flows, flow_matrix, Addr, at, offset, queue, messages, messages_at, message_at, message_words}
use Rattle.rules.specs.Seid.{index_of, formed, present, seid_at, or_self}
use Rattle.rules.specs.Rule.{write, first_refusal}
use Rattle.rules.specs.Rights.{may_write}
use Rattle.rules.specs.Call15.{queued, may_post, post}
use Rattle.laws.proofs.Tests.{passed}
use Rattle.levels.proofs.Cells.{matrix-any}
use Rattle.layout.specs.declared.Header.{Header}
use Rattle.layout.specs.Header.{record_of, place_of}
use Rattle.calls.specs.declared.error.Error.{Error}
use Rattle.calls.specs.declared.Caller.{Caller}
use Rattle.calls.specs.declared.objects.Seen.{Seen}
use Rattle.calls.specs.World.{Known, Sound, words_of}
use Rattle.calls.specs.Seen.{named_of, seen_of}
use Rattle.calls.specs.Entries.{four_at}
use Rattle.calls.specs.Left.{told, rule_at, Left}
use Rattle.calls.specs.Refusing.{number_of}
use Rattle.calls.specs.Calls.{post_tests}
use Rattle.calls.proofs.Worlds.{spot, shape}
use Rattle.laws.proofs.Refusals.{clear}
use Rattle.calls.proofs.Looks.{formed-is, seen-formed, slot_is}
use Rattle.calls.proofs.Leaves.{left-stopped, left-told}

-- the words of a message delivered: x is where q's record begins, y what waits there
pub deliver-words : {t : List ℕ} {n : Header} → Known t n → (q me waiting : ℕ) (b : List ℕ) {x x1 x2 x3 : ℕ} {u z : List ℕ} → x ≡ record_of n process q
    → u ≡ set t (place_of n (at process q queue)) (waiting + 1) → x1 ≡ word4 b 0 → x2 ≡ word4 b 4 → x3 ≡ word4 b 8
    → z ≡ four_at u (x + (messages_at + message_words * waiting)) me x1 x2 x3 → z ≡ write (configuration t) t (queued me q b waiting)
unfolding queued four_at
deliver-words {t} known q me waiting b {x} xe ue a1 a2 a3 ze =
    let h = configuration t in
    let from = x + (messages_at + message_words * waiting) in
    let first : from ≡ offset h (at process q (message_at waiting 0)) = omega (arith, xe, spot known (at process q (message_at waiting 0))) in
    let f1 : from + 1 ≡ offset h (at process q (message_at waiting 1)) = omega arith in
    let f2 : from + 2 ≡ offset h (at process q (message_at waiting 2)) = omega arith in
    let f3 : from + 3 ≡ offset h (at process q (message_at waiting 3)) = omega arith in
    rw (ze, f1, f2, f3, first, ue, spot known (at process q queue), a1, a2, a3)

-- room is what a full queue has not
room-is : (m n : ℕ) → not (leb m n) ≡ ltb n m
room-is m n = by (leb m n) refl
  where
    by : (b : Bool) → leb m n ≡ b → not b ≡ ltb n m
    by true e = sym (le-ltb n m (leb-true m n e))
    by false e = sym (lt-ltb n m (leb-false m n e))

self-zero : (r : Addr → ℕ) (p : ℕ) → or_self r p 0 ≡ seid_at r process p
unfolding or_self
self-zero r p = refl

-- whether the caller's level flows to the receiver's
abbrev flows_to : List ℕ → ℕ → Seen → Bool
flows_to t p to = flows (configuration t) (cell_of (configuration t) process p) to.cell

-- a post past its last test: what the code has found of the receiver and of what waits there, and the number that refuses
pub record Posted (t : List ℕ) (n : Header) (c : Caller) (a : ℕ) (b : List ℕ) (to : Seen) (waiting e : ℕ) : Type 0 where
  pub sound : Sound t n c
  pub seen : to ≡ seen_of (configuration t) (words_of t) c.slot process (named_of n process (or_self (words_of t) c.slot a))
  pub waits : waiting ≡ words_of t (at process to.slot queue)
  pub told : e ≡ first_refusal (post_tests to (length b) (flows_to t c.slot to) (may_write to.rights) (leb messages waiting))

pub posted : {t : List ℕ} {n : Header} {c : Caller} → Sound t n c → {m : List (List Bool)} → m ≡ flow_matrix (configuration t) → (a : ℕ) (b : List ℕ)
    {s waiting e : ℕ} {to : Seen} {flow allowed : Bool} → s ≡ or_self (words_of t) c.slot a
    → to ≡ seen_of (configuration t) (words_of t) c.slot process (named_of n process s) → waiting ≡ words_of t (at process to.slot queue)
    → allowed ≡ may_write to.rights → flow ≡ get_or (get_or m c.cell []) to.cell false
    → e ≡ first_refusal (post_tests to (length b) flow allowed (leb messages waiting)) → Posted t n c a b to waiting e
posted {t} {n} {c} sound {m} matrix a b {waiting = waiting} {to = to} {flow} {allowed} named seen waits may flow-is e-is =
    let f : flow ≡ flows_to t c.slot to
    = flow-is ∙ rw (matrix, sound.home) (matrix-any (configuration t) (shape sound.known).few-cells _ _) in
    record {
      sound = sound;
      seen = rw (← named) seen;
      waits = waits;
      told = rw (← f, ← may) e-is;
    }

module _ {t : List ℕ} {n : Header} {c : Caller} {a : ℕ} {b : List ℕ} {to : Seen} {waiting e : ℕ} (p : Posted t n c a b to waiting e) where
  named : ℕ
  named = or_self (words_of t) c.slot a

  by_form : (f : Bool) → formed (configuration t) process named ≡ f
      → first_refusal (post_tests to (length b) (flows_to t c.slot to) (may_write to.rights) (leb messages waiting)) ≡ first_refusal (rule_at t (λ h q. post h q c.slot a b)).refusals
  unfolding post present may_post named
  by_form true f = rw (p.waits, seen-formed p.sound.known c.slot process named p.seen f, f)
  by_form false f = rw (formed-is p.sound.known c.slot process named p.seen, f)

  post-number : e ≡ first_refusal (rule_at t (λ h q. post h q c.slot a b)).refusals
  post-number = p.told ∙ by_form (formed (configuration t) process named) refl

  pub post-refused : (x : Error) (r : Result (ℕ × ℕ) Error) → number_of x ≡ e → IsErr r → IsErrAnd r (λ y. y ≡ x)
      → Left t (λ h q. post h q c.slot a b) (told r) t
  post-refused x r found is same = left-stopped t _ x r (found ∙ post-number) is same

  -- past the refusals the message is delivered, or dropped
  module _ (none : e ≡ 0) where
    formed-past : formed (configuration t) process named ≡ true
    unfolding named
    formed-past =
        let unrefused = clear (post_tests to (length b) (flows_to t c.slot to) (may_write to.rights) (leb messages waiting)) refl (sym p.told ∙ none) in
        passed _ (rw (formed-is p.sound.known c.slot process named p.seen) at unrefused.1.0)

    test-is : (to.present && (may_write to.rights && not (leb messages waiting)))
        ≡ (present (words_of t) process named && (may_post (words_of t) c.slot (index_of named) && ltb (words_of t (at process (index_of named) queue)) messages))
    unfolding present may_post named
    test-is = rw (room-is messages waiting, p.waits, seen-formed p.sound.known c.slot process named p.seen formed-past)

    pub post-delivered : {me : ℕ} {z : List ℕ} {allowed : Bool} → allowed ≡ may_write to.rights → me ≡ or_self (words_of t) c.slot 0
        → to.present && (allowed && not (leb messages waiting)) ≡ true
        → z ≡ write (configuration t) t (queued me to.slot b waiting) → z ≡ write (configuration t) t (rule_at t (λ h q. post h q c.slot a b)).effects.words
    unfolding post named
    post-delivered may me-is test ze =
        rw (← test-is, ← may, test)
        (ze ∙ rw (me-is, self-zero (words_of t) c.slot, p.waits, slot_is p.sound.known c.slot process named p.seen formed-past))

    pub post-dropped : {allowed : Bool} → allowed ≡ may_write to.rights → to.present && (allowed && not (leb messages waiting)) ≡ false
        → t ≡ write (configuration t) t (rule_at t (λ h q. post h q c.slot a b)).effects.words
    unfolding post named
    post-dropped may test = rw (← test-is, ← may, test) refl

    pub post-done : {z : List ℕ} → z ≡ write (configuration t) t (rule_at t (λ h q. post h q c.slot a b)).effects.words
        → Left t (λ h q. post h q c.slot a b) (told (Ok (0, 0))) z
    unfolding post
    post-done ze = left-told t (λ h q. post h q c.slot a b) (sym none ∙ post-number) refl refl ze
