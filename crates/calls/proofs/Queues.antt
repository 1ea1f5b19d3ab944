-- Messages: a message shown as bytes, the queue moved up, in the rule's words; and the two ends of a receive.
use mathlib.Core.Path.{◌≡◌, refl, sym, ap, ◌∙◌}
use mathlib.Core.Bool.{not}
use mathlib.Core.List.{List, [], ◌∷◌, ◌++◌}
use Prim.Native.Nat.{ℕ, zero, suc, ◌+◌, ◌*◌, ◌-◌, ◌≤◌, ◌<◌, ◌^◌}
use native.Mathlib.Omega.{arith}
use native.Mathlib.Numerals.{add-one}
use lib.Dec.{eqb}
use lib.ListN.{length, get_or, set, drop, length-set, length-drop, replicate}
use lib.Seq.{sets, get_or-drop, get_or-set_other, paste, paste-zero, paste-suc}
use borrow.Author.Tests.{eqb-true}
use Rattle.std.specs.Prelude.{Result, Ok, IsErr, IsErrAnd}
use Rattle.rules.specs.Words.{tab_from, bytes4}
use Rattle.rules.specs.Layout.{process, configuration, at, offset, rd, queue, messages, message_words, messages_at, message_at}
use Rattle.rules.specs.Errors.{XbSz, XbNoMes}
use Rattle.rules.specs.Rule.{Refusal, ◌⇒◌, ◌≔◌, write, first_refusal}
use Rattle.rules.specs.Find.{zeros}
use Rattle.rules.specs.Call16.{moved_up, receive, message_bytes}
use Rattle.words.proofs.Copies.{sets-all}
use Rattle.laws.proofs.Tab.{tab-more}
use Rattle.laws.proofs.Tests.{passed}
use Rattle.laws.proofs.Written.{write-append}
use Rattle.layout.specs.declared.Header.{Header}
use Rattle.layout.specs.Header.{record_of, place_of}
use Rattle.calls.specs.declared.Caller.{Caller}
use Rattle.calls.specs.World.{words_of, Known, Sound}
use Rattle.calls.specs.Left.{told, rule_at, buffer_of, Left}
use Rattle.calls.specs.declared.error.Error.{Error}
use Rattle.calls.specs.Refusing.{number_of}
use Rattle.calls.specs.Mail.{shown_at}
use Rattle.calls.proofs.Worlds.{spot, shape}
use Rattle.calls.proofs.Given.{zeros-is}
use Rattle.laws.proofs.Refusals.{clear}
use Rattle.calls.proofs.Leaves.{refusal-some, left-stopped, left-told, buffer-refused, buffer-done}

-- ---- a message shown

pub shown-more : (t : List ℕ) (from : ℕ) (b : List ℕ) (n : ℕ) → shown_at t from b (n + 1) ≡ sets (shown_at t from b n) (4 * n) (bytes4 (get_or t (from + n) 0))
unfolding shown_at
shown-more t from b n = rw add-one

-- four words in sixteen bytes
shown-four : (t : List ℕ) (from : ℕ) (b : List ℕ) → length b ≡ message_bytes → shown_at t from b message_words
    ≡ bytes4 (get_or t (from + 0) 0) ++ (bytes4 (get_or t (from + 1) 0) ++ (bytes4 (get_or t (from + 2) 0) ++ bytes4 (get_or t (from + 3) 0)))
unfolding shown_at
shown-four t from b e =
    let all = bytes4 (get_or t (from + 0) 0) ++ (bytes4 (get_or t (from + 1) 0) ++ (bytes4 (get_or t (from + 2) 0) ++ bytes4 (get_or t (from + 3) 0))) in
    sets-all b all (sym e)

-- ---- the queue moved up

-- n words from a place on, each taken from a message further
moved_at : List ℕ → ℕ → ℕ → List ℕ
moved_at t from zero = t
moved_at t from (suc n) = set (moved_at t from n) (from + n) (get_or t (from + n + message_words) 0)

-- copied at once
moved-pasted : (t : List ℕ) (from n : ℕ) → from + n + message_words ≤ length t → paste t from (drop (from + message_words) t) n ≡ moved_at t from n
unfolding moved_at
moved-pasted t from zero l = sym (paste-zero t from (drop (from + message_words) t))
moved-pasted t from (suc n) l =
    let s = drop (from + message_words) t in
    let further : from + message_words + n ≡ from + n + message_words = omega arith in
    sym (paste-suc t from s n 0 (omega arith) (omega (arith, length-drop (from + message_words) t)))
    ∙ ap (λ (v : ℕ). set (paste t from s n) (from + n) v)
    (get_or-drop (from + message_words) t n 0 ∙ ap (λ (i : ℕ). get_or t i 0) further)
    ∙ ap (λ (x : List ℕ). set x (from + n) (get_or t (from + n + message_words) 0)) (moved-pasted t from n (omega arith))

-- the caller's messages lie within the table, also once a word was stored; x is where its record begins
pub messages-within : {t u : List ℕ} {n : Header} {c : Caller} → Sound t n c → {x : ℕ} (i v : ℕ) → x ≡ record_of n process c.slot → u ≡ set t i v
    → x + messages_at + message_words * (messages - 1) + message_words ≤ length u
messages-within {t} {c = c} s i v xe ue =
    let e = spot s.known (at process c.slot messages_at) in
    rw (ue, length-set t i v, s.words) (omega (arith, xe, e, s.caller))

-- t is the table that is read, u the one that is written: they agree at the words to be moved
moved-is : (h t u : List ℕ) (p n : ℕ)
    → ((j : ℕ) → j < n → rd h t (at process p (messages_at + j + message_words)) ≡ get_or u (offset h (at process p messages_at) + j + message_words) 0)
    → write h u (tab_from messages_at n (λ k. at process p k ≔ rd h t (at process p (k + message_words)))) ≡ moved_at u (offset h (at process p messages_at)) n
unfolding tab_from moved_at
moved-is h t u p zero e = refl
moved-is h t u p (suc n) e =
    let further : offset h (at process p (messages_at + n)) ≡ offset h (at process p messages_at) + n = omega arith in
    ap (write h u) (tab-more messages_at n (λ k. at process p k ≔ rd h t (at process p (k + message_words))))
    ∙ write-append h u (tab_from messages_at n (λ k. at process p k ≔ rd h t (at process p (k + message_words)))) _
    ∙ rw (moved-is h t u p n (λ j l. e j (omega arith)), e n (omega arith), further)

-- a message word is not the queue's length
kept_word : (h t : List ℕ) (p j v : ℕ) → rd h t (at process p (messages_at + j + message_words))
    ≡ get_or (set t (offset h (at process p queue)) v) (offset h (at process p messages_at) + j + message_words) 0
unfolding rd
kept_word h t p j v =
    let e : offset h (at process p (messages_at + j + message_words)) ≡ offset h (at process p messages_at) + j + message_words = omega arith in
    ap (λ (k : ℕ). get_or t k 0) e
    ∙ sym (get_or-set_other t (offset h (at process p queue)) (offset h (at process p messages_at) + j + message_words) v 0 (λ q. omega arith))

-- ---- receive, of what the code has found to wait

abbrev pub receive_tests : ℕ → ℕ → List Refusal
receive_tests bytes waiting = (not (eqb bytes message_bytes) ⇒ XbSz) ∷ (eqb waiting 0 ⇒ XbNoMes) ∷ []

module _ (t : List ℕ) (p : ℕ) (b : List ℕ) {waiting : ℕ} (queued : waiting ≡ words_of t (at process p queue)) where
  receive-number : {e : ℕ} → e ≡ first_refusal (receive_tests (length b) waiting) → e ≡ first_refusal (rule_at t (λ h q. receive h q p b)).refusals
  unfolding receive
  receive-number f = f ∙ rw queued

  pub receive-refused : (e : Error) (r : Result (ℕ × ℕ) Error) → number_of e ≡ first_refusal (receive_tests (length b) waiting)
      → IsErr r → IsErrAnd r (λ x. x ≡ e)
      → Left t (λ h q. receive h q p b) (told r) t × (b ≡ buffer_of b (rule_at t (λ h q. receive h q p b)))
  receive-refused e r f is same = (
    left-stopped t _ e r (receive-number f) is same,
    buffer-refused (rule_at t (λ h q. receive h q p b)) (receive-number f) b (refusal-some e),
  )

  module _ {n : Header} (known : Known t n) (none : 0 ≡ first_refusal (receive_tests (length b) waiting)) {x : ℕ} (record-at : x ≡ record_of n process p) where
    from_is : x + messages_at ≡ offset (configuration t) (at process p messages_at)
    from_is = omega (arith, record-at, spot known (at process p messages_at))

    -- the words: the count, the queue moved up, the last place cleared
    receive-words : {m : ℕ} {u v z : List ℕ} → m ≡ waiting - 1 → u ≡ set t (place_of n (at process p queue)) m
        → x + messages_at + 28 + message_words ≤ length u
        → {k : ℕ} → k ≡ 28 → v ≡ paste u (x + messages_at) (drop (x + messages_at + message_words) u) k
        → z ≡ sets v (x + messages_at + 28) (replicate message_words 0)
        → z ≡ write (configuration t) t (rule_at t (λ h q. receive h q p b)).effects.words
    unfolding receive moved_up
    receive-words {m} {u} {v} {z} me ue fits ke ve ze =
        let h = configuration t in
        let f0 = offset h (at process p messages_at) in
        let u0 = set t (offset h (at process p queue)) (words_of t (at process p queue) - 1) in
        let uu : u ≡ u0 = rw (ue, spot known (at process p queue), me, queued) refl in
        let moved = moved-is h t u0 p 28 (λ j l. kept_word h t p j (words_of t (at process p queue) - 1)) in
        let last : offset h (at process p (message_at (messages - 1) 0)) ≡ f0 + 28 = omega arith in
        let ve' : v ≡ moved_at u (x + messages_at) 28 = ve ∙ rw ke (moved-pasted u (x + messages_at) 28 fits) in
        ze ∙ rw (ve', from_is, uu) refl
        ∙ sym (
        write-append h u0 (tab_from messages_at 28 (λ k. at process p k ≔ rd h t (at process p (k + message_words)))) (zeros process p (message_at (messages - 1) 0) message_words)
        ∙ ap (λ (l : List ℕ). write h l (zeros process p (message_at (messages - 1) 0) message_words)) moved
        ∙ zeros-is h (moved_at u0 f0 28) process p (message_at (messages - 1) 0) message_words
        ∙ ap (λ (k : ℕ). sets (moved_at u0 f0 28) k (replicate message_words 0)) last
        )

    -- the buffer: sender and text
    receive-buffer : length b ≡ message_bytes → shown_at t (x + messages_at) b message_words ≡ (rule_at t (λ h q. receive h q p b)).effects.buffer
    unfolding receive rd
    receive-buffer l =
        let at-word : (j : ℕ) → x + messages_at + j ≡ offset (configuration t) (at process p (messages_at + j)) = λ j. omega (arith, from_is) in
        shown-four t (x + messages_at) b l ∙ rw (at-word 0, at-word 1, at-word 2, at-word 3)

    sixteen : length b ≡ message_bytes
    sixteen = eqb-true (length b) message_bytes (passed _ (clear (receive_tests (length b) waiting) refl (sym none)).0)

    pub receive-done : {m : ℕ} {u v z y : List ℕ} → m ≡ waiting - 1 → u ≡ set t (place_of n (at process p queue)) m
        → x + messages_at + 28 + message_words ≤ length u
        → {k : ℕ} → k ≡ 28 → v ≡ paste u (x + messages_at) (drop (x + messages_at + message_words) u) k
        → z ≡ sets v (x + messages_at + 28) (replicate message_words 0) → y ≡ shown_at t (x + messages_at) b message_words
        → Left t (λ h q. receive h q p b) (told (Ok (0, 0))) z × (y ≡ buffer_of b (rule_at t (λ h q. receive h q p b)))
    unfolding receive
    receive-done me ue fits ke ve ze ye = (
      left-told t (λ h q. receive h q p b) (receive-number none) refl refl (receive-words me ue fits ke ve ze),
      ye ∙ receive-buffer sixteen ∙ buffer-done (rule_at t (λ h q. receive h q p b)) (receive-number none) b refl,
    )

-- the messages begin near enough that a place in them fits
pub messages-near : {t : List ℕ} {n : Header} {c : Caller} → Sound t n c → {x : ℕ} → x ≡ record_of n process c.slot → x + messages_at < 2 ^ 44
messages-near {t} {c = c} s xe =
    let h = shape s.known in
    omega (arith, xe, spot s.known (at process c.slot messages_at), h.few-cells, h.few-subtypes, h.few process, s.caller)
