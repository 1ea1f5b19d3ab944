-- Which message comes out: twelve bytes posted and delivered with n messages ahead come out at the receiver's receive n+1, behind the sender's seid, most
-- significant byte first: `comes-out-whole`, at the end.
use mathlib.Core.Path.{◌≡◌, refl, ap, ◌∙◌}
use mathlib.Core.Bool.{Bool, true, false, cond, ◌&&◌}
use mathlib.Core.List.{List, [], ◌∷◌, ◌++◌}
use Prim.Native.Nat.{ℕ, ◌+◌, ◌*◌, ◌/◌, ◌%◌, ◌<◌}
use native.Mathlib.Omega.{arith}
use lib.Dec.{ltb, eqb}
use lib.ListN.{length}
use borrow.Author.Tests.{eq-eqb, ne_eqb, eqb-true, lt-ltb, leb-false}
use Rattle.rules.specs.Words.{bytes4, word4}
use Rattle.rules.specs.Layout.{process, record_words, slots, configuration, Addr, at, rd, live, serial, queue, messages, message_words, message_at}
use Rattle.rules.specs.Seid.{class, seid, index_of, seid_at, present}
use Rattle.rules.specs.Errors.{XOK}
use Rattle.rules.specs.Rule.{Rule, over}
use Rattle.rules.specs.Find.{in_own_cell}
use Rattle.rules.specs.Call15.{text_bytes, queued, may_post, post}
use Rattle.rules.specs.Step.{State, Call, step, next, run, rule_of}
use Rattle.laws.proofs.Tests.{and_both, cond-true, passed}
use Rattle.laws.proofs.Seids.{is-formed, is-present}
use Rattle.laws.proofs.Written.{AllOf, also}
use Rattle.kept.proofs.Records.{same-record}
use Rattle.kept.proofs.Keep15.{queued-past, queued-length}
use Rattle.kept.proofs.Kept.{Well, kept, conf-kept}
use Rattle.promises.proofs.Refusals.{own, own-clear}
use Rattle.promises.proofs.After.{its-caller, read-after}
use Rattle.promises.proofs.Stale.{given}
use Rattle.promises.proofs.Mail.{word_of, message_of, Waiting, receives, receipts, Unreleased, comes-out}

-- ---- bytes and words

-- a buffer's bytes
abbrev pub AreBytes : List ℕ → Type 0
AreBytes b = AllOf (λ x. x < 256) b

abbrev word : ℕ → ℕ → ℕ → ℕ → ℕ
word a b c d = a * 16777216 + b * 65536 + c * 256 + d

-- four bytes, made a word and taken apart again
four_bytes : (a b c d : ℕ) → a < 256 → b < 256 → c < 256 → d < 256 → bytes4 (word a b c d) ≡ a ∷ b ∷ c ∷ d ∷ []
four_bytes a b c d la lb lc ld = rw (first, second, third, fourth)
  where
    first : word a b c d / 16777216 % 256 ≡ a
    first = omega arith

    second : word a b c d / 65536 % 256 ≡ b
    second = omega arith

    third : word a b c d / 256 % 256 ≡ c
    third = omega arith

    fourth : word a b c d % 256 ≡ d
    fourth = omega arith

-- a buffer's first four bytes, and the rest
record Split (b : List ℕ) (n : ℕ) : Type 0 where
  rest : List ℕ
  rest-length : length rest ≡ n
  rest-bytes : AreBytes rest
  together : bytes4 (word4 b 0) ++ rest ≡ b
  next_word : word4 b 4 ≡ word4 rest 0
  next-but-one : word4 b 8 ≡ word4 rest 4

first-four : (b : List ℕ) (n : ℕ) → AreBytes b → length b ≡ 4 + n → Split b n
unfolding word4
first-four [] n x e = absurd (omega arith)
first-four (a ∷ []) n x e = absurd (omega arith)
first-four (a ∷ b ∷ []) n x e = absurd (omega arith)
first-four (a ∷ b ∷ c ∷ []) n x e = absurd (omega arith)
first-four (a ∷ b ∷ c ∷ d ∷ rest) n (also la (also lb (also lc (also ld more)))) e = record {
  rest = rest;
  rest-length = omega arith;
  rest-bytes = more;
  together = ap (λ (x : List ℕ). x ++ rest) (four_bytes a b c d la lb lc ld);
  next_word = refl;
  next-but-one = refl;
}

none_left : (b : List ℕ) → length b ≡ 0 → b ≡ []
none_left [] e = refl
none_left (x ∷ b) e = absurd (omega arith)

text-bytes : (b : List ℕ) → AreBytes b → length b ≡ text_bytes → bytes4 (word4 b 0) ++ (bytes4 (word4 b 4) ++ bytes4 (word4 b 8)) ≡ b
text-bytes b x e =
    let one = first-four b 8 x e in
    let two = first-four one.rest 4 one.rest-bytes one.rest-length in
    let three = first-four two.rest 0 two.rest-bytes two.rest-length in
    let last : bytes4 (word4 b 8) ≡ two.rest =
    rw (one.next-but-one, two.next_word) (rw (none_left three.rest three.rest-length) at three.together) in
    let middle : bytes4 (word4 b 4) ++ bytes4 (word4 b 8) ≡ one.rest = rw (last, one.next_word) two.together in
    rw middle one.together

-- a process's seid, most significant byte first: its class, its index, and its serial's two bytes
seid-bytes : (p n : ℕ) → p < 256 → n < 65536 → bytes4 (seid (class process) p n) ≡ class process ∷ p ∷ n / 256 ∷ n % 256 ∷ []
unfolding seid
seid-bytes p n lp ln =
    let parts : class process * 16777216 + p * 65536 + n ≡ word (class process) p (n / 256) (n % 256) = omega arith in
    rw parts (four_bytes (class process) p (n / 256) (n % 256) (omega arith) lp (omega arith) (omega arith))

-- ---- a message written behind n others

module _ (me q n : ℕ) (buffer : List ℕ) (r : Addr → ℕ) where
  -- word j of the message
  new_word : ℕ → ℕ
  new_word j = over r (queued me q buffer n) (at process q (message_at n j))

  its-word : (j : ℕ) → new_word j
      ≡ cond (eqb (message_at n j) (message_at n 3)) (word4 buffer 8) (cond (eqb (message_at n j) (message_at n 2)) (word4 buffer 4)
      (cond (eqb (message_at n j) (message_at n 1)) (word4 buffer 0)
      (cond (eqb (message_at n j) (message_at n 0)) me (cond (eqb (message_at n j) queue) (n + 1) (r (at process q (message_at n j)))))))
  unfolding over queued new_word
  its-word j = simp same-record

  -- its four words, as a receive gives them
  new-message : bytes4 (new_word 0) ++ (bytes4 (new_word 1) ++ (bytes4 (new_word 2) ++ bytes4 (new_word 3)))
      ≡ bytes4 me ++ (bytes4 (word4 buffer 0) ++ (bytes4 (word4 buffer 4) ++ bytes4 (word4 buffer 8)))
  new-message = rw (sender, text-1, text-2, text-3)
    where
      other : (j m : ℕ) → (j ≡ m → ⊥) → eqb (message_at n j) (message_at n m) ≡ false
      other j m e = ne_eqb (message_at n j) (message_at n m) (λ f. e (omega arith))

      itself : (j : ℕ) → eqb (message_at n j) (message_at n j) ≡ true
      itself j = eq-eqb (message_at n j) (message_at n j) refl

      sender : new_word 0 ≡ me
      sender = its-word 0 ∙ rw (other 0 3 (λ e. omega arith), other 0 2 (λ e. omega arith), other 0 1 (λ e. omega arith), itself 0)

      text-1 : new_word 1 ≡ word4 buffer 0
      text-1 = its-word 1 ∙ rw (other 1 3 (λ e. omega arith), other 1 2 (λ e. omega arith), itself 1)

      text-2 : new_word 2 ≡ word4 buffer 4
      text-2 = its-word 2 ∙ rw (other 2 3 (λ e. omega arith), itself 2)

      text-3 : new_word 3 ≡ word4 buffer 8
      text-3 = its-word 3 ∙ rw (itself 3)

-- ---- a post that is delivered

-- with n messages ahead: the receiver is live with that serial, permits the post (02, CR 4), and has room
pub record Delivered (s : State) (k : Call) (n : ℕ) : Type 0 where
  pub well : Well s
  pub is-post : k.code ≡ 15
  pub taken : (step s k).answered.error ≡ XOK
  pub here : present (rd (configuration s.table) s.table) process (given s k) ≡ true
  pub permits : may_post (rd (configuration s.table) s.table) k.caller (index_of (given s k)) ≡ true
  pub ahead : word_of s (index_of (given s k)) queue ≡ n
  pub room : n < messages

module _ (s : State) (k : Call) (n : ℕ) (d : Delivered s k n) where
  abbrev h : List ℕ
  h = configuration s.table

  abbrev r : Addr → ℕ
  r = rd (configuration s.table) s.table

  abbrev q : ℕ
  q = index_of (given s k)

  abbrev me : ℕ
  me = seid_at (rd (configuration s.table) s.table) process k.caller

  its-rule : own s k ≡ post h r k.caller k.a k.buffer
  unfolding rule_of
  its-rule = rw d.is-post

  written : (own s k).effects.words ≡ queued me q k.buffer n
  unfolding post
  written =
      let room : r (at process q queue) < messages = omega (arith, d.ahead, d.room) in
      let asked : Bool = may_post r k.caller q && ltb (r (at process q queue)) messages in
      let fits = and_both (present r process (given s k)) asked d.here
      (and_both (may_post r k.caller q) (ltb (r (at process q queue)) messages) d.permits (lt-ltb _ messages room)) in
      ap (λ (x : Rule). x.effects.words) its-rule
      ∙ cond-true (present r process (given s k) && asked) _ [] fits ∙ ap (queued me q k.buffer) d.ahead

  right-length : length k.buffer ≡ text_bytes
  unfolding post
  right-length = let c = rw its-rule at (own-clear s k d.taken) in eqb-true _ text_bytes (passed _ c.0)

  in-range : q < slots h process
  unfolding post
  in-range = let c = rw its-rule at (own-clear s k d.taken) in (is-formed _ _ (given s k) (passed _ c.1.0)).index_in

  word_after : (j : ℕ) → j < record_words process → word_of (next s k) q j ≡ over r (queued me q k.buffer n) (at process q j)
  word_after j l = rw (conf-kept s k d.well)
      (read-after s k d.well d.taken (at process q j) (in-range, l) ∙ ap (λ ws. over r ws (at process q j)) written)

  -- it waits behind n others
  waits : Waiting (next s k) q n
  waits = record {
    well = kept s k d.well;
    in-range = rw (conf-kept s k d.well) in-range;
    alive = word_after live (omega arith) ∙ queued-past me q n k.buffer r live (λ e. omega arith) (λ a b. omega arith)
        ∙ (is-present r process (given s k) d.here).is_live;
    behind = omega (arith, word_after queue (omega arith), queued-length me q n k.buffer r);
  }

  -- as the sender's seid and the text
  whole : AreBytes k.buffer → message_of (next s k) q n
      ≡ class process ∷ k.caller ∷ word_of s k.caller serial / 256 ∷ word_of s k.caller serial % 256 ∷ k.buffer
  unfolding new_word seid_at
  whole bytes =
      let c = its-caller s k d.well d.taken in
      let number = seid-bytes k.caller (word_of s k.caller serial) (omega (arith, c.in-range, c.shape.few process))
      (omega (arith, (c.fine.own process k.caller c.in-range).serial-fits)) in
      let word : (j : ℕ) → j < message_words → word_of (next s k) q (message_at n j) ≡ new_word me q n k.buffer r j =
      λ j l. word_after (message_at n j) (omega (arith, d.room)) in
      rw (word 0 (omega arith), word 1 (omega arith), word 2 (omega arith), word 3 (omega arith))
      (new-message me q n k.buffer r ∙ rw (text-bytes k.buffer bytes right-length) (ap (λ (x : List ℕ). x ++ k.buffer) number))

-- ---- the statement

-- after n receives by the receiver, its next one gives the message, whatever other calls were made
pub comes-out-whole : (s : State) (k : Call) (n : ℕ) → Delivered s k n → AreBytes k.buffer → let q : ℕ = index_of (given s k) in
    let sender : ℕ = word_of s k.caller serial in
    (before : List Call) (k' : Call) → receipts q before ≡ n → Unreleased q (next s k) before → receives q k' ≡ true
    → ((step (run (next s k) before) k').answered.error ≡ XOK)
    × ((step (run (next s k) before) k').buffer ≡ class process ∷ k.caller ∷ sender / 256 ∷ sender % 256 ∷ k.buffer)
comes-out-whole s k n d bytes before k' e u y =
    let out = comes-out (index_of (given s k)) n (next s k) before k' (waits s k n d) e u y in
    (out.0, out.1 ∙ whole s k n d bytes)

-- a post in the own cell that succeeds is delivered; "Another cell: delivered exactly if the receiver is live with that serial and has room", and permits it (Posts)
pub own-delivered : (s : State) (k : Call) → Well s → k.code ≡ 15 → (step s k).answered.error ≡ XOK
    → in_own_cell (configuration s.table) k.caller process (given s k) ≡ true → Delivered s k (word_of s (index_of (given s k)) queue)
unfolding rule_of post
own-delivered s k w c ok mine =
    let r : Addr → ℕ = rd (configuration s.table) s.table in
    let q : ℕ = index_of (given s k) in
    let x = rw (c, mine) at (own-clear s k ok) in
    record {
      well = w;
      is-post = c;
      taken = ok;
      here = passed (present r process (given s k)) x.1.1.1.0;
      permits = passed (may_post r k.caller q) x.1.1.1.1.0;
      ahead = refl;
      room = leb-false messages (word_of s q queue) x.1.1.1.1.1.0;
    }
