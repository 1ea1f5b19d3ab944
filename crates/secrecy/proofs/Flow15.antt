-- Call 15 writes up, and what it asks of a receiver outside the set changes only what the set does not see.
use mathlib.Core.Path.{◌≡◌, refl, sym}
use mathlib.Core.Bool.{Bool, true, false, cond, ◌&&◌}
use mathlib.Core.List.{List, []}
use Prim.Native.Nat.{ℕ, ◌<◌}
use native.Mathlib.Omega.{arith}
use lib.Dec.{ltb}
use borrow.Author.Tests.{eqb-true, ltb-true}
use Rattle.rules.specs.Layout.{process, slots, record_words, cell_of, flows, Addr, at, queue, messages, message_at}
use Rattle.rules.specs.Seid.{index_of, present}
use Rattle.rules.specs.Rule.{effect}
use Rattle.rules.specs.Find.{rights_at}
use Rattle.rules.specs.Call15.{queued, may_post, post}
use Rattle.laws.proofs.Tests.{split, passed, and_right}
use Rattle.laws.proofs.Written.{AllOf, nil, also, all-if}
use Rattle.secrecy.proofs.Shown.{up-rules, alike-rules, Up, Ups, WritesUp, Hidden, Alike-effects, same_effect, hidden, Alike}
use Rattle.secrecy.proofs.View

up-queued : (h : List ℕ) (c me q : ℕ) (buffer : List ℕ) (n : ℕ) → q < slots h process → flows h c (cell_of h process q) ≡ true → n < messages
    → Ups h c (queued me q buffer n)
unfolding queued
up-queued h c me q buffer n l f m = also (up queue (omega arith)) (also (up (message_at n 0) (omega arith)) (also (up (message_at n 1) (omega arith))
    (also (up (message_at n 2) (omega arith)) (also (up (message_at n 3) (omega arith)) nil))))
  where
    up : (j : ℕ) → j < record_words process → Up h c (at process q j)
    up j i = record { valid = (l, i); up = f }

-- what a post delivers, if anything
up-posted : (h : List ℕ) (c me q : ℕ) (buffer : List ℕ) (b d : Bool) (n : ℕ) → q < slots h process → flows h c (cell_of h process q) ≡ true
    → Ups h c (cond (b && (d && ltb n messages)) (queued me q buffer n) [])
up-posted h c me q buffer b d n l f = all-if _ (b && (d && ltb n messages)) _ _
    (λ e. up-queued h c me q buffer n l f (ltb-true n messages (and_right d (ltb n messages) (and_right b (d && ltb n messages) e)))) (λ e. nil)

pub up15 : {h : List ℕ} {p : ℕ} {r : Addr → ℕ} → View.Here h p r → (a : ℕ) (buffer : List ℕ) → WritesUp h (cell_of h process p) (post h r p a buffer)
unfolding post
up15 v a buffer = search (up-rules, up-posted, passed, View.formed-in) depth 12

hid-queued : (h : List ℕ) (C : ℕ → Bool) (me q : ℕ) (buffer : List ℕ) (n : ℕ) → C (cell_of h process q) ≡ false → AllOf (Hidden h C) (queued me q buffer n)
unfolding queued
hid-queued h C me q buffer n out = search (also, nil) depth 8

-- what a post delivers, if anything: the same where the set sees the receiver, and hidden where it does not
alike-posted : {h : List ℕ} {p : ℕ} {C : ℕ → Bool} {r q : Addr → ℕ} → View.View h p C r q → (me s : ℕ) (buffer : List ℕ) → index_of s < slots h process
    → Alike-effects h C
    (effect 0 0 buffer (cond (present r process s && (may_post r p (index_of s) && ltb (r (at process (index_of s) queue)) messages))
    (queued me (index_of s) buffer (r (at process (index_of s) queue))) []) [])
    (effect 0 0 buffer (cond (present q process s && (may_post q p (index_of s) && ltb (q (at process (index_of s) queue)) messages))
    (queued me (index_of s) buffer (q (at process (index_of s) queue))) []) [])
unfolding present may_post rights_at
alike-posted {h} {p} {C} {r} {q} v me s buffer l = split _ (C (cell_of h process (index_of s)))
    (λ i. let same : (j : ℕ) → ltb j (record_words process) ≡ true → q (at process (index_of s) j) ≡ r (at process (index_of s) j)
    = λ j m. sym (v.seen (at process (index_of s) j) (l, ltb-true j (record_words process) m) i) in
    search (same_effect, same, View.same-me v))
    (λ o. search (hidden, all-if, nil, hid-queued) depth 8)

and_same : (a b d : Bool) → (a ≡ true → b ≡ d) → a && b ≡ a && d
and_same true b d e = e refl
and_same false b d e = refl

pub alike15 : {h : List ℕ} {p : ℕ} {C : ℕ → Bool} {r q : Addr → ℕ} → View.View h p C r q → (a : ℕ) (buffer : List ℕ)
    → Alike h C (post h r p a buffer) (post h q p a buffer)
unfolding post may_post
alike15 v a buffer = rw (View.same_self v a, View.same-seid v)
    (search (alike-rules, alike-posted v, and_same, View.same-below v, View.same-present v, View.same-rights v, View.formed-in, View.own-flows v.here, eqb-true) depth 12)
