-- "A message with k ahead comes out at its receiver's receive k+1, counting 16-byte buffers only, unless that process is released": `comes-out`, at the end.
use mathlib.Core.Path.{◌≡◌, refl, ap, ◌∙◌}
use mathlib.Core.Bool.{Bool, true, false, cond, ◌&&◌}
use mathlib.Core.List.{List, [], ◌∷◌, ◌++◌}
use Prim.Native.Nat.{ℕ, ◌+◌, ◌≤◌, ◌<◌}
use native.Mathlib.Omega.{arith}
use native.Mathlib.Decide.{ℕ_discrete}
use lib.Dec.{eqb}
use lib.ListN.{length}
use borrow.Author.Tests.{eq-eqb, ne_eqb, eqb-true}
use Rattle.rules.specs.Words.{bytes4}
use Rattle.rules.specs.Claim.{Holds}
use Rattle.rules.specs.Layout.{process, record_words, slots, configuration, at, rd, live, queue, messages, message_words, message_at}
use Rattle.rules.specs.Seid.{index_of, or_self}
use Rattle.rules.specs.WellFormed.{well_formed}
use Rattle.rules.specs.Errors.{XOK}
use Rattle.rules.specs.Rule.{Rule, over}
use Rattle.rules.specs.Call16.{message_bytes, receive}
use Rattle.rules.specs.Step.{State, Call, step, next, run, bad_code, rule_of, whole_rule}
use Rattle.laws.proofs.Tests.{and_left, and_right, and_both, passed, both_ways, split, cond-true, cond-false}
use Rattle.laws.proofs.Shape.{good_of}
use Rattle.kept.proofs.Fine.{fine_of}
use Rattle.kept.proofs.Keep16.{taken, taken-past, taken-length, taken-later}
use Rattle.kept.proofs.Kept.{Well, kept, conf-kept}
use Rattle.promises.proofs.Refusals.{own, own-clear, goes_on, done, refused}
use Rattle.promises.proofs.After.{its-caller, read-after}
use Rattle.promises.proofs.Queue.{later}

-- ---- the words of the statement

-- word j of process p
abbrev pub word_of : State → ℕ → ℕ → ℕ
word_of s p j = rd (configuration s.table) s.table (at process p j)

-- message m of its queue, as a receive gives it: "Sender, most significant byte first, then text."
abbrev pub message_of : State → ℕ → ℕ → List ℕ
message_of s p m =
    bytes4 (word_of s p (message_at m 0)) ++ (bytes4 (word_of s p (message_at m 1)) ++ (bytes4 (word_of s p (message_at m 2)) ++ bytes4 (word_of s p (message_at m 3))))

-- in a well-formed state, process p lives and has a message with m ahead
pub record Waiting (s : State) (p m : ℕ) : Type 0 where
  pub well : Holds (well_formed s.table (length s.store))
  pub in-range : p < slots (configuration s.table) process
  pub alive : word_of s p live ≡ 1
  pub behind : m < word_of s p queue

-- a receive by p with a 16-byte buffer
abbrev pub receives : ℕ → Call → Bool
receives p k = eqb k.code 16 && (eqb k.caller p && eqb (length k.buffer) message_bytes)

-- how many of some calls are
abbrev pub receipts : ℕ → List Call → ℕ
receipts p [] = 0
receipts p (k ∷ ks) = cond (receives p k) 1 0 + receipts p ks

-- a call releases p: a 2 that succeeds, and names it
abbrev pub Releases : State → Call → ℕ → Type 0
Releases s k p =
    (k.code ≡ 2) × ((step s k).answered.error ≡ XOK) × (index_of (or_self (rd (configuration s.table) s.table) k.caller k.a) ≡ p)

-- none of some calls does, made one after the other
abbrev pub Unreleased : ℕ → State → List Call → Type 0
Unreleased p s [] = Unit {0}
Unreleased p s (k ∷ ks) = (Releases s k p → ⊥) × Unreleased p (next s k) ks

-- ---- one call

word_after : (s : State) (k : Call) (p : ℕ) → Well s → p < slots (configuration s.table) process → (step s k).answered.error ≡ XOK → (j : ℕ) → j < record_words process
    → word_of (next s k) p j ≡ over (rd (configuration s.table) s.table) (own s k).effects.words (at process p j)
word_after s k p w l ok j m = rw (conf-kept s k w) (read-after s k w ok (at process p j) (l, m))

right-length : (s : State) (k : Call) → (step s k).answered.error ≡ XOK → k.code ≡ 16 → eqb (length k.buffer) message_bytes ≡ true
unfolding rule_of receive
right-length s k ok c = let q = rw c at (own-clear s k ok) in passed _ q.0

few : (s : State) (p m : ℕ) → Waiting s p m → word_of s p queue ≤ messages
few s p m x = (((fine_of _ _ (good_of s.table (length s.store) x.well).records).own process p x.in-range).alive x.alive).queue-fits

-- the same four words make the same message
same_bytes : (s t : State) (p m n : ℕ) → ((j : ℕ) → j < message_words → word_of s p (message_at m j) ≡ word_of t p (message_at n j)) → message_of s p m ≡ message_of t p n
same_bytes s t p m n e = rw (e 0 (omega arith), e 1 (omega arith), e 2 (omega arith), e 3 (omega arith))

module _ (s : State) (k : Call) (p m : ℕ) (x : Waiting s p m) where
  -- while p lives, a message that it has after the call is waiting
  still : (n : ℕ) → word_of (next s k) p live ≡ word_of s p live → n < word_of (next s k) p queue → Waiting (next s k) p n
  still n same behind = record { well = kept s k x.well; in-range = rw (conf-kept s k x.well) x.in-range; alive = same ∙ x.alive; behind = behind }

  -- a call that is no receive by p and does not release it leaves the message where it is
  stays : (Releases s k p → ⊥) → receives p k ≡ false → Waiting (next s k) p m × (message_of (next s k) p m ≡ message_of s p m)
  stays unreleased other = elim (ℕ_discrete (step s k).answered.error XOK) [
    | yes ok ↦
        let after = word_after s k p x.well x.in-range ok in
        let l = later (configuration s.table) _ s.store k p (its-caller s k x.well ok) x.alive
        (λ c i. unreleased (c, ok, i)) (not-received ok) (own-clear s k ok) in (
          still m (after live (omega arith) ∙ l.same_live) (omega (arith, after queue (omega arith), l.no-fewer, x.behind)),
          same_bytes (next s k) s p m m (λ j jl. after (message_at m j) (omega (arith, few s p m x, x.behind))
              ∙ l.same-message m j (omega (arith, few s p m x, x.behind)) x.behind jl),
        )
    | no n ↦ rw (refused s k n).state (x, refl)
  ]
    where
      not-received : (step s k).answered.error ≡ XOK → k.code ≡ 16 → k.caller ≡ p → ⊥
      not-received ok c e = both_ways (receives p k) (and_both (eqb k.code 16) (eqb k.caller p && eqb (length k.buffer) message_bytes) (eq-eqb k.code 16 c)
          (and_both (eqb k.caller p) (eqb (length k.buffer) message_bytes) (eq-eqb k.caller p e) (right-length s k ok c))) other

  -- a receive by p
  module _ (yes-it-is : receives p k ≡ true) where
    code_is : k.code ≡ 16
    code_is = eqb-true k.code 16 (and_left (eqb k.code 16) _ yes-it-is)

    caller-is : k.caller ≡ p
    caller-is = eqb-true k.caller p (and_left (eqb k.caller p) (eqb (length k.buffer) message_bytes) (and_right (eqb k.code 16) _ yes-it-is))

    length-is : length k.buffer ≡ message_bytes
    length-is = eqb-true (length k.buffer) message_bytes (and_right (eqb k.caller p) (eqb (length k.buffer) message_bytes) (and_right (eqb k.code 16) _ yes-it-is))

    its-rule : own s k ≡ receive (configuration s.table) (rd (configuration s.table) s.table) p k.buffer
    unfolding rule_of
    its-rule = rw (code_is, caller-is)

    received : (step s k).answered.error ≡ XOK
    unfolding bad_code receive
    received =
        let c : bad_code k.code ≡ false = rw code_is in
        let some : word_of s p queue ≡ 0 → ⊥ = λ e. omega (arith, x.behind) in
        goes_on s k x.well (rw caller-is x.in-range) (rw caller-is x.alive) c
        (rw its-rule (rw (eq-eqb (length k.buffer) message_bytes length-is), (ne_eqb (word_of s p queue) 0 some, tt)))

    first_out : (step s k).buffer ≡ message_of s p 0
    unfolding whole_rule receive
    first_out = (done s k received).buffer ∙ ap (λ (y : Rule). y.effects.buffer) its-rule

    -- the message moves up, if it is not the first
    moves-up : (n : ℕ) → m ≡ n + 1 → Waiting (next s k) p n × (message_of (next s k) p n ≡ message_of s p m)
    unfolding receive
    moves-up n e =
        let r = rd (configuration s.table) s.table in
        let after : (j : ℕ) → j < record_words process → word_of (next s k) p j ≡ over r (taken r p) (at process p j) =
        λ j jl. word_after s k p x.well x.in-range received j jl ∙ ap (λ (y : Rule). over r y.effects.words (at process p j)) its-rule in (
          still n (after live (omega arith) ∙ taken-past r p live (λ x y. omega arith) (λ e. omega arith))
              (omega (arith, after queue (omega arith), taken-length r p, x.behind)),
          same_bytes (next s k) s p n m (λ j jl. after (message_at n j) (omega (arith, few s p m x, x.behind))
              ∙ rw e (taken-later r p n j (omega (arith, few s p m x, x.behind)) jl)),
        )

-- ---- the statement

-- after m receives by p, the next one gives the message, whatever other calls were made
pub comes-out : (p m : ℕ) (s : State) (before : List Call) (k : Call) → Waiting s p m → receipts p before ≡ m → Unreleased p s before → receives p k ≡ true
    → ((step (run s before) k).answered.error ≡ XOK) × ((step (run s before) k).buffer ≡ message_of s p m)
unfolding run
comes-out p m s [] k x e u y = (received s k p m x y, first_out s k p m x y ∙ ap (message_of s p) e)
comes-out p m s (k0 ∷ ks) k x e u y = split _ (receives p k0)
    (λ t.
    let f : ◌≡◌ {A = ℕ} (cond (receives p k0) 1 0) 1 = cond-true (receives p k0) 1 0 t in
    let n : m ≡ receipts p ks + 1 = omega arith in
    let up = moves-up s k0 p m x t (receipts p ks) n in
    let rest = comes-out p (receipts p ks) (next s k0) ks k up.0 refl u.1 y in
    (rest.0, rest.1 ∙ up.1))
    (λ t.
    let f : ◌≡◌ {A = ℕ} (cond (receives p k0) 1 0) 0 = cond-false (receives p k0) 1 0 t in
    let same = stays s k0 p m x u.0 t in
    let rest = comes-out p m (next s k0) ks k same.0 (omega arith) u.1 y in
    (rest.0, rest.1 ∙ same.1))
