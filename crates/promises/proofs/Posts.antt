-- 02, CR 4, posts ask the receiver's bits. A post upward answers the same whatever stands at its receiver (`upward`); a message that was delivered had permission at its
-- post, and is delivered exactly where the receiver is there, permits it and has room (`delivered`, `permitted`); in the same cell 16 comes before 28 (`forbidden`).
use mathlib.Core.Path.{◌≡◌, refl, ap, ◌∙◌}
use mathlib.Core.Bool.{Bool, true, false, cond, ◌&&◌}
use mathlib.Core.List.{List, []}
use Prim.Native.Nat.{ℕ, ◌+◌, ◌<◌}
use native.Mathlib.Omega.{arith}
use lib.Dec.{ltb}
use lib.ListN.{length}
use borrow.Author.Tests.{eq-eqb, ne_eqb, lt-leb}
use Rattle.rules.specs.Claim.{Holds, test}
use Rattle.rules.specs.Layout.{process, slots, configuration, cell_of, flows, Addr, at, rd, live, queue, messages}
use Rattle.rules.specs.Seid.{index_of, formed, present, seid_at, or_self}
use Rattle.rules.specs.WellFormed.{well_formed}
use Rattle.rules.specs.Errors.{XOK, XdapViol}
use Rattle.rules.specs.Rule.{Rule, over}
use Rattle.rules.specs.Find.{in_own_cell}
use Rattle.rules.specs.Call15.{text_bytes, queued, may_post, post}
use Rattle.rules.specs.Step.{State, Call, step, next, bad_caller, bad_code, rule_of, whole_rule}
use Rattle.laws.proofs.Tests.{passed, and_left, and_right, split}
use Rattle.laws.proofs.Claims.{tested}
use Rattle.laws.proofs.Seids.{is-formed}
use Rattle.laws.proofs.Refusals.{Clear}
use Rattle.kept.proofs.Keep15.{queued-length}
use Rattle.kept.proofs.Kept.{Well, conf-kept}
use Rattle.promises.proofs.Refusals.{answered, own, own-clear, goes_on, done}
use Rattle.promises.proofs.After.{read-after}
use Rattle.promises.proofs.Stale.{for-itself}

-- ---- in the same cell

-- forbidden, it is refused with 16, whether or not the queue is full
pub forbidden : (s : State) (k : Call) → Holds (well_formed s.table (length s.store)) → k.caller < slots (configuration s.table) process
    → let r : Addr → ℕ = rd (configuration s.table) s.table in let to : ℕ = or_self r k.caller k.a in
    r (at process k.caller live) ≡ 1 → k.code ≡ 15 → length k.buffer ≡ text_bytes → formed (configuration s.table) process to ≡ true
    → flows (configuration s.table) (cell_of (configuration s.table) process k.caller) (cell_of (configuration s.table) process (index_of to)) ≡ true
    → in_own_cell (configuration s.table) k.caller process to ≡ true → present r process to ≡ true → may_post r k.caller (index_of to) ≡ false
    → (step s k).answered.error ≡ XdapViol
unfolding whole_rule bad_caller bad_code rule_of post
forbidden s k w in-range alive code text form flow own there not-allowed =
    let good : test (well_formed s.table (length s.store)) ≡ true = tested (well_formed s.table (length s.store)) w in
    answered s k ∙ rw (good, lt-leb _ _ in-range, eq-eqb _ 1 alive, code, eq-eqb (length k.buffer) text_bytes text, form, flow, own, there, not-allowed)

-- ---- upward

-- caller and receiver of a post from one cell up to another, with text of the right length, to a seid in form
pub record PostUp (s : State) (k : Call) (h : List ℕ) (r : Addr → ℕ) : Type 0 where
  pub well : Holds (well_formed s.table (length s.store))
  pub caller-in : k.caller < slots h process
  pub caller-live : r (at process k.caller live) ≡ 1
  pub is-post : k.code ≡ 15
  pub text : length k.buffer ≡ text_bytes
  pub form : formed h process k.a ≡ true
  pub up : flows h (cell_of h process k.caller) (cell_of h process (index_of k.a)) ≡ true
  pub other-cell : cell_of h process (index_of k.a) ≡ cell_of h process k.caller → ⊥

abbrev pub Upward : State → Call → Type 0
Upward s k = PostUp s k (configuration s.table) (rd (configuration s.table) s.table)

module _ (s : State) (k : Call) (x : Upward s k) where
  abbrev h : List ℕ
  h = configuration s.table

  abbrev r : Addr → ℕ
  r = rd (configuration s.table) s.table

  its-rule : rule_of h r s.store k ≡ post h r k.caller k.a k.buffer
  unfolding rule_of
  its-rule = rw x.is-post

  pub its-seid : or_self (rd (configuration s.table) s.table) k.caller k.a ≡ k.a
  its-seid = for-itself h r k.caller process k.a x.form

  -- none of its refusals holds
  nothing-refused : Clear (post h r k.caller k.a k.buffer).refusals
  unfolding post
  nothing-refused =
      let other : in_own_cell h k.caller process k.a ≡ false = ne_eqb _ _ x.other-cell in
      rw (its-seid, eq-eqb (length k.buffer) text_bytes x.text, x.form, x.up, other) (refl, (refl, (refl, (refl, (refl, (refl, tt))))))

  pub goes-up : (step s k).answered.error ≡ XOK
  unfolding bad_code
  goes-up = let c : bad_code k.code ≡ false = rw x.is-post in goes_on s k x.well x.caller-in x.caller-live c (rw its-rule nothing-refused)

  -- XOK and two zeros, and the text as it was: absent, forbidden and full are not told
  pub upward : ((step s k).answered.error ≡ XOK) × ((step s k).answered.first ≡ 0) × ((step s k).answered.second ≡ 0) × ((step s k).buffer ≡ k.buffer)
  unfolding whole_rule post
  upward =
      let d = done s k goes-up in (
        goes-up,
        d.first ∙ ap (λ (y : Rule). y.effects.first) its-rule,
        d.second ∙ ap (λ (y : Rule). y.effects.second) its-rule,
        d.buffer ∙ ap (λ (y : Rule). y.effects.buffer) its-rule,
      )

-- ---- delivered

-- how many messages a process has waiting
abbrev pub waiting : State → ℕ → ℕ
waiting s q = rd (configuration s.table) s.table (at process q queue)

module _ (s : State) (k : Call) (w : Well s) (code : k.code ≡ 15) (ok : (step s k).answered.error ≡ XOK) where
  -- the receiver's slot, and what the receiver is asked
  abbrev pub receiver : ℕ
  receiver = index_of (or_self (rd (configuration s.table) s.table) k.caller k.a)

  abbrev there : Bool
  there = present (rd (configuration s.table) s.table) process (or_self (rd (configuration s.table) s.table) k.caller k.a)

  abbrev permits : Bool
  permits = may_post (rd (configuration s.table) s.table) k.caller receiver

  abbrev room : Bool
  room = ltb (waiting s receiver) messages

  after : receiver < slots (configuration s.table) process → waiting (next s k) receiver
      ≡ over (rd (configuration s.table) s.table) (cond (there && (permits && room))
      (queued (seid_at (rd (configuration s.table) s.table) process k.caller) receiver k.buffer (waiting s receiver)) []) (at process receiver queue)
  unfolding rule_of post
  after l = rw (conf-kept s k w) (read-after s k w ok (at process receiver queue) (l, omega arith) ∙ rw code)

  in_table : receiver < slots (configuration s.table) process
  unfolding rule_of post
  in_table = let q = rw code at (own-clear s k ok) in (is-formed _ _ _ (passed _ q.1.0)).index_in

  -- one message more, where the receiver is live with that serial, permits the post as it stands, and has room
  pub delivered : there ≡ true → permits ≡ true → room ≡ true → waiting (next s k) receiver ≡ waiting s receiver + 1
  delivered a b c = after in_table ∙ rw (a, b, c) (queued-length _ receiver (waiting s receiver) k.buffer (rd (configuration s.table) s.table))

  -- and only there
  pub permitted : (waiting (next s k) receiver ≡ waiting s receiver → ⊥) → (there ≡ true) × (permits ≡ true) × (room ≡ true)
  unfolding over
  permitted more = split _ (there && (permits && room))
      (λ t. let u = and_right there (permits && room) t in (and_left there (permits && room) t, and_left permits room u, and_right permits room u))
      (λ t. absurd (more (after in_table ∙ rw t)))
