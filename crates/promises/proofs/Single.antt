-- No identifier is handed out twice: in a run from set-up without reload (02, CR 14), and from any well-formed state, two creating calls (1, 3, 7 or 21) that succeed
-- never answer the same seid, though objects go and their slots are used again; nor is a first process's ever answered.
use mathlib.Core.Path.{◌≡◌, refl, sym, ap, ◌∙◌}
use mathlib.Core.Bool.{Bool, true, false, ◌||◌}
use mathlib.Core.List.{List, ◌++◌}
use Prim.Native.Nat.{ℕ, ◌+◌, ◌≤◌, ◌<◌}
use native.Mathlib.Omega.{arith}
use lib.Dec.{ltb, leb, eqb}
use lib.ListN.{length}
use borrow.Author.Tests.{leb-false, eqb-true}
use Rattle.rules.specs.Claim.{Holds}
use Rattle.rules.specs.Layout.{max_serial, max_bits, Kind, process, segment, file, cells, slots, configuration, first_slot, cell_of, Addr, at, rd, live, serial, entries, held_at, used_at}
use Rattle.rules.specs.Seid.{class, seid, class_of, index_of, serial_of}
use Rattle.rules.specs.Errors.{XOK}
use Rattle.rules.specs.Rule.{Rule, over}
use Rattle.rules.specs.Find.{free_slot, no_slot, free_entry, entered}
use Rattle.rules.specs.Call01.{spawn}
use Rattle.rules.specs.Call03.{build_segment}
use Rattle.rules.specs.Call07.{create}
use Rattle.rules.specs.Call21.{carried, regrade}
use Rattle.rules.specs.SetUp.{can_set_up, set_up_table}
use Rattle.rules.specs.Step.{State, Call, step, next, run, regrade_code, rule_of, whole_rule}
use Rattle.laws.proofs.Tests.{or_left, or-rest, split}
use Rattle.laws.proofs.Seids.{class-seid, index-seid, serial-seid, class-inj}
use Rattle.laws.proofs.Shape.{in-run, good_of, words-some}
use Rattle.laws.proofs.Slots.{free-slot}
use Rattle.laws.proofs.Written.{nil, also, over-append, over-miss}
use Rattle.laws.proofs.Object.{Object, no-process}
use Rattle.laws.proofs.Refusals.{Clear}
use Rattle.kept.proofs.Records.{elsewhere, in-first}
use Rattle.kept.proofs.Made.{placed}
use Rattle.kept.proofs.Keeps.{Caller}
use Rattle.kept.proofs.Found.{free-entry}
use Rattle.kept.proofs.Exchange.{entered-in}
use Rattle.kept.proofs.Created.{made, made_in, made_word}
use Rattle.kept.proofs.Keep01.{spawned-in, spawned-word}
use Rattle.kept.proofs.Keep21.{regraded-in, regraded-word}
use Rattle.kept.proofs.Kept.{Well, kept, conf-kept, run-kept, run-conf-kept, run-serials-kept}
use Rattle.promises.proofs.Refusals.{own, own-clear, done}
use Rattle.promises.proofs.After.{its-caller, read-after}
use Rattle.promises.proofs.Fresh.{set-up-formed, set-up-configuration, set-up-serial, first-in, configured-shape}

-- the calls that give a new object's seid, as their first result
abbrev pub creates : ℕ → Bool
creates n = eqb n 1 || (eqb n 3 || (eqb n 7 || eqb n regrade_code))

-- ---- one creating call

-- the slot that a rule takes, the seid that it gives, and the serial that it leaves in the slot; no other slot comes to life or goes
pub record HandedOut (h : List ℕ) (r : Addr → ℕ) (x : Rule) : Type 0 where
  pub kind : Kind
  pub slot : ℕ
  pub in-range : slot < slots h kind
  pub not-worn : r (at kind slot serial) < max_serial
  pub given : x.effects.first ≡ seid (class kind) slot (r (at kind slot serial) + 1)
  pub left : over r x.effects.words (at kind slot serial) ≡ r (at kind slot serial) + 1
  pub beside : (j : Kind) (i : ℕ) → (j ≡ kind → i ≡ slot → ⊥) → over r x.effects.words (at j i live) ≡ r (at j i live)

module _ (h : List ℕ) (r : Addr → ℕ) (k : Call) (me : Caller h r k.caller) where
  abbrev cell : ℕ
  cell = cell_of h process k.caller

  abbrev free : Kind → ℕ
  free j = free_slot h r j (cell_of h process k.caller)

  -- of any cell: the caller's own, or the one that call 21 names
  handed-in : (c : ℕ) → c < cells h → (j : Kind) (x : Rule) → no_slot h r j c ≡ false
      → x.effects.first ≡ seid (class j) (free_slot h r j c) (r (at j (free_slot h r j c) serial) + 1)
      → over r x.effects.words (at j (free_slot h r j c) serial) ≡ r (at j (free_slot h r j c) serial) + 1
      → ((l : Kind) (i : ℕ) → (l ≡ j → i ≡ free_slot h r j c → ⊥) → over r x.effects.words (at l i live) ≡ r (at l i live)) → HandedOut h r x
  handed-in c l j x room given left beside =
      let f = free-slot h r me.shape c l j room in
      record { kind = j; slot = free_slot h r j c; in-range = f.in-range; not-worn = f.not-worn; given = given; left = left; beside = beside }

  handed : (j : Kind) (x : Rule) → no_slot h r j cell ≡ false → x.effects.first ≡ seid (class j) (free j) (r (at j (free j) serial) + 1)
      → over r x.effects.words (at j (free j) serial) ≡ r (at j (free j) serial) + 1
      → ((l : Kind) (i : ℕ) → (l ≡ j → i ≡ free j → ⊥) → over r x.effects.words (at l i live) ≡ r (at l i live)) → HandedOut h r x
  handed = handed-in cell (in-run h me.shape process k.caller me.in-range).0

  -- an object's serial, where its words are followed by an entry for it
  object-serial : (j : Kind) → Object j → (i d : ℕ) → d < entries → (s u g b x y t v a : ℕ) → over r (made j i s u g b x y t ++ entered j k.caller d v a) (at j i serial) ≡ s
  object-serial j o i d l s u g b x y t v a =
      in-first j process i k.caller (λ e f. no-process j o (sym e)) (made_in j o i s u g b x y t) (entered-in r j o k.caller d v a l) r serial
      ∙ made_word j o i s u g b x y t r serial (omega arith)

  -- an entry for it, written after it, leaves every other slot as it was
  object-beside : (j : Kind) → Object j → (i d : ℕ) → d < entries → (s u g b x y t v a : ℕ) (l : Kind) (m : ℕ) → (l ≡ j → m ≡ i → ⊥)
      → over r (made j i s u g b x y t ++ entered j k.caller d v a) (at l m live) ≡ r (at l m live)
  object-beside j o i d dl s u g b x y t v a l m n =
      let z = placed j o d dl in
      let entry = over-miss (at l m live) (also (not_live l m k.caller (held_at j d) (omega arith)) (also (not_live l m k.caller (used_at j d) (omega arith)) nil)) in
      rw (over-append r (made j i s u g b x y t) (entered j k.caller d v a)) (entry _ ∙ elsewhere j i (made_in j o i s u g b x y t) r l m live n)
    where
      not_live : (l : Kind) (m p w : ℕ) → live < w → at l m live ≡ at process p w → ⊥
      not_live l m p w low e = let same : live ≡ w = ap (λ (b : Addr). b.word) e in omega arith

  pub by-rule : (st : List ℕ) → creates k.code ≡ true → Clear (rule_of h r st k).refusals → HandedOut h r (rule_of h r st k)
  unfolding rule_of spawn build_segment create regrade
  by-rule st t = split _ (eqb k.code 1)
      (λ e. rw (eqb-true k.code 1 e) (λ ok. handed process _ ok.1.1.0 refl (spawned-word r k.caller k.a k.b k.c (free process) _ serial)
      (λ l m. elsewhere process (free process) (spawned-in r k.caller k.a k.b k.c (free process) _) r l m live)))
      (λ n. split _ (eqb k.code 3)
      (λ e. rw (eqb-true k.code 3 e) (λ ok. handed segment _ ok.1.1.1.0 refl
      (object-serial segment tt (free segment) (free_entry r segment k.caller) (free-entry r segment k.caller ok.1.1.0).in-record _ _ _ _ _ _ 0 _ _)
      (object-beside segment tt (free segment) (free_entry r segment k.caller) (free-entry r segment k.caller ok.1.1.0).in-record _ _ _ _ _ _ 0 _ _)))
      (λ m. split _ (eqb k.code 7)
      (λ e. rw (eqb-true k.code 7 e) (λ ok. handed file _ ok.1.1.1.1.1.0 refl
      (object-serial file tt (free file) (free_entry r file k.caller) (free-entry r file k.caller ok.1.1.1.1.0).in-record _ _ _ _ _ _ _ _ _)
      (object-beside file tt (free file) (free_entry r file k.caller) (free-entry r file k.caller ok.1.1.1.1.0).in-record _ _ _ _ _ _ _ _ _)))
      (λ o. rw (eqb-true k.code regrade_code (or-rest (eqb k.code 7) _ (or-rest (eqb k.code 3) _ (or-rest (eqb k.code 1) _ t n) m) o))
      (λ ok. let x = carried h r st k.caller k.a k.b k.c k.buffer in
      handed-in k.b (leb-false (cells h) k.b (or_left (leb (cells h) k.b) (ltb max_bits k.c) ok.1.1.0)) file _ ok.1.1.1.1.1.1.1.1.0 refl
      (regraded-word r x (free_slot h r file k.b) _ serial)
      (λ l i. elsewhere file (free_slot h r file k.b) (regraded-in x (free_slot h r file k.b) _) r l i live)))))

-- ---- two of them

-- one seid comes of one slot and one serial
same_parts : (j l : Kind) (i m n o : ℕ) → i < 256 → m < 256 → n < 65536 → o < 65536 → seid (class j) i n ≡ seid (class l) m o → (j ≡ l) × (i ≡ m) × (n ≡ o)
same_parts j l i m n o a b c d e = (
  class-inj j l (sym (class-seid (class j) i n a c) ∙ ap class_of e ∙ class-seid (class l) m o b d),
  sym (index-seid (class j) i n a c) ∙ ap index_of e ∙ index-seid (class l) m o b d,
  sym (serial-seid (class j) i n a c) ∙ ap serial_of e ∙ serial-seid (class l) m o b d,
)

small : (s : State) → Well s → (j : Kind) (i : ℕ) → i < slots (configuration s.table) j → i < 256
small s w j i l = omega (arith, (good_of s.table (length s.store) w).shape.few j)

module _ (s : State) (k : Call) (w : Well s) (c : creates k.code ≡ true) (ok : (step s k).answered.error ≡ XOK) where
  created : HandedOut (configuration s.table) (rd (configuration s.table) s.table) (own s k)
  created = by-rule _ _ k (its-caller s k w ok) s.store c (own-clear s k ok)

  answered : (step s k).answered.first ≡ seid (class created.kind) created.slot (rd (configuration s.table) s.table (at created.kind created.slot serial) + 1)
  unfolding whole_rule
  answered = (done s k ok).first ∙ created.given

  -- the slot's serial from then on
  counted : rd (configuration s.table) (next s k).table (at created.kind created.slot serial)
      ≡ rd (configuration s.table) s.table (at created.kind created.slot serial) + 1
  counted = read-after s k w ok (at created.kind created.slot serial) (created.in-range, omega (arith, words-some created.kind)) ∙ created.left

-- "free serial 65535 is passed over": no creating call answers a seid of a slot that is worn
pub worn-passed-over : (s : State) (k : Call) → Well s → creates k.code ≡ true → (step s k).answered.error ≡ XOK → (j : Kind) (i : ℕ)
    → rd (configuration s.table) s.table (at j i serial) ≡ max_serial → class_of (step s k).answered.first ≡ class j
    → index_of (step s k).answered.first ≡ i → ⊥
worn-passed-over s k w c ok j i worn kind slot =
    let x = created s k w c ok in
    let a = answered s k w c ok in
    let few = small s w x.kind x.slot x.in-range in
    let j-is : j ≡ x.kind = class-inj j x.kind (sym kind ∙ ap class_of a ∙ class-seid (class x.kind) x.slot _ few (omega (arith, x.not-worn))) in
    let i-is : i ≡ x.slot = sym slot ∙ ap index_of a ∙ index-seid (class x.kind) x.slot _ few (omega (arith, x.not-worn)) in
    omega (arith, x.not-worn, rw (j-is, i-is) at worn)

-- a seid of a serial that its slot has reached is not handed out, whatever calls come before
not-again : (s : State) → Well s → (j : Kind) (i n : ℕ) → i < slots (configuration s.table) j → n ≤ rd (configuration s.table) s.table (at j i serial) → n ≤ max_serial
    → (between : List Call) (k : Call) → creates k.code ≡ true → (step (run s between) k).answered.error ≡ XOK
    → seid (class j) i n ≡ (step (run s between) k).answered.first → ⊥
not-again s w j i n il reached fits between k c ok same =
    let u = run s between in
    let v = run-kept s between w in
    let b = created u k v c ok in
    let conf : configuration u.table ≡ configuration s.table = run-conf-kept s between w in
    let x = same_parts j b.kind i b.slot n _ (small s w j i il) (small u v b.kind b.slot b.in-range) (omega arith) (omega (arith, b.not-worn)) (same ∙ answered u k v c ok) in
    let there : rd (configuration u.table) u.table (at b.kind b.slot serial) ≡ rd (configuration s.table) u.table (at j i serial) = rw (conf, x.0, x.1) in
    omega (arith, run-serials-kept s between w j i il, x.2)

-- after a creating call that succeeds and whatever other calls, no creating call answers that seid again
pub once : (s : State) → Well s → (k : Call) (between : List Call) (k' : Call) → creates k.code ≡ true → creates k'.code ≡ true
    → (step s k).answered.error ≡ XOK → (step (run (next s k) between) k').answered.error ≡ XOK
    → (step s k).answered.first ≡ (step (run (next s k) between) k').answered.first → ⊥
once s w k between k' c c' ok ok' same =
    let a = created s k w c ok in
    let conf : configuration (next s k).table ≡ configuration s.table = conf-kept s k w in
    not-again (next s k) (kept s k w) a.kind a.slot (rd (configuration s.table) s.table (at a.kind a.slot serial) + 1)
    (rw conf a.in-range) (rw conf (omega (arith, counted s k w c ok))) (omega (arith, a.not-worn)) between k' c' ok' (sym (answered s k w c ok) ∙ same)

-- so too in a run: whatever calls come before the first
pub never-twice : (s : State) → Well s → (before : List Call) (k : Call) (between : List Call) (k' : Call) → creates k.code ≡ true → creates k'.code ≡ true
    → (step (run s before) k).answered.error ≡ XOK → (step (run (next (run s before) k) between) k').answered.error ≡ XOK
    → (step (run s before) k).answered.first ≡ (step (run (next (run s before) k) between) k').answered.first → ⊥
never-twice s w before = once (run s before) (run-kept s before w)

-- from set-up on: any run of calls on the table that it leaves, with the store as it stood
pub from-set-up : (t store : List ℕ) → Holds (can_set_up t (length store)) → (before : List Call) (k : Call) (between : List Call) (k' : Call)
    → let s : State = run (record { table = set_up_table t (length store); store = store }) before in
    let u : State = run (next s k) between in
    creates k.code ≡ true → creates k'.code ≡ true → (step s k).answered.error ≡ XOK → (step u k').answered.error ≡ XOK
    → (step s k).answered.first ≡ (step u k').answered.first → ⊥
from-set-up t store c = never-twice (record { table = set_up_table t (length store); store = store }) (set-up-formed t (length store) c)

-- nor is a first process's, which has serial 1 in the cell's first slot
pub first-process-never : (t store : List ℕ) → Holds (can_set_up t (length store)) → (c : ℕ) → c < cells (configuration t) → (between : List Call) (k : Call)
    → let u : State = run (record { table = set_up_table t (length store); store = store }) between in
    creates k.code ≡ true → (step u k).answered.error ≡ XOK
    → seid (class process) (first_slot (configuration t) process c) 1 ≡ (step u k).answered.first → ⊥
first-process-never t store w c l =
    let conf = set-up-configuration t (length store) w in
    not-again (record { table = set_up_table t (length store); store = store }) (set-up-formed t (length store) w) process (first_slot (configuration t) process c) 1
    (rw conf (first-in (configuration t) (configured-shape t (length store) w) c l)) (rw conf (omega (arith, set-up-serial t (length store) w c l))) (omega arith)
