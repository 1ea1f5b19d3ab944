-- 02, CR 7, "Shared segments are fixed": call 12 on a sharable segment is refused with 33, after 14 (`refused-shared`, `owner-first`); and in every run, the bits of a
-- segment that is sharable never change while it lives (`fixed`, at the end).
use mathlib.Core.Path.{◌≡◌, refl, sym, ap, ◌∙◌}
use mathlib.Core.Bool.{true, not}
use mathlib.Core.List.{List, [], ◌∷◌}
use Prim.Native.Nat.{ℕ, ◌≤◌, ◌<◌}
use native.Mathlib.Omega.{arith}
use native.Mathlib.Decide.{ℕ_discrete}
use lib.Dec.{eqb}
use lib.ListN.{length}
use borrow.Author.Tests.{eqb-true, eq-eqb, ne_eqb, lt-leb, le-ltb}
use Rattle.rules.specs.Claim.{Holds, test}
use Rattle.rules.specs.Layout.{max_bits, Kind, process, segment, file, slots, configuration, Addr, at, rd, live, serial, owner, held_at, bits, sharable, holders}
use Rattle.rules.specs.Seid.{class, index_of, formed, or_self, present}
use Rattle.rules.specs.WellFormed.{well_formed}
use Rattle.rules.specs.Errors.{XOK, XnoOwner, XshSg}
use Rattle.rules.specs.Rule.{◌⇒◌, first_refusal, Word, ◌≔◌, over}
use Rattle.rules.specs.Find.{in_own_cell}
use Rattle.rules.specs.Call02.{release_process}
use Rattle.rules.specs.Call05.{release_segment}
use Rattle.rules.specs.Call12.{is_shared, set_bits_of, set_bits}
use Rattle.rules.specs.Step.{State, Call, step, next, run, bad_caller, bad_code, rule_of, whole_rule}
use Rattle.laws.proofs.Tests.{passed}
use Rattle.laws.proofs.Claims.{tested}
use Rattle.laws.proofs.Seids.{is-formed}
use Rattle.laws.proofs.Written.{AllOf, all_map, over-miss}
use Rattle.laws.proofs.Object.{Object, no-process}
use Rattle.laws.proofs.Refusals.{Clear}
use Rattle.laws.proofs.Slots.{slot-untaken}
use Rattle.kept.proofs.Made.{object-words}
use Rattle.kept.proofs.Keeps.{Caller}
use Rattle.kept.proofs.Kept.{Well, kept, conf-kept}
use Rattle.promises.proofs.Refusals.{refusals, answered, own, own-clear, refused}
use Rattle.promises.proofs.After.{its-caller, read-after}
use Rattle.promises.proofs.Stale.{for-itself}
use Rattle.promises.proofs.Surviving.{Survives, survives-given, survives-released}
use Rattle.promises.proofs.Writes.{Wrote, made, filled, emptied as entry-emptied, paged, counted, freed-word, cleared, linked, sized, set-bits, posted, received, writes}

-- ---- "Call 12 on a sharable segment is to be refused with 33 XshSg, after 14."

-- a live caller gives call 12 a segment of its own cell, and bits that fit
pub record SetsBits (s : State) (k : Call) (h : List ℕ) (r : Addr → ℕ) : Type 0 where
  pub well : Holds (well_formed s.table (length s.store))
  pub caller-in : k.caller < slots h process
  pub caller-live : r (at process k.caller live) ≡ 1
  pub is-set-bits : k.code ≡ 12
  pub fits : k.b ≤ max_bits
  pub form : formed h segment k.a ≡ true
  pub own-cell : in_own_cell h k.caller segment k.a ≡ true
  pub here : present r segment k.a ≡ true

module _ (s : State) (k : Call) (x : SetsBits s k (configuration s.table) (rd (configuration s.table) s.table)) where
  abbrev h : List ℕ
  h = configuration s.table

  abbrev r : Addr → ℕ
  r = rd (configuration s.table) s.table

  its-rule : own s k ≡ set_bits_of h r k.caller k.a k.b k.buffer segment
  unfolding rule_of set_bits
  its-rule = rw (x.is-set-bits, for-itself h r k.caller segment k.a x.form, (is-formed _ _ k.a x.form).class-is)

  -- what is asked before the owner
  asked : first_refusal (refusals s k)
      ≡ first_refusal ((not (eqb (r (at segment (index_of k.a) owner)) (r (at process k.caller owner))) ⇒ XnoOwner) ∷ (is_shared r segment (index_of k.a) ⇒ XshSg) ∷ [])
  unfolding whole_rule bad_caller bad_code
  asked =
      let good : test (well_formed s.table (length s.store)) ≡ true = tested (well_formed s.table (length s.store)) x.well in
      rw (its-rule, good, lt-leb _ _ x.caller-in, eq-eqb _ 1 x.caller-live, x.is-set-bits, le-ltb max_bits k.b x.fits, x.form, x.own-cell, x.here)

  pub owner-first : (rd (configuration s.table) s.table (at segment (index_of k.a) owner) ≡ rd (configuration s.table) s.table
      (at process k.caller owner) → ⊥)
      → (step s k).answered.error ≡ XnoOwner
  owner-first n = answered s k ∙ asked ∙ rw (ne_eqb _ _ n)

  pub refused-shared : rd (configuration s.table) s.table (at segment (index_of k.a) owner) ≡ rd (configuration s.table) s.table (at process k.caller owner)
      → (rd (configuration s.table) s.table (at segment (index_of k.a) sharable) ≡ 0 → ⊥) → (step s k).answered.error ≡ XshSg
  refused-shared e n = answered s k ∙ asked ∙ rw (eq-eqb _ _ e, ne_eqb _ 0 n)

-- ---- two readings of segment i: where it lives in the second it lived in the first, with the same flag and the same bits

module _ (i : ℕ) where
  abbrev Same : (Addr → ℕ) → (Addr → ℕ) → Type 0
  Same r q = q (at segment i live) ≡ 1
      → (r (at segment i live) ≡ 1) × (q (at segment i sharable) ≡ r (at segment i sharable)) × (q (at segment i (bits segment)) ≡ r (at segment i (bits segment)))

  survived : (r : Addr → ℕ) (ws : List Word) → Survives segment tt i r (over r ws) → Same r (over r ws)
  survived r ws f l =
      let word : (n : ℕ) → n < holders segment → over r ws (at segment i n) ≡ r (at segment i n) = λ n b. f l n (λ e. omega arith) in
      (sym (word live (omega arith)) ∙ l, word sharable (omega arith), word (bits segment) (omega arith))

  -- words that are none of these three
  abbrev Spares : Word → Type 0
  Spares x = (n : ℕ) → n ≤ 5 → (n ≡ serial → ⊥) → at segment i n ≡ x.at → ⊥

  same-miss : (r : Addr → ℕ) {ws : List Word} → AllOf Spares ws → Same r (over r ws)
  same-miss r a =
      let word : (n : ℕ) → n ≤ 5 → (n ≡ serial → ⊥) → over r _ (at segment i n) ≡ r (at segment i n) = λ n l d. over-miss (at segment i n) (all_map (λ x f. f n l d) a) r in
      λ e. (sym (word live (omega arith) (λ z. omega arith)) ∙ e, word sharable (omega arith) (λ z. omega arith), word (bits segment) (omega arith) (λ z. omega arith))

  kind-of : (n : ℕ) (x : Word) → at segment i n ≡ x.at → segment ≡ x.at.kind
  kind-of n x e = ap (λ (b : Addr). b.kind) e

  holders-spare : (k : Kind) → Object k → (m v : ℕ) → Spares (at k m (holders k) ≔ v)
  holders-spare k o m v n l z e = omega (arith, ap (λ (b : Addr). b.word) e, (object-words k o).holders-at)

-- ---- every call

module _ (h : List ℕ) (r : Addr → ℕ) (st : List ℕ) (k : Call) (me : Caller h r k.caller) (i : ℕ) (lives : r (at segment i live) ≡ 1)
    (shared : r (at segment i sharable) ≡ 0 → ⊥) where
  -- of what calls other than 2 and 5 write
  sparing : (k.code ≡ 2 → ⊥) → (k.code ≡ 5 → ⊥) → (x : Word) → Wrote h r k x → Spares i x
  sparing a b x (made {j = j} {c = c} f l room low y) n m z e =
      omega (arith, (slot-untaken h r j c room).is_free, lived j _ (ap (λ (b : Addr). b.kind) e) (ap (λ (b : Addr). b.slot) e))
    where
      lived : (j : Kind) (m : ℕ) → segment ≡ j → i ≡ m → r (at j m live) ≡ 1
      lived j m e f = rw (← e, ← f) lives
  sparing a b x (filled j y w) n m z e = no-process segment tt (kind-of i n x e)
  sparing a b x (entry-emptied j y w) n m z e = no-process segment tt (kind-of i n x e)
  sparing a b x (paged y l) n m z e = no-process segment tt (kind-of i n x e)
  sparing a b x (counted {j = j} {i = c} {v = v} o) n m z e = holders-spare i j o c v n m z e
  sparing a b x (freed-word process o f y) n m z e = absurd o
  sparing a b x (freed-word segment o f y) n m z e = b (f a)
  sparing a b x (freed-word file o f y) n m z e = omega (arith, ap class (kind-of i n x e))
  sparing a b x (cleared c y) n m z e = a c
  sparing a b x linked n m z e = omega (arith, ap class (kind-of i n x e))
  sparing a b x sized n m z e = omega (arith, ap class (kind-of i n x e))
  sparing a b x (set-bits {j = process} c f) n m z e = no-process segment tt (kind-of i n x e)
  sparing a b x (set-bits {j = segment} c f) n m z e = shared (eqb-true _ 0 (passed _ (rw (ap (λ (b : Addr). b.slot) e) f)))
  sparing a b x (set-bits {j = file} c f) n m z e = omega (arith, ap class (kind-of i n x e))
  sparing a b x (posted c y) n m z e = no-process segment tt (kind-of i n x e)
  sparing a b x (received c y) n m z e = no-process segment tt (kind-of i n x e)

  same_after : Clear (rule_of h r st k).refusals → Same i r (over r (rule_of h r st k).effects.words)
  unfolding rule_of release_process release_segment
  same_after ok = elim (ℕ_discrete k.code 2) [
    | yes e ↦ rw e (survived i r _ (survives-released segment tt i h r (index_of (or_self r k.caller k.a))))
    | no a ↦ elim (ℕ_discrete k.code 5) [
      | yes e ↦ rw e (survived i r _ (survives-given segment tt i h r r segment k.caller k.a (r (at process k.caller (held_at segment k.a)))))
      | no b ↦ same-miss i r (all_map (sparing a b) (writes h r st k me ok))
    ]
  ]

-- ---- one call, and a run

abbrev pub word_of : State → ℕ → ℕ → ℕ
word_of s i n = rd (configuration s.table) s.table (at segment i n)

-- a sharable segment that lives
pub record Shared (s : State) (i : ℕ) : Type 0 where
  pub in-range : i < slots (configuration s.table) segment
  pub is_live : word_of s i live ≡ 1
  pub flag : word_of s i sharable ≡ 0 → ⊥

pub one-call : (s : State) (k : Call) (i : ℕ) → Well s → Shared s i → word_of (next s k) i live ≡ 1
    → (word_of (next s k) i sharable ≡ word_of s i sharable) × (word_of (next s k) i (bits segment) ≡ word_of s i (bits segment))
one-call s k i w x alive = elim (ℕ_discrete (step s k).answered.error XOK) [
  | no n ↦ rw (refused s k n).state (refl, refl)
  | yes ok ↦
      let h = configuration s.table in
      let after : (n : ℕ) → n < 8 → word_of (next s k) i n ≡ over (rd h s.table) (own s k).effects.words (at segment i n) =
      λ n l. rw (conf-kept s k w) (read-after s k w ok (at segment i n) (x.in-range, l)) in
      let y = same_after h (rd h s.table) s.store k (its-caller s k w ok) i x.is_live x.flag (own-clear s k ok) (sym (after live (omega arith)) ∙ alive) in
      (after sharable (omega arith) ∙ y.1, after (bits segment) (omega arith) ∙ y.2)
]

-- segment i lives after every call of a run
abbrev pub LivesOn : ℕ → State → List Call → Type 0
LivesOn i s [] = Unit {0}
LivesOn i s (k ∷ ks) = (word_of (next s k) i live ≡ 1) × LivesOn i (next s k) ks

pub fixed : (s : State) (ks : List Call) (i : ℕ) → Well s → Shared s i → LivesOn i s ks → word_of (run s ks) i (bits segment) ≡ word_of s i (bits segment)
unfolding run
fixed s [] i w x l = refl
fixed s (k ∷ ks) i w x l =
    let y = one-call s k i w x l.0 in
    fixed (next s k) ks i (kept s k w) (record { in-range = rw (conf-kept s k w) x.in-range; is_live = l.0; flag = λ z. x.flag (sym y.0 ∙ z) }) l.1 ∙ y.1
