-- 02, CR 14: "two descriptors of one file held in its own cell never clash", in every state that a run of calls from set-up, without reload, reaches. Nor do two of one
-- subtype: CR 11, they "obey the same levels and clash rule".
use mathlib.Core.Path.{◌≡◌, refl, sym, ap, ◌∙◌}
use mathlib.Core.Bool.{Bool, true, false, cond, ◌&&◌, ◌||◌}
use mathlib.Core.List.{List, [], ◌∷◌, ◌++◌}
use Prim.Native.Nat.{ℕ, zero, suc, ◌+◌, ◌-◌, ◌≤◌, ◌<◌}
use native.Mathlib.Omega.{arith}
use native.Mathlib.Decide.{ℕ_discrete}
use lib.Dec.{eqb}
use lib.ListN.{length}
use borrow.Author.Tests.{eq-eqb}
use Rattle.rules.specs.Words.{some_below}
use Rattle.rules.specs.Claim.{Holds}
use Rattle.rules.specs.Layout.{Kind, process, segment, file, cells, slots, configuration, cell_slots, first_slot, cell_of, subtype_cell, Addr, at, Valid, rd, serial, owner, group, entries, held_at, used_at, bits, opens}
use Rattle.rules.specs.Seid.{class, seid, class_of, index_of, serial_of, or_self, is_subtype}
use Rattle.rules.specs.Modes.{valid_modes, excludes_readers, excludes_writers, writes, clash}
use Rattle.rules.specs.Errors.{XOK}
use Rattle.rules.specs.Rule.{Word, ◌≔◌, Rule, same_addr, over}
use Rattle.rules.specs.Find.{in_own_cell, entered, free_slot, free_entry}
use Rattle.rules.specs.Call07.{create, subtype_for}
use Rattle.rules.specs.Call08.{clashes_at, clashes, open_file, open_subtype, open_seid}
use Rattle.rules.specs.SetUp.{can_set_up, first_processes, set_up_table}
use Rattle.rules.specs.Step.{State, Call, step, next, run, rule_of}
use Rattle.laws.proofs.Tests.{split, cond-true, cond-false, both_ways}
use Rattle.laws.proofs.Below.{none-at}
use Rattle.laws.proofs.Places.{same-addr}
use Rattle.laws.proofs.Seids.{class-seid, index-seid, serial-seid}
use Rattle.laws.proofs.Shape.{in-run}
use Rattle.laws.proofs.Subtypes.{class-object, by-opened}
use Rattle.laws.proofs.Written.{AllOf, nil, also, all_append, all-if, all_map, over-append, over-at}
use Rattle.laws.proofs.Object.{no-process}
use Rattle.kept.proofs.Fine.{Fine}
use Rattle.laws.proofs.Refusals.{Clear}
use Rattle.kept.proofs.Records.{InRecord, by-slot, word_in, elsewhere}
use Rattle.kept.proofs.Keeps.{Caller}
use Rattle.kept.proofs.Found.{own-slot, free-entry}
use Rattle.kept.proofs.Exchange.{entered-in, entered-held, entered-used, entered-beside}
use Rattle.kept.proofs.Created.{made_in}
use Rattle.kept.proofs.Calls.{keeps}
use Rattle.kept.proofs.Kept.{Well, kept, conf-kept}
use Rattle.promises.proofs.Refusals.{none-holds, own, own-clear, refused}
use Rattle.promises.proofs.After.{its-caller, read-after}
use Rattle.promises.proofs.Writes.{made_words, Wrote, made, filled as entry-filled, emptied, paged, counted, freed-word, cleared, linked, sized, set-bits, posted, received, writes as words-written}
use Rattle.promises.proofs.Fresh.{blank, set-up-formed, set-up-configuration, set-up-reads}

-- ---- the statement

-- the cell of what a descriptor holds, a file or a subtype
abbrev pub held_cell : List ℕ → ℕ → ℕ
held_cell h s = cond (is_subtype s) (subtype_cell h (index_of s)) (cell_of h file (index_of s))

-- descriptor d of process p and descriptor e of process q, if they are two, hold one file or one subtype, and both processes are of its cell: their modes do not clash
abbrev pub Compatible : List ℕ → (Addr → ℕ) → ℕ → ℕ → ℕ → ℕ → Type 0
Compatible h r p d q e =
    p < slots h process → d < entries → q < slots h process → e < entries → (p ≡ q → d ≡ e → ⊥)
    → (r (at process p (held_at file d)) ≡ 0 → ⊥) → r (at process q (held_at file e)) ≡ r (at process p (held_at file d))
    → held_cell h (r (at process p (held_at file d))) ≡ cell_of h process p
    → held_cell h (r (at process p (held_at file d))) ≡ cell_of h process q
    → clash (r (at process p (used_at file d))) (r (at process q (used_at file e))) ≡ false

abbrev pub ClashFree : List ℕ → (Addr → ℕ) → Type 0
ClashFree h r = (p d q e : ℕ) → Compatible h r p d q e

-- ---- writes that clear descriptors, or leave them

abbrev Clears : Word → Type 0
Clears x = x.at.kind ≡ process → 8 ≤ x.at.word → x.at.word < 40 → x.value ≡ 0

-- what a descriptor's word holds afterwards stood there before, or is 0
left : {ws : List Word} → AllOf Clears ws → (r : Addr → ℕ) (p j : ℕ) → 8 ≤ j → j < 40 → (over r ws (at process p j) ≡ 0 → ⊥) → over r ws (at process p j) ≡ r (at process p j)
unfolding over
left nil r p j lo hi n = refl
left (also {x = x} {xs = xs} c cs) r p j lo hi n =
    let rest = left cs (λ a. cond (same_addr a x.at) x.value (r a)) p j lo hi n in
    split _ (same_addr (at process p j) x.at)
    (λ e.
    let a : at process p j ≡ x.at = same-addr (at process p j) x.at e in
    let w : j ≡ x.at.word = ap (λ (b : Addr). b.word) a in
    absurd (n (rest ∙ cond-true (same_addr (at process p j) x.at) x.value (r (at process p j)) e
    ∙ c (sym (ap (λ (b : Addr). b.kind) a)) (omega arith) (omega arith))))
    (λ e. rest ∙ cond-false (same_addr (at process p j) x.at) x.value (r (at process p j)) e)

other_word : (p j v : ℕ) → (8 ≤ j → j < 40 → ⊥) → {ws : List Word} → AllOf Clears ws → AllOf Clears ((at process p j ≔ v) ∷ ws)
other_word p j v n a = also (λ e lo hi. absurd (n lo hi)) a

bits-low : (j : Kind) → bits j < 8
bits-low process = omega arith
bits-low segment = omega arith
bits-low file = omega arith

-- every call but create and open
clears : (h : List ℕ) (r : Addr → ℕ) (k : Call) → (k.code ≡ 7 → ⊥) → (k.code ≡ 8 → ⊥) → (x : Word) → Wrote h r k x → Clears x
clears h r k a b x (made {j = j} {n = n} c l room m y) e lo hi = let few : n < made_words process = rw e at m in absurd (omega arith)
clears h r k a b x (entry-filled process f w) e lo hi = absurd w
clears h r k a b x (entry-filled segment f w) e lo hi = absurd (omega arith)
clears h r k a b x (entry-filled file f w) e lo hi = absurd (b (f a))
clears h r k a b x (emptied j y w) e lo hi = refl
clears h r k a b x (paged y l) e lo hi = absurd (omega arith)
clears h r k a b x (counted {j = j} o) e lo hi = absurd (no-process j o e)
clears h r k a b x (freed-word j o f y) e lo hi = refl
clears h r k a b x (cleared c y) e lo hi = refl
clears h r k a b x linked e lo hi = absurd (no-process file tt e)
clears h r k a b x sized e lo hi = absurd (no-process file tt e)
clears h r k a b x (set-bits {j = j} c f) e lo hi = absurd (omega (arith, bits-low j))
clears h r k a b x (posted {n} c y) e lo hi = absurd (omega (arith, y (λ z. omega arith)))
clears h r k a b x (received {n} c y) e lo hi = absurd (omega (arith, y (λ z. omega arith)))

-- so no clash arises, if the modes that are left are valid
modes-some : (u : ℕ) → valid_modes u ≡ true → u ≡ 0 → ⊥
unfolding valid_modes
modes-some u v e = both_ways (valid_modes 0) (rw e at v) refl

by-clearing : (h : List ℕ) (r : Addr → ℕ) {ws : List Word} → AllOf Clears ws → ClashFree h r → Fine h (over r ws) → ClashFree h (over r ws)
by-clearing h r {ws} c free w p d q e pl dl ql el two some same cp cq =
    let here = left c r p (held_at file d) (omega arith) (omega arith) some in
    let some' : over r ws (at process q (held_at file e)) ≡ 0 → ⊥ = λ z. some (sym same ∙ z) in
    let there = left c r q (held_at file e) (omega arith) (omega arith) some' in
    let used = left c r p (used_at file d) (omega arith) (omega arith) (modes-some _ ((w.entry file tt p d pl dl).valid some)) in
    let used' = left c r q (used_at file e) (omega arith) (omega arith) (modes-some _ ((w.entry file tt q e ql el).valid some')) in
    rw (used, used') (free p d q e pl dl ql el two (λ z. some (here ∙ z)) (sym there ∙ same ∙ here) (rw here at cp) (rw here at cq))

-- ---- create and open: one descriptor is filled

or_swap : (a b : Bool) → a || b ≡ b || a
or_swap true true = refl
or_swap true false = refl
or_swap false true = refl
or_swap false false = refl

clash-swap : (m n : ℕ) → clash m n ≡ clash n m
unfolding clash
clash-swap m n = rw (or_swap (excludes_readers m) (excludes_readers n), or_swap (excludes_writers m && writes n) (excludes_writers n && writes m))

-- descriptor d of process p is one, or it is another
by-entry : (P : ℕ → ℕ → Type 0) (me i : ℕ) → P me i → ((p d : ℕ) → (p ≡ me → d ≡ i → ⊥) → P p d) → (p d : ℕ) → P p d
by-entry P me i here there = by-slot (λ p. (d : ℕ) → P p d) me (by-slot (P me) i here (λ d n. there me d (λ x y. n y))) (λ p n d. there p d (λ x y. n x))

-- descriptor i of process me gets s with modes b, and no other descriptor of s in its cell clashes with b
record Filled (h : List ℕ) (r v : Addr → ℕ) (me i s b : ℕ) : Type 0 where
  others : (p d : ℕ) → d < entries → (p ≡ me → d ≡ i → ⊥) → (v (at process p (held_at file d)) ≡ r (at process p (held_at file d))) ×
      (v (at process p (used_at file d)) ≡ r (at process p (used_at file d)))
  held : v (at process me (held_at file i)) ≡ s
  used : v (at process me (used_at file i)) ≡ b
  alone : (q e : ℕ) → q < slots h process → e < entries → r (at process q (held_at file e)) ≡ s → held_cell h s ≡ cell_of h process me
      → held_cell h s ≡ cell_of h process q → clash b (r (at process q (used_at file e))) ≡ false

by-filling : (h : List ℕ) (r v : Addr → ℕ) (me i s b : ℕ) → Filled h r v me i s b → ClashFree h r → ClashFree h v
by-filling h r v me i s b f free = by-entry (λ p d. (q e : ℕ) → Compatible h v p d q e) me i
    (by-entry (λ q e. Compatible h v me i q e) me i
    (λ pl dl ql el two some same cp cq. absurd (two refl refl))
    (λ q e n pl dl ql el two some same cp cq.
    let o = f.others q e el n in
    rw (f.used, o.1) (f.alone q e ql el (sym o.0 ∙ same ∙ f.held) (rw f.held at cp) (rw f.held at cq))))
    (λ p d m. by-entry (λ q e. Compatible h v p d q e) me i
    (λ pl dl ql el two some same cp cq.
    let o = f.others p d dl m in
    let is : v (at process p (held_at file d)) ≡ s = sym same ∙ f.held in
    clash-swap _ _ ∙ rw (f.used, o.1) (f.alone p d pl dl (sym o.0 ∙ is) (rw is at cq) (rw is at cp)))
    (λ q e n pl dl ql el two some same cp cq.
    let o = f.others p d dl m in
    let w = f.others q e el n in
    rw (o.1, w.1) (free p d q e pl dl ql el two (rw o.0 at some) (sym w.0 ∙ same ∙ o.0) (rw o.0 at cp) (rw o.0 at cq))))

-- the two words of a descriptor, beside an object's
module _ (r : Addr → ℕ) (me i s b : ℕ) (il : i < entries) where
  beside : (p d : ℕ) → d < entries → (p ≡ me → d ≡ i → ⊥)
      → (over r (entered file me i s b) (at process p (held_at file d)) ≡ r (at process p (held_at file d))) ×
      (over r (entered file me i s b) (at process p (used_at file d)) ≡ r (at process p (used_at file d)))
  beside p d dl n = elim (ℕ_discrete p me) [
    | yes e ↦ rw e (
      entered-beside r file tt me i s b il (held_at file d) (λ x. n e (omega arith)) (λ x. omega arith),
      entered-beside r file tt me i s b il (used_at file d) (λ x. omega arith) (λ x. n e (omega arith)),
    )
    | no ne ↦ (
      elsewhere process me (entered-in r file tt me i s b il) r process p (held_at file d) (λ x y. ne y),
      elsewhere process me (entered-in r file tt me i s b il) r process p (used_at file d) (λ x y. ne y),
    )
  ]

  -- a reading in which the object's words are written too
  filled : (h : List ℕ) (v : Addr → ℕ) → ((p j : ℕ) → v (at process p j) ≡ over r (entered file me i s b) (at process p j))
      → ((q e : ℕ) → q < slots h process → e < entries → r (at process q (held_at file e)) ≡ s → held_cell h s ≡ cell_of h process me
      → held_cell h s ≡ cell_of h process q → clash b (r (at process q (used_at file e))) ≡ false)
      → Filled h r v me i s b
  filled h v same alone = record {
    others = λ p d dl n. let o = beside p d dl n in (same p (held_at file d) ∙ o.0, same p (used_at file d) ∙ o.1);
    held = same me (held_at file i) ∙ entered-held r file tt me i s b il;
    used = same me (used_at file i) ∙ entered-used r file tt me i s b il;
    alone = alone;
  }

  module _ (f : ℕ) {B : List Word} (a : AllOf (InRecord file f) B) where
    entry_first : (p j : ℕ) → over r (entered file me i s b ++ B) (at process p j) ≡ over r (entered file me i s b) (at process p j)
    entry_first p j = rw (over-append r (entered file me i s b) B) (elsewhere file f a (over r (entered file me i s b)) process p j (λ e x. no-process file tt (sym e)))

    object-first : (p j : ℕ) → over r (B ++ entered file me i s b) (at process p j) ≡ over r (entered file me i s b) (at process p j)
    object-first p j = rw (over-append r B (entered file me i s b)) (over-at (entered file me i s b) (over r B) r (at process p j)
        (elsewhere file f a r process p j (λ e x. no-process file tt (sym e))))

module _ (h : List ℕ) (r : Addr → ℕ) (p : ℕ) (me : Caller h r p) (free : ClashFree h r) where
  -- create: nobody holds a serial that has not been given
  by-create : (a b c : ℕ) (buffer : List ℕ) → Clear (create h r p a b c buffer).refusals → ClashFree h (over r (create h r p a b c buffer).effects.words)
  unfolding create
  by-create a b c buffer ok =
      let f = free_slot h r file (cell_of h process p) in
      let i = free_entry r file p in
      let n = r (at file f serial) + 1 in
      let s = seid (class file) f n in
      let room = own-slot h r p me file ok.1.1.1.1.1.0 in
      let il = (free-entry r file p ok.1.1.1.1.0).in-record in
      let small : f < 256 = omega (arith, room.in-range, me.shape.few file) in
      let fits : n < 65536 = omega (arith, room.not-worn) in
      by-filling h r (over r (create h r p a b c buffer).effects.words) p i s b (filled r p i s b il h (over r (create h r p a b c buffer).effects.words)
      (object-first r p i s b il f (made_in file tt f n (r (at process p owner)) (r (at process p group)) a 0 0 (subtype_for r p c)))
      (λ q e ql el same cp cq.
      let object = class-object file _ (ap class_of same ∙ class-seid (class file) f n small fits) in
      let known = ((me.fine.entry file tt q e ql el).held object).serial-known in
      let is : serial_of (r (at process q (held_at file e))) ≡ n = ap serial_of same ∙ serial-seid (class file) f n small fits in
      let ix : index_of (r (at process q (held_at file e))) ≡ f = ap index_of same ∙ index-seid (class file) f n small fits in
      absurd (omega (arith, rw ix at known))))
      free

  -- open: the search has found none that clashes
  none_found : (s b q e : ℕ) → q < slots h process → e < entries → r (at process q (held_at file e)) ≡ s → cell_of h process q ≡ cell_of h process p
      → clashes h r (cell_of h process p) s b ≡ false → clash b (r (at process q (used_at file e))) ≡ false
  unfolding clashes clashes_at
  none_found s b q e ql el same qc none =
      let run = in-run h me.shape process q ql in
      let c = cell_of h process p in
      let j : ℕ = q - first_slot h process c in
      let lo : first_slot h process c ≤ q = rw qc at run.1 in
      let hi : q < first_slot h process c + cell_slots h process c = rw qc at run.2 in
      let at-q : first_slot h process c + j ≡ q = omega arith in
      let here : eqb (r (at process q (held_at file e))) s && clash (r (at process q (used_at file e))) b ≡ false =
      rw at-q at (none-at entries (clashes_at r s b (first_slot h process c + j))
      (none-at (cell_slots h process c) (λ i. some_below entries (clashes_at r s b (first_slot h process c + i))) none j (omega arith)) e el) in
      clash-swap b _ ∙ rw (eq-eqb _ _ same) at here

  by-open-file : (s b c : ℕ) (buffer : List ℕ) → is_subtype s ≡ false → Clear (open_file h r p s b c buffer).refusals
      → ClashFree h (over r (open_file h r p s b c buffer).effects.words)
  unfolding open_file
  by-open-file s b c buffer t ok =
      let i = free_entry r file p in
      let il = (free-entry r file p ok.1.1.1.1.1.1.1.1.0).in-record in
      by-filling h r (over r (open_file h r p s b c buffer).effects.words) p i s b (filled r p i s b il h (over r (open_file h r p s b c buffer).effects.words)
      (entry_first r p i s b il (index_of s)
      (all-if _ (in_own_cell h p file s) _ _ (λ e. word_in file (index_of s) opens _ (omega arith) nil) (λ e. nil)))
      (λ q e ql el same cp cq.
      let own : cell_of h file (index_of s) ≡ cell_of h process p = rw t at cp in
      none_found s b q e ql el same (sym cq ∙ cp) (rw (eq-eqb _ _ own) at ok.1.1.1.1.1.1.1.0)))
      free

  by-open-subtype : (s b : ℕ) (buffer : List ℕ) → is_subtype s ≡ true → Clear (open_subtype h r p s b buffer).refusals
      → ClashFree h (over r (open_subtype h r p s b buffer).effects.words)
  unfolding open_subtype
  by-open-subtype s b buffer t ok =
      let i = free_entry r file p in
      let il = (free-entry r file p ok.1.1.1.1.1.1.0).in-record in
      by-filling h r (over r (open_subtype h r p s b buffer).effects.words) p i s b (filled r p i s b il h (over r (open_subtype h r p s b buffer).effects.words)
      (λ q j. refl)
      (λ q e ql el same cp cq.
      let own : subtype_cell h (index_of s) ≡ cell_of h process p = rw t at cp in
      none_found s b q e ql el same (sym cq ∙ cp) (rw (eq-eqb _ _ own) at ok.1.1.1.1.1.0)))
      free

  by-open : (a b c : ℕ) (buffer : List ℕ) → Clear (open_seid h r p a b c buffer).refusals → ClashFree h (over r (open_seid h r p a b c buffer).effects.words)
  by-open a b c buffer = let s : ℕ = or_self r p a in
      by-opened h r p a b c buffer (λ (x : Rule). Clear x.refusals → ClashFree h (over r x.effects.words)) (by-open-subtype s b buffer) (by-open-file s b c buffer)

-- ---- any call

module _ (h : List ℕ) (r : Addr → ℕ) (st : List ℕ) (k : Call) (me : Caller h r k.caller) (free : ClashFree h r) where
  by_call : Clear (rule_of h r st k).refusals → ClashFree h (over r (rule_of h r st k).effects.words)
  unfolding rule_of
  by_call = elim (ℕ_discrete k.code 7) [
    | yes e ↦ rw e (by-create h r k.caller me free k.a k.b k.c k.buffer)
    | no n ↦ elim (ℕ_discrete k.code 8) [
      | yes e ↦ rw e (by-open h r k.caller me free k.a k.b k.c k.buffer)
      | no m ↦ λ ok. by-clearing h r (all_map (clears h r k n m) (words-written h r st k me ok)) free (keeps h r st k me (none-holds (rule_of h r st k).refusals ok)).fine
    ]
  ]

-- what is read of a table's words alone
same-free : (h : List ℕ) (r v : Addr → ℕ) → ((a : Addr) → Valid h a → v a ≡ r a) → ClashFree h r → ClashFree h v
same-free h r v same free p d q e pl dl ql el two some like cp cq =
    let ph = same (at process p (held_at file d)) (pl, omega arith) in
    let pu = same (at process p (used_at file d)) (pl, omega arith) in
    let qh = same (at process q (held_at file e)) (ql, omega arith) in
    let qu = same (at process q (used_at file e)) (ql, omega arith) in
    rw (pu, qu) (free p d q e pl dl ql el two (rw ph at some) (sym qh ∙ like ∙ ph) (rw ph at cp) (rw ph at cq))

-- ---- one call, and a run

-- a state's descriptors
abbrev pub NoClash : State → Type 0
NoClash s = ClashFree (configuration s.table) (rd (configuration s.table) s.table)

pub no-clash-kept : (s : State) (k : Call) → Well s → NoClash s → NoClash (next s k)
no-clash-kept s k w free = elim (ℕ_discrete (step s k).answered.error XOK) [
  | yes ok ↦
      let h = configuration s.table in
      rw (conf-kept s k w) (same-free h (over (rd h s.table) (own s k).effects.words) (rd h (next s k).table) (read-after s k w ok)
      (by_call h (rd h s.table) s.store k (its-caller s k w ok) free (own-clear s k ok)))
  | no n ↦ rw (refused s k n).state free
]

pub run-no-clash : (s : State) (ks : List Call) → Well s → NoClash s → NoClash (run s ks)
unfolding run
run-no-clash s [] w free = free
run-no-clash s (k ∷ ks) w free = run-no-clash (next s k) ks (kept s k w) (no-clash-kept s k w free)

-- ---- from set-up: no descriptor holds anything

of-first : (h : List ℕ) (n : ℕ) → AllOf Clears (first_processes h n)
unfolding first_processes
of-first h zero = nil
of-first h (suc c) =
    let q = first_slot h process c in
    all_append _ (of-first h c)
    (other_word q 0 1 (λ lo hi. omega arith) (other_word q 1 1 (λ lo hi. omega arith) (other_word q 2 _ (λ lo hi. omega arith) (other_word q 3 _ (λ lo hi. omega arith)
    (other_word q (bits process) _ (λ lo hi. omega arith) nil)))))

set-up-free : (t : List ℕ) (m : ℕ) → Holds (can_set_up t m) → ClashFree (configuration t) (rd (configuration t) (set_up_table t m))
set-up-free t m w = let h = configuration t in
    same-free h (over blank (first_processes h (cells h))) (rd h (set_up_table t m)) (set-up-reads t m w)
    (λ p d q e pl dl ql el two some like cp cq. absurd (some (left (of-first h (cells h)) blank p (held_at file d) (omega arith) (omega arith) some)))

-- "two descriptors of one file held in its own cell never clash"
pub never-clash : (t store : List ℕ) → Holds (can_set_up t (length store)) → (ks : List Call) → NoClash (run (record { table = set_up_table t (length store); store = store }) ks)
never-clash t store w ks =
    run-no-clash (record { table = set_up_table t (length store); store = store }) ks (set-up-formed t (length store) w)
    (rw (set-up-configuration t (length store) w) (set-up-free t (length store) w))
