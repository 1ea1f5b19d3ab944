-- Releasing a process gives up all that it holds, whether that names anything or not: it succeeds whatever the entries hold, every entry is empty afterwards, and
-- the objects that it touches are those of its own cell that an entry names. So a stale entry given up by 2, as by 5 and 9, touches nothing.
use mathlib.Core.Path.{◌≡◌, refl, sym, ap, ◌∙◌}
use mathlib.Core.Bool.{true, ◌&&◌}
use mathlib.Core.List.{List, ◌++◌}
use Prim.Native.Nat.{ℕ, zero, suc, ◌≤◌, ◌<◌}
use native.Mathlib.Omega.{arith}
use lib.Dec.{eqb}
use lib.ListN.{length}
use borrow.Author.Tests.{eq-eqb, eqb-true, eqb-false}
use Rattle.rules.specs.Layout.{Kind, process, segment, file, record_words, slots, configuration, Addr, at, Valid, rd, live, serial, owner, entries, held_at, used_at, pages, pages_at}
use Rattle.rules.specs.Seid.{index_of, formed, present}
use Rattle.rules.specs.Errors.{XOK}
use Rattle.rules.specs.Rule.{Word, Rule, over, store}
use Rattle.rules.specs.Find.{in_own_cell, page_left, pages_set, pages_cleared, emptied, given_up, freed}
use Rattle.rules.specs.Call02.{dropped, dropped_to, released, release_process}
use Rattle.rules.specs.Step.{State, Call, step, next, bad_code, rule_of, whole_rule}
use Rattle.laws.proofs.Seids.{index-small, is-formed, present-is}
use Rattle.laws.proofs.Tests.{and_left, and_right}
use Rattle.laws.proofs.Shape.{good_of, formed-object}
use Rattle.laws.proofs.Written.{AllOf, nil, also, all_append, all-if, all_map, all-tab, over-append, over-miss}
use Rattle.laws.proofs.Object.{Object, no-process}
use Rattle.kept.proofs.Fine.{fine_of}
use Rattle.kept.proofs.Records.{by_kind, elsewhere, freed-in, freed-serial, freed-word}
use Rattle.kept.proofs.Entries.{less-in}
use Rattle.kept.proofs.Kept.{Well, conf-kept}
use Rattle.promises.proofs.Refusals.{own, goes_on, done}
use Rattle.promises.proofs.After.{read-after}
use Rattle.promises.proofs.Stale.{given}

-- process q holds object i by entry d: one of its own cell, which the entry names
pub record HoldsBy (h : List ℕ) (r : Addr → ℕ) (q : ℕ) (j : Kind) (i d : ℕ) : Type 0 where
  pub form : formed h j (r (at process q (held_at j d))) ≡ true
  pub own-cell : in_own_cell h q j (r (at process q (held_at j d))) ≡ true
  pub names : present r j (r (at process q (held_at j d))) ≡ true
  pub slot : index_of (r (at process q (held_at j d))) ≡ i

-- ---- what is written

-- the words of an entry stand before those of the next
entry-below : (k : Kind) → Object k → (d : ℕ) → (serial < held_at k d) × (held_at k d < used_at k d) × (used_at k d < held_at k (suc d)) × (d < entries → held_at k d < pages_at)
entry-below process o d = absurd o
entry-below segment o d = (omega arith, omega arith, omega arith, λ l. omega arith)
entry-below file o d = (omega arith, omega arith, omega arith, λ l. omega arith)

module _ (h : List ℕ) (q : ℕ) where
  abbrev descriptors : (Addr → ℕ) → List Word
  descriptors r = dropped_to h r file q entries

  abbrev designators : (Addr → ℕ) → List Word
  designators r = dropped_to h (over r (dropped_to h r file q entries)) segment q entries

-- entry d, by what r says that it holds, does not hold object i in the own cell
abbrev Other : List ℕ → ℕ → Kind → ℕ → (Addr → ℕ) → Kind → ℕ → Type 0
Other h q j i r k d =
    (r (at process q (held_at k d)) ≡ 0 → ⊥) → formed h k (r (at process q (held_at k d))) ≡ true → in_own_cell h q k (r (at process q (held_at k d))) ≡ true → k ≡ j
    → index_of (r (at process q (held_at k d))) ≡ i → ⊥

module _ (h : List ℕ) (q : ℕ) (j : Kind) (o : Object j) (i : ℕ) where
  -- of the processes, words of q past its serial alone, and below b or pages; of the objects, not object i
  abbrev Spares : ℕ → Word → Type 0
  Spares b x = (x.at.kind ≡ process → (x.at.slot ≡ q) × (serial < x.at.word) × (x.at.word < pages_at → x.at.word < b)) × (x.at.kind ≡ j → x.at.slot ≡ i → ⊥)

  wider : (b c : ℕ) → b ≤ c → {ws : List Word} → AllOf (Spares b) ws → AllOf (Spares c) ws
  wider b c l a = all_map (λ x w. (λ e. let v = w.0 e in (v.0, v.1, λ m. omega (arith, v.2 m)), w.1)) a

  unwritten : (b : ℕ) {ws : List Word} → AllOf (Spares b) ws → (w : ℕ) → b ≤ w → w < pages_at → (r : Addr → ℕ) → over r ws (at process q w) ≡ r (at process q w)
  unwritten b a w l m = over-miss (at process q w) (all_map (λ x y e.
      let z = y.0 (sym (ap (λ (c : Addr). c.kind) e)) in
      let same : w ≡ x.at.word = ap (λ (c : Addr). c.word) e in
      omega (arith, z.2 (omega arith))) a)

  -- pages are past every entry
  of-pages : (b : ℕ) (f : ℕ → ℕ) → AllOf (Spares b) (pages_set q f)
  unfolding pages_set
  of-pages b f = all-tab (Spares b) 0 pages _ (λ g lo hi. (λ x. (refl, omega arith, λ m. absurd (omega arith)), λ x y. no-process j o (sym x)))

  of-cleared : (b : ℕ) (r : Addr → ℕ) (k : Kind) (d : ℕ) → AllOf (Spares b) (pages_cleared r k q d)
  of-cleared b r process d = nil
  of-cleared b r segment d = of-pages b (page_left r q d)
  of-cleared b r file d = nil

  module _ (k : Kind) (ok : Object k) where
    of_one : (r : Addr → ℕ) (d : ℕ) → Other h q j i r k d → AllOf (Spares (held_at k (suc d))) (dropped h r k q d)
    unfolding dropped given_up emptied
    of_one r d other =
        let v : ℕ = r (at process q (held_at k d)) in
        let l = entry-below k ok d in
        all-if _ (eqb v 0) _ _ (λ e. nil) (λ e. all_append _ (of-cleared _ r k d) (all_append _
        (also (λ x. (refl, l.0, λ m. omega (arith, l.1, l.2)), λ x y. no-process j o (sym x))
        (also (λ x. (refl, omega (arith, l.0, l.1), λ m. l.2), λ x y. no-process j o (sym x)) nil))
        (all-if _ (formed h k v && in_own_cell h q k v) _ _
        (λ t. let form = and_left (formed h k v) (in_own_cell h q k v) t in let mine = and_right (formed h k v) (in_own_cell h q k v) t in all_map
        (λ x w. (λ f. absurd (no-process k ok (sym w.0 ∙ f)), λ f g. other (eqb-false v 0 e) form mine (sym w.0 ∙ f) (sym w.1 ∙ g)))
        (less-in r k ok (index_of v)))
        (λ theirs. nil))))

    of-dropped : (r : Addr → ℕ) → ((d : ℕ) → d < entries → Other h q j i r k d) → (n : ℕ) → n ≤ entries → AllOf (Spares (held_at k n)) (dropped_to h r k q n)
    unfolding dropped_to
    of-dropped r other zero l = nil
    of-dropped r other (suc n) l =
        let a = of-dropped r other n (omega arith) in
        let below = entry-below k ok n in
        let same : over r (dropped_to h r k q n) (at process q (held_at k n)) ≡ r (at process q (held_at k n)) =
        unwritten (held_at k n) a (held_at k n) (omega arith) (below.3 (omega arith)) r in
        all_append _ (wider (held_at k n) (held_at k (suc n)) (omega arith) a) (of_one (over r (dropped_to h r k q n)) n (rw same (other n l)))

  -- its descriptors, then its designators: what is read beside what they write
  beside-entries : (r : Addr → ℕ) → ((k : Kind) (d : ℕ) → d < entries → Other h q j i r k d) → (c : Addr)
      → ((x : Word) → Spares (record_words process) x → c ≡ x.at → ⊥) → over (over r (descriptors h q r)) (designators h q r) c ≡ r c
  beside-entries r other c miss =
      let a = of-dropped file tt r (other file) entries (omega arith) in
      let later : (d : ℕ) → d < entries → Other h q j i (over r (descriptors h q r)) segment d =
      λ d l. rw (unwritten (held_at file entries) a (held_at segment d) (omega arith) (omega arith) r) (other segment d l) in
      let b = of-dropped segment tt (over r (descriptors h q r)) later entries (omega arith) in
      over-miss c (all_map miss (wider (held_at segment entries) (record_words process) (omega arith) b)) (over r (descriptors h q r))
      ∙ over-miss c (all_map miss (wider (held_at file entries) (record_words process) (omega arith) a)) r

-- the whole: the entries, then the record
module _ (h : List ℕ) (r : Addr → ℕ) (q : ℕ) where
  whole : (c : Addr) → over r (released h r q) c ≡ over (over (over r (descriptors h q r)) (designators h q r)) (freed process q) c
  unfolding released
  whole c = rw (
    over-append r (descriptors h q r) (designators h q r ++ freed process q),
    over-append (over r (descriptors h q r)) (designators h q r) (freed process q),
  )

  object-spared : (j : Kind) → Object j → (i : ℕ) → ((k : Kind) (d : ℕ) → d < entries → Other h q j i r k d) → (w : ℕ)
      → over r (released h r q) (at j i w) ≡ r (at j i w)
  object-spared j o i other w =
      whole (at j i w) ∙ elsewhere process q (freed-in process q) _ j i w (λ e f. no-process j o e)
      ∙ beside-entries h q j o i r other (at j i w) (λ x y e. y.1 (sym (ap (λ (c : Addr). c.kind) e)) (sym (ap (λ (c : Addr). c.slot) e)))

  -- no index is so high: what is so of any object's words is so of the processes'
  nobody : (k : Kind) (d : ℕ) → d < entries → Other h q file 256 r k d
  nobody k d l some form mine e f = omega (arith, index-small (r (at process q (held_at k d))))

  process-spared : (p : ℕ) → (p ≡ q → ⊥) → (w : ℕ) → over r (released h r q) (at process p w) ≡ r (at process p w)
  process-spared p n w =
      whole (at process p w) ∙ elsewhere process q (freed-in process q) _ process p w (λ e f. n f)
      ∙ beside-entries h q file tt 256 r nobody (at process p w)
      (λ x y e. n (ap (λ (c : Addr). c.slot) e ∙ (y.0 (sym (ap (λ (c : Addr). c.kind) e))).0))

  serial-stays : over r (released h r q) (at process q serial) ≡ r (at process q serial)
  serial-stays =
      whole (at process q serial) ∙ freed-serial process q _
      ∙ beside-entries h q file tt 256 r nobody (at process q serial)
      (λ x y e. let same : serial ≡ x.at.word = ap (λ (c : Addr). c.word) e in omega (arith, (y.0 (sym (ap (λ (c : Addr). c.kind) e))).1))

  cleared : (w : ℕ) → w < record_words process → (w ≡ serial → ⊥) → over r (released h r q) (at process q w) ≡ 0
  cleared w l n = whole (at process q w) ∙ freed-word process q _ w l n

-- ---- the statement

-- process q is released: XOK and two zeros; its record is zero but for its serial, an object that it does not hold stays as it is, and so does every other
-- process, the configuration, the store and the buffer
pub record Released (s : State) (k : Call) (q : ℕ) (h : List ℕ) (before after : Addr → ℕ) : Type 0 where
  pub error : (step s k).answered.error ≡ XOK
  pub first : (step s k).answered.first ≡ 0
  pub second : (step s k).answered.second ≡ 0
  pub all-given-up : (w : ℕ) → w < record_words process → (w ≡ serial → ⊥) → after (at process q w) ≡ 0
  pub same-serial : after (at process q serial) ≡ before (at process q serial)
  pub objects : (j : Kind) → Object j → (i w : ℕ) → i < slots h j → w < record_words j → ((d : ℕ) → d < entries → HoldsBy h before q j i d → ⊥)
      → after (at j i w) ≡ before (at j i w)
  pub processes : (p w : ℕ) → p < slots h process → w < record_words process → (p ≡ q → ⊥) → after (at process p w) ≡ before (at process p w)
  pub same-configuration : configuration (next s k).table ≡ h
  pub store : (next s k).store ≡ s.store
  pub buffer : (step s k).buffer ≡ k.buffer

module _ (s : State) (k : Call) (w : Well s) (is-release : k.code ≡ 2) where
  abbrev h : List ℕ
  h = configuration s.table

  abbrev r : Addr → ℕ
  r = rd (configuration s.table) s.table

  abbrev q : ℕ
  q = index_of (given s k)

  its-rule : own s k ≡ release_process h r k.caller k.a k.buffer
  unfolding rule_of
  its-rule = rw is-release

  -- in a well-formed table an entry of the own cell names its object
  not-held : q < slots h process → (j : Kind) → Object j → (i : ℕ) → ((d : ℕ) → d < entries → HoldsBy h r q j i d → ⊥)
      → (g : Kind) (d : ℕ) → d < entries → Other h q j i r g d
  not-held ql j o i none g d l = by_kind (λ g. Other h q j i r g d) j (λ some form mine e f.
      let n = formed-object h j _ form in
      let x = (fine_of h r (good_of s.table (length s.store) w).records).entry j o q d ql l in
      let c = eqb-true _ _ mine in
      none d l (record {
        form = form;
        own-cell = mine;
        names = present-is r j _ (record { is_live = x.current-live n c; same-serial = x.current-serial n c });
        slot = f;
      }))
      (λ g n some form mine e f. n e) g

  -- a live caller may release what is its owner's in its cell, whatever that holds
  pub all-released : k.caller < slots h process → r (at process k.caller live) ≡ 1 → formed h process (given s k) ≡ true
      → in_own_cell h k.caller process (given s k) ≡ true → present r process (given s k) ≡ true → r (at process q owner) ≡ r (at process k.caller owner)
      → Released s k q h r (rd h (next s k).table)
  unfolding bad_code release_process whole_rule
  all-released l alive form mine here owned =
      let same = eq-eqb (r (at process q owner)) (r (at process k.caller owner)) owned in
      let ok = goes_on s k w l alive (rw is-release) (rw its-rule (rw form, (rw mine, (rw here, (rw same, tt))))) in
      let d = done s k ok in
      let ql : q < slots h process = (is-formed _ _ (given s k) form).index_in in
      let reads : (c : Addr) → Valid h c → rd h (next s k).table c ≡ over r (released h r q) c =
      λ c v. read-after s k w ok c v ∙ ap (λ (x : Rule). over r x.effects.words c) its-rule in
      record {
        error = ok;
        first = d.first ∙ ap (λ (x : Rule). x.effects.first) its-rule;
        second = d.second ∙ ap (λ (x : Rule). x.effects.second) its-rule;
        all-given-up = λ w wl n. reads (at process q w) (ql, wl) ∙ cleared h r q w wl n;
        same-serial = reads (at process q serial) (ql, omega arith) ∙ serial-stays h r q;
        objects = λ j o i w il wl none. reads (at j i w) (il, wl) ∙ object-spared h r q j o i (not-held ql j o i none) w;
        processes = λ p w pl wl n. reads (at process p w) (pl, wl) ∙ process-spared h r q p n w;
        same-configuration = conf-kept s k w;
        store = d.store ∙ ap (λ (x : Rule). store h s.store x.effects.bytes) its-rule;
        buffer = d.buffer ∙ ap (λ (x : Rule). x.effects.buffer) its-rule;
      }
