-- An entry written together with the record of the object that it names or named.
use mathlib.Core.Path.{◌≡◌, refl, sym, ◌∙◌}
use mathlib.Core.Bool.{false}
use mathlib.Core.List.{List, ◌++◌}
use Prim.Native.Nat.{ℕ, ◌+◌, ◌≤◌, ◌<◌}
use native.Mathlib.Omega.{arith}
use Rattle.rules.specs.Layout.{Kind, process, slots, cell_of, Addr, at, live, serial, entries, held_at, used_at, holders}
use Rattle.rules.specs.Seid.{class, class_of, index_of}
use Rattle.rules.specs.WellFormed.{own_entry}
use Rattle.rules.specs.Rule.{Word, over}
use Rattle.rules.specs.Find.{entered}
use Rattle.laws.proofs.Shape as shape
use Rattle.laws.proofs.Shape.{Entry}
use Rattle.laws.proofs.Subtypes.{class-object}
use Rattle.laws.proofs.Written.{AllOf, nil, all_append, hit, miss}
use Rattle.laws.proofs.Object.{Object, no-process}
use Rattle.kept.proofs.Fine.{Own, Fine}
use Rattle.kept.proofs.Records.{InRecord, word_in, apart-word, all_valid, elsewhere, in-first, in-second, in-neither}
use Rattle.kept.proofs.Counting.{one, not_named}
use Rattle.kept.proofs.Made.{placed}
use Rattle.kept.proofs.Readings.{Steady, own_same, same-steady}
use Rattle.kept.proofs.OneEntry.{Fresh, Unmapped, entry-changed, EntryChanged, entry-grown}
use Rattle.kept.proofs.Keeps.{Keeps}

-- ---- an entry's two words

module _ (r : Addr → ℕ) (k : Kind) (o : Object k) (p d s u : ℕ) (dl : d < entries) where
  pub entered-in : AllOf (InRecord process p) (entered k p d s u)
  entered-in = let x = placed k o d dl in word_in process p (held_at k d) s (omega arith) (word_in process p (used_at k d) u (omega arith) nil)

  pub entered-held : over r (entered k p d s u) (at process p (held_at k d)) ≡ s
  unfolding over
  entered-held =
      let x = placed k o d dl in
      miss (at process p (held_at k d)) (at process p (used_at k d)) u _ (apart-word process p (held_at k d) (used_at k d) (λ e. omega arith))
      ∙ hit (at process p (held_at k d)) (at process p (held_at k d)) s (r (at process p (held_at k d))) refl

  pub entered-used : over r (entered k p d s u) (at process p (used_at k d)) ≡ u
  unfolding over
  entered-used = hit (at process p (used_at k d)) (at process p (used_at k d)) u _ refl

  pub entered-beside : (j : ℕ) → (j ≡ held_at k d → ⊥) → (j ≡ used_at k d → ⊥) → over r (entered k p d s u) (at process p j) ≡ r (at process p j)
  unfolding over
  entered-beside j n m =
      miss (at process p j) (at process p (used_at k d)) u _ (apart-word process p j (used_at k d) m)
      ∙ miss (at process p j) (at process p (held_at k d)) s (r (at process p j)) (apart-word process p j (held_at k d) n)

-- ---- entry d of process p gets s, used so; object i is written by B

pub record Exchange (h : List ℕ) (r : Addr → ℕ) (k : Kind) (p d i s u : ℕ) (B : List Word) : Type 0 where
  pub in-range : i < slots h k
  pub in-record : AllOf (InRecord k i) B
  pub own-after : Own h (over r B) k i
  pub grown-after : r (at k i serial) ≤ over r B (at k i serial)
  pub steady-after : 1 ≤ over r B (at k i (holders k)) → Steady h r (over r B) k i
  pub fresh : Fresh r k p d s
  pub unmapped : Unmapped r k p d s
  pub entry-after : Entry h (over r B) k (cell_of h process p) s u
  pub old-index : shape.Object k (r (at process p (held_at k d))) → index_of (r (at process p (held_at k d))) ≡ i
  pub new-index : shape.Object k s → index_of s ≡ i
  pub counts : (q : Addr → ℕ) → q (at process p (held_at k d)) ≡ s
      → over r B (at k i (holders k)) + one (own_entry h r k i p d) ≡ r (at k i (holders k)) + one (own_entry h q k i p d)

module _ (h : List ℕ) (r : Addr → ℕ) (w : Fine h r) (k : Kind) (o : Object k) (p d i s u : ℕ) {B : List Word} (pl : p < slots h process) (alive : r (at process p live) ≡ 1)
    (dl : d < entries) (x : Exchange h r k p d i s u B) where
  -- a reading in which both are written
  record Both (q : Addr → ℕ) : Type 0 where
    others : (l : Kind) (m j : ℕ) → (l ≡ process → m ≡ p → ⊥) → (l ≡ k → m ≡ i → ⊥) → q (at l m j) ≡ r (at l m j)
    in-process : (j : ℕ) → q (at process p j) ≡ over r (entered k p d s u) (at process p j)
    in-object : (j : ℕ) → q (at k i j) ≡ over r B (at k i j)

  -- an entry that holds v, where v names object i alone
  only-names : (q : Addr → ℕ) → (shape.Object k (q (at process p (held_at k d))) → index_of (q (at process p (held_at k d))) ≡ i) → (m : ℕ) → (m ≡ i → ⊥) → own_entry h q k m p d ≡ false
  only-names q f m n =
      not_named h q k p d m (λ a. n (sym a.same_index ∙ f (class-object k (q (at process p (held_at k d))) a.same_class)))

  changed : (q : Addr → ℕ) → Both q → EntryChanged h r q k p d i
  changed q b =
      let held : q (at process p (held_at k d)) ≡ s = b.in-process (held_at k d) ∙ entered-held r k o p d s u dl in
      let used : q (at process p (used_at k d)) ≡ u = b.in-process (used_at k d) ∙ entered-used r k o p d s u dl in
      record {
        others = b.others;
        beside = λ j n m. b.in-process j ∙ entered-beside r k o p d s u dl j n m;
        fresh = rw held x.fresh;
        unmapped = rw held x.unmapped;
        entry-ok = rw (held, used) (moved q b);
        own-object = λ l. own_same h (over r B) q k i (λ j l. b.in-object j) x.own-after;
        serial-grown = rw (b.in-object serial) x.grown-after;
        steady = λ a y. let z = x.steady-after (rw (b.in-object (holders k)) at a) y in (b.in-object live ∙ z.0, b.in-object serial ∙ z.1);
        old-names = only-names r x.old-index;
        new-names = only-names q (rw held x.new-index);
        holders-follow = rw (b.in-object (holders k)) (x.counts q held);
      }
    where
      moved : (q : Addr → ℕ) → Both q → Entry h q k (cell_of h process p) s u
      moved q b =
          let e = x.entry-after in
          record {
            empty = e.empty;
            held = λ n. let y = e.held n in record {
              form = y.form;
              serial-known = rw (x.new-index n, b.in-object serial) (rw (x.new-index n) at y.serial-known);
              flow = y.flow;
            };
            current-live = λ n c. rw (x.new-index n) (b.in-object live ∙ (rw (x.new-index n) at (e.current-live n c)));
            current-serial = λ n c. rw (x.new-index n) (b.in-object serial) ∙ e.current-serial n c;
            valid = e.valid;
            writes-own = e.writes-own;
            subtype = e.subtype;
          }

  apart : k ≡ process → i ≡ p → ⊥
  apart e f = no-process k o e

  -- the entry first, then the object
  pub entry_first : Keeps h r (entered k p d s u ++ B)
  entry_first =
      let a = entered-in r k o p d s u dl in
      let b = x.in-record in
      let both : Both (over r (entered k p d s u ++ B)) = record {
        others = λ l m j n n'. in-neither process k p i apart a b r l m j n n';
        in-process = in-first process k p i apart a b r;
        in-object = in-second process k p i apart a b r;
      } in
      record {
        valid = all_append B (all_valid h process p pl a) (all_valid h k i x.in-range b);
        fine = entry-changed h r _ w k o p d i pl alive dl (changed _ both);
        grown = entry-grown h r _ w k o p d i pl alive dl (changed _ both);
      }

  -- the object first, then the entry
  pub object-first : Keeps h r (B ++ entered k p d s u)
  object-first =
      let a = entered-in r k o p d s u dl in
      let b = x.in-record in
      let apart' : process ≡ k → p ≡ i → ⊥ = λ e f. no-process k o (sym e) in
      let both : Both (over r (B ++ entered k p d s u)) = record {
        others = λ l m j n n'. in-neither k process i p apart' b a r l m j n' n;
        in-process = in-second k process i p apart' b a r;
        in-object = in-first k process i p apart' b a r;
      } in
      record {
        valid = all_append (entered k p d s u) (all_valid h k i x.in-range b) (all_valid h process p pl a);
        fine = entry-changed h r _ w k o p d i pl alive dl (changed _ both);
        grown = entry-grown h r _ w k o p d i pl alive dl (changed _ both);
      }

-- ---- entry d of process p gets s, used so, and names no object before and after: no other record is written

pub record Alone (h : List ℕ) (r : Addr → ℕ) (k : Kind) (p d s u : ℕ) : Type 0 where
  pub fresh : Fresh r k p d s
  pub unmapped : Unmapped r k p d s
  pub entry-after : (q : Addr → ℕ) → Entry h q k (cell_of h process p) s u
  pub old-class : class_of (r (at process p (held_at k d))) ≡ class k → ⊥
  pub new-class : class_of s ≡ class k → ⊥

module _ (h : List ℕ) (r : Addr → ℕ) (w : Fine h r) (k : Kind) (o : Object k) (p d s u : ℕ) (pl : p < slots h process) (alive : r (at process p live) ≡ 1)
    (dl : d < entries) (x : Alone h r k p d s u) where
  abbrev then : Addr → ℕ
  then = over r (entered k p d s u)

  stays : (l : Kind) (m j : ℕ) → (l ≡ process → m ≡ p → ⊥) → then (at l m j) ≡ r (at l m j)
  stays = elsewhere process p (entered-in r k o p d s u dl) r

  object-stays : (i j : ℕ) → then (at k i j) ≡ r (at k i j)
  object-stays i j = stays k i j (λ e f. no-process k o e)

  now-held : then (at process p (held_at k d)) ≡ s
  now-held = entered-held r k o p d s u dl

  -- of all objects, none is named: the one past the last stands for what is written
  alone : EntryChanged h r then k p d (slots h k)
  alone =
      let i : ℕ = slots h k in
      let before : (m : ℕ) → own_entry h r k m p d ≡ false = λ m. not_named h r k p d m (λ a. x.old-class a.same_class) in
      let after : (m : ℕ) → own_entry h then k m p d ≡ false = λ m. not_named h then k p d m (λ a. x.new-class (rw now-held at a.same_class)) in
      record {
        others = λ l m j n n'. stays l m j n;
        beside = entered-beside r k o p d s u dl;
        fresh = rw now-held x.fresh;
        unmapped = rw now-held x.unmapped;
        entry-ok = rw (now-held, entered-used r k o p d s u dl) (x.entry-after then);
        own-object = λ l. absurd (omega arith);
        serial-grown = rw (object-stays i serial) (omega arith);
        steady = λ a. same-steady h r then k i (object-stays i);
        old-names = λ m n. before m;
        new-names = λ m n. after m;
        holders-follow = rw (before i, after i, object-stays i (holders k)) refl;
      }

  pub entry-alone : Keeps h r (entered k p d s u)
  entry-alone = record {
    valid = all_valid h process p pl (entered-in r k o p d s u dl);
    fine = entry-changed h r then w k o p d (slots h k) pl alive dl alone;
    grown = entry-grown h r then w k o p d (slots h k) pl alive dl alone;
  }
