-- How many own-cell entries name an object: when one entry changes, and what an entry's word adds to the count.
use mathlib.Core.Path.{◌≡◌, sym}
use mathlib.Core.Bool.{Bool, true, false, cond, ◌&&◌}
use mathlib.Core.List.{List}
use Prim.Native.Nat.{ℕ, ◌+◌, ◌≤◌, ◌<◌}
use native.Mathlib.Omega.{arith}
use lib.Dec.{eqb}
use borrow.Author.Tests.{eq-eqb, eqb-true}
use Rattle.rules.specs.Words.{count_below}
use Rattle.rules.specs.Layout.{Kind, process, slots, cell_of, Addr, at, entries, held_at}
use Rattle.rules.specs.Seid.{class, class_of, index_of}
use Rattle.rules.specs.WellFormed.{own_entry, own_entries}
use Rattle.laws.proofs.Tests.{and_left, and_right, refuted}
use Rattle.laws.proofs.Below.{sum_same, sum_one, count_same, count-one, term-le, count-some}
use Rattle.laws.proofs.Seids.{class-pos, class-some}

abbrev pub one : Bool → ℕ
one b = cond b 1 0

-- ---- what one entry adds

module _ (h : List ℕ) (r : Addr → ℕ) (k : Kind) (p d : ℕ) where
  abbrev pub held_by : ℕ
  held_by = r (at process p (held_at k d))

  -- the entry names the object of slot i, of the own cell
  pub record Names (i : ℕ) : Type 0 where
    pub same-cell : cell_of h k i ≡ cell_of h process p
    pub same_class : class_of held_by ≡ class k
    pub same_index : index_of held_by ≡ i

  is-named : (i : ℕ) → own_entry h r k i p d ≡ true → Names i
  unfolding own_entry
  is-named i e =
      let a = eqb (cell_of h k i) (cell_of h process p) in
      let b = eqb (class_of held_by) (class k) in
      let c = eqb (index_of held_by) i in
      record {
        same-cell = eqb-true _ _ (and_left a (b && c) e);
        same_class = eqb-true _ _ (and_left b c (and_right a (b && c) e));
        same_index = eqb-true _ _ (and_right b c (and_right a (b && c) e));
      }

  pub named-is : (i : ℕ) → Names i → own_entry h r k i p d ≡ true
  unfolding own_entry
  named-is i n = rw (eq-eqb _ _ n.same-cell, eq-eqb _ _ n.same_class, eq-eqb _ _ n.same_index)

  pub not_named : (i : ℕ) → (Names i → ⊥) → own_entry h r k i p d ≡ false
  not_named i n = refuted (own_entry h r k i p d) (λ e. n (is-named i e))

  -- an empty entry names nothing
  pub empty-named : (i : ℕ) → held_by ≡ 0 → own_entry h r k i p d ≡ false
  empty-named i z = not_named i (λ n. class-some held_by (class k) (class-pos k) n.same_class z)

-- ---- counts

module _ (h : List ℕ) (r : Addr → ℕ) (k : Kind) (i : ℕ) where
  -- what is named is counted
  pub named-counted : (p d : ℕ) → p < slots h process → d < entries → own_entry h r k i p d ≡ true → 1 ≤ own_entries h r k i
  unfolding own_entries
  named-counted p d pl dl e =
      omega (arith, term-le (slots h process) (λ p. count_below entries (own_entry h r k i p)) p pl, count-some entries (own_entry h r k i p) d dl e)

module _ (h : List ℕ) (r q : Addr → ℕ) (k : Kind) where
  own_same : (i p d : ℕ) → q (at process p (held_at k d)) ≡ r (at process p (held_at k d)) → own_entry h r k i p d ≡ own_entry h q k i p d
  unfolding own_entry
  own_same i p d e = rw e

  -- no entry changed
  pub count-all : ((p d : ℕ) → p < slots h process → d < entries → q (at process p (held_at k d)) ≡ r (at process p (held_at k d)))
      → (i : ℕ) → own_entries h q k i ≡ own_entries h r k i
  unfolding own_entries
  count-all same i = sym (sum_same _ _ _ (λ p pl. count_same entries _ _ (λ d dl. own_same i p d (same p d pl dl))))

  -- one entry changed
  pub count-entry : (p d : ℕ) → p < slots h process → d < entries
      → ((o e : ℕ) → o < slots h process → e < entries → (o ≡ p → e ≡ d → ⊥) → q (at process o (held_at k e)) ≡ r (at process o (held_at k e)))
      → (i : ℕ) → own_entries h q k i + one (own_entry h r k i p d) ≡ own_entries h r k i + one (own_entry h q k i p d)
  unfolding own_entries
  count-entry p d pl dl same i =
      omega (
        arith,
        sum_one (slots h process) (λ p. count_below entries (own_entry h r k i p)) (λ p. count_below entries (own_entry h q k i p)) p pl
            (λ o ol n. count_same entries _ _ (λ e el. own_same i o e (same o e ol el (λ x y. n x)))),
        count-one entries (own_entry h r k i p) (own_entry h q k i p) d dl (λ e el n. own_same i p e (same p e pl el (λ x y. n y))),
      )
