-- The search for a clash: no more descriptors of the cell hold the seid than are told, so that where as many were met none that is left clashes. A file's opens tell that.
use mathlib.Core.Path.{◌≡◌, refl, sym, ap, ◌∙◌}
use mathlib.Core.Bool.{Bool, true, false, cond}
use mathlib.Core.List.{List}
use Prim.Native.Nat.{ℕ, ◌+◌, ◌-◌, ◌*◌, ◌≤◌, ◌<◌}
use native.Mathlib.Omega.{arith}
use native.Mathlib.Decide.{ℕ_discrete, dec_lt}
use lib.Dec.{eqb}
use lib.ListN.{length}
use borrow.Author.Tests.{eqb-true, eq-eqb}
use Rattle.rules.specs.Words.{some_below, sum_below, count_below}
use Rattle.rules.specs.Layout.{process, file, configuration, slots, cell_slots, first_slot, at, entries, held_at, used_at}
use Rattle.rules.specs.Call08.{clashes_at}
use Rattle.laws.proofs.Tests.{and_left, both_ways, refuted}
use Rattle.laws.proofs.Below.{some-none, sum_more, sum-grows, count-more, count-some}
use Rattle.modes.specs.Clash.{clash_of}
use Rattle.layout.specs.declared.Header.{Header}
use Rattle.layout.specs.Header.{record_of}
use Rattle.calls.specs.declared.Caller.{Caller}
use Rattle.calls.specs.declared.entries.Entry.{Entry}
use Rattle.calls.specs.World.{Sound, words_of, holds_at, holders_among, Clashable}
use Rattle.calls.specs.Entries.{entry_of, entry_from}
use Rattle.calls.proofs.Names.{record-there}
use Rattle.calls.proofs.Given.{entry_read}
use Rattle.calls.proofs.Searches.{home-in, run-slots}
use Rattle.calls.proofs.FilesLaws.{clash-none, clash-held}

-- ---- rows of w entries, of which some are counted

count-grows : (f : ℕ → Bool) (n m : ℕ) → n ≤ m → count_below n f ≤ count_below m f
unfolding count_below
count-grows f n m l = sum-grows _ n m l

one_more : (n : ℕ) (f : ℕ → Bool) → f n ≡ true → count_below (n + 1) f ≡ count_below n f + 1
one_more n f e = count-more n f ∙ ap (λ (b : Bool). count_below n f + cond b 1 0) e

module _ (g : ℕ → ℕ → Bool) (w : ℕ) where
  -- so many of row q, and so many before entry d of it
  abbrev in_row : ℕ → ℕ
  in_row q = count_below w (g q)

  abbrev before : ℕ → ℕ → ℕ
  before q d = sum_below q in_row + count_below d (g q)

  -- where these are all that n rows have, none from there on is counted
  none_left : (n q d : ℕ) → sum_below n in_row ≤ before q d → d ≤ w → (k e : ℕ) → q ≤ k → k < n → (k ≡ q → d ≤ e) → e < w → g k e ≡ false
  none_left n q d all l k e a b c m = refuted (g k e) (λ t. elim (ℕ_discrete k q) [
    | yes z ↦
        let t' : g q e ≡ true = rw z at t in
        omega (
          arith,
          all,
          one_more e (g q) t',
          count-grows (g q) d e (c z),
          count-grows (g q) (e + 1) w (omega arith),
          sum_more q in_row,
          sum-grows in_row (q + 1) n (omega arith),
        )
    | no z ↦
        omega (
          arith,
          all,
          count-grows (g q) d w l,
          count-some w (g k) e m t,
          sum_more q in_row,
          sum_more k in_row,
          sum-grows in_row (q + 1) k (omega arith),
          sum-grows in_row (k + 1) n (omega arith),
        )
  ])

-- ---- the descriptors of m processes that hold s, from the process `from` on: from entry d of the p-th on there are at most so many

unfoldable pub Unmet : List ℕ → ℕ → ℕ → ℕ → ℕ → ℕ → ℕ → Type 0
Unmet t s from m left p d = holders_among t from m s ≤ left + before (λ i. holds_at t s (from + i)) entries p d

module _ (t : List ℕ) (s from m left : ℕ) where
  pub unmet-first : (p : ℕ) → holders_among t from m s ≤ left → Unmet t s from m left p 0
  unfolding Unmet
  unmet-first p l = omega arith

  -- the next entry, which holds another or this one
  unmet-other : (p d : ℕ) → Unmet t s from m left p d → Unmet t s from m left p (d + 1)
  unfolding Unmet
  unmet-other p d l = omega (arith, l, count-grows (holds_at t s (from + p)) d (d + 1) (omega arith))

  unmet-less : (p d : ℕ) → holds_at t s (from + p) d ≡ true → Unmet t s from m left p d → Unmet t s from m (left - 1) p (d + 1)
  unfolding Unmet
  unmet-less p d h l = omega (arith, l, one_more d (holds_at t s (from + p)) h)

  -- the next process
  pub unmet-next : (p d : ℕ) → d ≤ entries → Unmet t s from m left p d → Unmet t s from m left (p + 1) 0
  unfolding Unmet
  unmet-next p d h l =
      omega (arith, l, count-grows (holds_at t s (from + p)) d entries h, sum_more p (in_row (λ i. holds_at t s (from + i)) entries))

-- ---- the search in the processes of the caller's cell: from is the first, m how many there are

module _ {t : List ℕ} {n : Header} {c : Caller} (sound : Sound t n c) {s b most : ℕ} (good : Clashable t n c.cell s b most) {from m : ℕ} (fe : from ≡ first_slot (configuration t) process c.cell)
    (me : m ≡ cell_slots (configuration t) process c.cell) where
  pub begun : {left : ℕ} → left ≡ most → (p : ℕ) → Unmet t s from m left p 0
  begun {left} e p =
      let few : holders_among t from m s ≤ most = rw (fe, me) good.few in
      unmet-first t s from m left p (omega (arith, few))

  in_table : (k : ℕ) → k < m → from + k < slots (configuration t) process
  in_table k l = omega (arith, run-slots sound.known process c.cell (home-in sound) fe me)

  -- the descriptors of process p begin at a place: the table has them all, and what is read there is the entry
  module _ (p : ℕ) (lp : p < m) {first : ℕ} (there : first ≡ record_of n process (from + p) + held_at file 0) where
    pub all_there : first + 2 * entries ≤ length t
    all_there = omega (arith, there, record-there sound process (from + p) (used_at file (entries - 1)) (in_table p lp) (omega arith) refl)

    pub entry-there : (d : ℕ) {x : Entry} → x ≡ entry_from t first d → x ≡ entry_of (words_of t) file (from + p) d
    entry-there d e = e ∙ entry_read sound.known file (from + p) d refl (omega (arith, there)) refl refl

  holds : (k d : ℕ) → words_of t (at process (from + k) (held_at file d)) ≡ s → holds_at t s (from + k) d ≡ true
  unfolding holds_at
  holds k d e = eq-eqb _ s e

  -- x is entry d of process p, which does not clash: whether it holds the file or not, the search goes on
  module _ (p d : ℕ) (lp : p < m) (ld : d < entries) {x : Entry} (read : x ≡ entry_of (words_of t) file (from + p) d) (left : ℕ)
      (unmet : Unmet t s from m left p d) {next : ℕ} where
    pub past-other : (x.held ≡ s → ⊥) → next ≡ left → (clashes_at (words_of t) s b (from + p) d ≡ false) × Unmet t s from m next p (d + 1)
    past-other other e = (sym (clash-none good (from + p) d (in_table p lp) ld read other), rw e (unmet-other t s from m left p d unmet))

    pub past-held : x.held ≡ s → {y : Bool} → y ≡ clash_of x.used b → y ≡ false → next ≡ left - 1
        → (clashes_at (words_of t) s b (from + p) d ≡ false) × Unmet t s from m next p (d + 1)
    past-held held ye clear e = (
      sym (clash-held good (from + p) d (in_table p lp) ld read held ye) ∙ clear,
      rw e (unmet-less t s from m left p d (holds p d (sym (ap (λ (y : Entry). y.held) read) ∙ held)) unmet),
    )

  unheld : (k e : ℕ) → holds_at t s (from + k) e ≡ false → clashes_at (words_of t) s b (from + k) e ≡ false
  unfolding clashes_at
  unheld k e f =
      refuted (clashes_at (words_of t) s b (from + k) e)
      (λ x. both_ways (holds_at t s (from + k) e)
      (holds k e (eqb-true _ s (and_left (eqb (words_of t (at process (from + k) (held_at file e))) s) _ x))) f)

  -- before entry d of process p nothing clashed, and as many were met as are told
  module _ (p d : ℕ) (h : d ≤ entries) (left : ℕ) (unmet : Unmet t s from m left p d) (none : left ≡ 0) where
    none_more : (k e : ℕ) → p ≤ k → k < m → (k ≡ p → d ≤ e) → e < entries → clashes_at (words_of t) s b (from + k) e ≡ false
    unfolding Unmet holders_among
    none_more k e a l x y =
        unheld k e (none_left (λ i. holds_at t s (from + i)) entries m p d (omega (arith, unmet, none)) h k e a l x y)

    pub all-met : ((k : ℕ) → k < p → some_below entries (clashes_at (words_of t) s b (from + k)) ≡ false)
        → ((e : ℕ) → e < d → clashes_at (words_of t) s b (from + p) e ≡ false)
        → (k : ℕ) → k < m → some_below entries (clashes_at (words_of t) s b (from + k)) ≡ false
    all-met passed here k l = elim (dec_lt k p) [
      | yes a ↦ passed k a
      | no a ↦ some-none entries (clashes_at (words_of t) s b (from + k)) (λ e y. elim (dec_lt e d) [
        | yes z ↦ elim (ℕ_discrete k p) [
          | yes q ↦ rw q (here e z)
          | no q ↦ none_more k e (omega arith) l (λ r. absurd (q r)) y
        ]
        | no z ↦ none_more k e (omega arith) l (λ _. omega arith) y
      ])
    ]
