-- How many descriptors of a cell hold a seid: of a file its opens say it, and of anything there are no more than descriptors.
use mathlib.Core.Path.{◌≡◌, refl, sym, ap, ◌∙◌}
use mathlib.Core.Bool.{Bool, true, false, cond}
use mathlib.Core.List.{List}
use Prim.Native.Nat.{ℕ, zero, suc, ◌+◌, ◌*◌, ◌≤◌, ◌<◌}
use native.Mathlib.Omega.{arith}
use lib.Dec.{eqb}
use borrow.Author.Tests.{eqb-true, eq-eqb}
use Rattle.rules.specs.Words.{sum_below, count_below}
use Rattle.rules.specs.Layout.{max_slots, process, file, configuration, slots, cell_slots, first_slot, cell_of, at, entries, held_at, opens}
use Rattle.rules.specs.Seid.{class, class_of, index_of, is_seid}
use Rattle.rules.specs.WellFormed.{own_entry, own_entries}
use Rattle.laws.proofs.Tests.{and_both}
use Rattle.laws.proofs.Below.{sum-le, sum-grows, count-le}
use Rattle.laws.proofs.Seids.{Formed, is-formed}
use Rattle.laws.proofs.Cells.{cell-run}
use Rattle.laws.proofs.Shape.{opens-counted}
use Rattle.layout.specs.declared.Header.{Header}
use Rattle.calls.specs.World.{Sound, words_of, holds_at, holders_among}
use Rattle.calls.specs.declared.Caller.{Caller}
use Rattle.calls.proofs.Worlds.{shape, cells_is}
use Rattle.calls.proofs.Searches.{home-in, run-slots}

sum-within : (n : ℕ) (f g : ℕ → ℕ) → ((k : ℕ) → k < n → f k ≤ g k) → sum_below n f ≤ sum_below n g
unfolding sum_below
sum-within zero f g h = omega arith
sum-within (suc n) f g h = omega (arith, sum-within n f g (λ k l. h k (omega arith)), h n (omega arith))

one-within : (a b : Bool) → (a ≡ true → b ≡ true) → cond a 1 0 ≤ cond b 1 0
one-within false b h = omega arith
one-within true b h = rw (h refl) (omega arith)

count-within : (n : ℕ) (f g : ℕ → Bool) → ((k : ℕ) → f k ≡ true → g k ≡ true) → count_below n f ≤ count_below n g
unfolding count_below
count-within n f g h = sum-within n _ _ (λ k l. one-within (f k) (g k) (h k))

-- a run is part of the whole
sum-shift : (f : ℕ → ℕ) (from m : ℕ) → sum_below from f + sum_below m (λ i. f (from + i)) ≡ sum_below (from + m) f
unfolding sum_below
sum-shift f from zero = let e : from + 0 ≡ from = omega arith in rw e (omega arith)
sum-shift f from (suc m) = let e : from + suc m ≡ suc (from + m) = omega arith in rw e (omega (arith, sum-shift f from m))

sum-run : (f : ℕ → ℕ) (from m n : ℕ) → from + m ≤ n → sum_below m (λ i. f (from + i)) ≤ sum_below n f
sum-run f from m n l = omega (arith, sum-shift f from m, sum-grows f (from + m) n l)

module _ {t : List ℕ} {n : Header} {c : Caller} (sound : Sound t n c) (s : ℕ) where
  abbrev from : ℕ
  from = first_slot (configuration t) process c.cell

  abbrev many : ℕ
  many = cell_slots (configuration t) process c.cell

  run_in : from + many ≤ slots (configuration t) process
  run_in = run-slots sound.known process c.cell (home-in sound) refl refl

  home : (k : ℕ) → k < many → cell_of (configuration t) process (from + k) ≡ c.cell
  home k l = cell-run (configuration t) process (from + k) c.cell (omega (arith, home-in sound, cells_is sound.known)) (omega arith) (omega arith)

  -- a descriptor of the cell that holds its file is one that the file's opens count
  counted : (q d : ℕ) → Formed (class file) (slots (configuration t) file) s → cell_of (configuration t) file (index_of s) ≡ cell_of (configuration t) process q
      → holds_at t s q d ≡ true → own_entry (configuration t) (words_of t) file (index_of s) q d ≡ true
  unfolding holds_at own_entry
  counted q d f own e =
      let held = eqb-true _ s e in
      and_both (eqb (cell_of (configuration t) file (index_of s)) (cell_of (configuration t) process q)) _ (eq-eqb _ _ own)
      (and_both (eqb (class_of (words_of t (at process q (held_at file d)))) (class file)) _ (eq-eqb _ _ (ap class_of held ∙ f.class-is)) (eq-eqb _ _ (ap index_of held)))

  pub holders-counted : is_seid (class file) (slots (configuration t) file) s ≡ true → cell_of (configuration t) file (index_of s) ≡ c.cell
      → holders_among t from many s ≤ words_of t (at file (index_of s) opens)
  unfolding holders_among own_entries
  holders-counted form own =
      let f = is-formed (class file) (slots (configuration t) file) s form in
      let in-process : ℕ → ℕ = λ q. count_below entries (own_entry (configuration t) (words_of t) file (index_of s) q) in
      omega (
        arith,
        opens-counted (configuration t) (words_of t) sound.records (index_of s) f.index_in,
        sum-run in-process from many (slots (configuration t) process) run_in,
        sum-within many (λ i. count_below entries (holds_at t s (from + i))) (λ i. in-process (from + i)) (λ i l.
            count-within entries (holds_at t s (from + i)) (own_entry (configuration t) (words_of t) file (index_of s) (from + i)) (λ d. counted (from + i) d f (own ∙ sym (home i l)))),
      )

  -- and whatever s is, no more than there are descriptors
  pub holders-few : holders_among t from many s ≤ entries * max_slots
  unfolding holders_among
  holders-few =
      omega (
        arith,
        sum-le many (λ i. count_below entries (holds_at t s (from + i))) entries (λ i l. count-le entries (holds_at t s (from + i))),
        run_in,
        (shape sound.known).few process,
      )
