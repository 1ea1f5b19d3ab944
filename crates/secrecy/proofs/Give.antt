-- An entry given up with its pages, an object freed: the writes stay in the own cell, and are the same in both readings.
use mathlib.Core.Path.{◌≡◌, refl}
use mathlib.Core.Bool.{Bool, true, false, ◌&&◌}
use mathlib.Core.List.{List}
use Prim.Native.Nat.{ℕ, ◌+◌, ◌-◌, ◌≤◌, ◌<◌}
use native.Mathlib.Omega.{arith}
use lib.Dec.{ltb, leb}
use borrow.Author.Tests.{eqb-true, leb-false, lt-ltb}
use Rattle.rules.specs.Layout.{Kind, process, segment, file, record_words, slots, cell_of, Addr, at, live, entries, pages, page_at, links, holders}
use Rattle.rules.specs.Seid.{class, index_of, formed}
use Rattle.rules.specs.Find.{in_own_cell, freed, zeros, kept, one_less, page_left, pages_set, pages_cleared, emptied, given_up}
use Rattle.laws.proofs.Tests.{split, and_left, and_right}
use Rattle.laws.proofs.Seids.{is-formed}
use Rattle.laws.proofs.Object.{Object}
use Rattle.laws.proofs.Written.{nil, also, all-if, all_append, all-tab}
use Rattle.secrecy.proofs.Lists.{tab-same}
use Rattle.secrecy.proofs.Shown.{Ups}
use Rattle.secrecy.proofs.View.{common, Here, View, up-own, up-me, same-me, up-held, up-used, same-below, own-flows}

holders-fit : (k : Kind) → Object k → ltb (holders k) (record_words k) ≡ true
holders-fit process e = absurd e
holders-fit segment e = refl
holders-fit file e = refl

-- the entry holds an object of the own cell
own_in : (h : List ℕ) (p : ℕ) (k : Kind) (s : ℕ) → formed h k s && in_own_cell h p k s ≡ true → index_of s < slots h k
own_in h p k s e = (is-formed (class k) (slots h k) s (and_left (formed h k s) (in_own_cell h p k s) e)).index_in

own_is : (h : List ℕ) (p : ℕ) (k : Kind) (s : ℕ) → formed h k s && in_own_cell h p k s ≡ true → cell_of h k (index_of s) ≡ cell_of h process p
own_is h p k s e = eqb-true _ _ (and_right (formed h k s) (in_own_cell h p k s) e)

module _ {h : List ℕ} {p : ℕ} {r : Addr → ℕ} (v : Here h p r) where
  pub up-zeros : (k : Kind) (i j n : ℕ) → i < slots h k → cell_of h k i ≡ cell_of h process p → j + n ≤ record_words k → Ups h (cell_of h process p) (zeros k i j n)
  unfolding zeros
  up-zeros k i j n l e m = all-tab _ j n _ (λ w lo hi. up-own v k i w l (lt-ltb w (record_words k) (omega arith)) e)

  pub up-freed : (k : Kind) (i : ℕ) → i < slots h k → cell_of h k i ≡ cell_of h process p → Ups h (cell_of h process p) (freed k i)
  up-freed k i l e = also (up-own v k i live l (common k live refl) e) (up-zeros k i 2 (record_words k - 2) l e (two k))
    where
      two : (k : Kind) → 2 + (record_words k - 2) ≤ record_words k
      two process = omega arith
      two segment = omega arith
      two file = omega arith

  -- the pages
  pub up-pages : (f : ℕ → ℕ) → Ups h (cell_of h process p) (pages_set p f)
  unfolding pages_set
  up-pages f = all-tab _ 0 pages _ (λ g lo hi. up-me v (page_at g) (lt-ltb (page_at g) (record_words process) (omega arith)))

  up-cleared : (k : Kind) (d : ℕ) → Ups h (cell_of h process p) (pages_cleared r k p d)
  up-cleared process d = nil
  up-cleared segment d = up-pages (page_left r p d)
  up-cleared file d = nil

  up-emptied : (k : Kind) (d s : ℕ) → Object k → leb entries d ≡ false → Ups h (cell_of h process p) (emptied h r k p d s)
  unfolding emptied one_less
  up-emptied k d s e m = search (also, nil, all-if, own_in, own_is, up-held v, up-used v, up-own v, up-freed, holders-fit) depth 8

  pub up-given : (k : Kind) (d s : ℕ) → Object k → leb entries d ≡ false → Ups h (cell_of h process p) (given_up h r k p d s)
  unfolding given_up
  up-given k d s e m = all_append _ (up-cleared k d) (up-emptied k d s e m)

module _ {h : List ℕ} {p : ℕ} {C : ℕ → Bool} {r q : Addr → ℕ} (v : View h p C r q) where
  same_kept : (k : Kind) (i : ℕ) → i < slots h k → cell_of h k i ≡ cell_of h process p → kept q k i ≡ kept r k i
  same_kept process i l e = refl
  same_kept segment i l e = refl
  same_kept file i l e = rw (same-below v file i links l refl (own-flows v.here (cell_of h file i) e))

  same-less : (k : Kind) (i : ℕ) → Object k → i < slots h k → cell_of h k i ≡ cell_of h process p → one_less q k i ≡ one_less r k i
  unfolding one_less
  same-less k i o l e = rw (same_kept k i l e, same-below v k i (holders k) l (holders-fit k o) (own-flows v.here (cell_of h k i) e))

  pub same-page : (g : ℕ) → g < pages → q (at process p (page_at g)) ≡ r (at process p (page_at g))
  same-page g l = same-me v (page_at g) (lt-ltb (page_at g) (record_words process) (omega arith))

  -- as a test that was passed says it
  pub page-seen : (g : ℕ) → leb pages g ≡ false → q (at process p (page_at g)) ≡ r (at process p (page_at g))
  page-seen g l = same-page g (leb-false pages g l)

  pub same_left : (d g : ℕ) → g < pages → page_left q p d g ≡ page_left r p d g
  unfolding page_left
  same_left d g l = rw (same-page g l)

  pub same-pages : (f f' : ℕ → ℕ) → ((g : ℕ) → g < pages → f g ≡ f' g) → pages_set p f ≡ pages_set p f'
  unfolding pages_set
  same-pages f f' e = tab-same 0 pages _ _ (λ g lo hi. rw (e g hi))

  same-cleared : (k : Kind) (d : ℕ) → pages_cleared q k p d ≡ pages_cleared r k p d
  same-cleared process d = refl
  same-cleared segment d = same-pages (page_left q p d) (page_left r p d) (same_left d)
  same-cleared file d = refl

  same-emptied : (k : Kind) (d s : ℕ) → Object k → emptied h q k p d s ≡ emptied h r k p d s
  unfolding emptied
  same-emptied k d s o = split _ (formed h k s && in_own_cell h p k s)
      (λ e. rw (same-less k (index_of s) o (own_in h p k s e) (own_is h p k s e)))
      (λ e. rw e)

  pub same-given : (k : Kind) (d s : ℕ) → Object k → given_up h q k p d s ≡ given_up h r k p d s
  unfolding given_up
  same-given k d s o = rw (same-cleared k d, same-emptied k d s o)
