-- The pages of a live process written: each may hold nothing, or a filled entry.
use mathlib.Core.Path.{◌≡◌, refl, sym, ◌∙◌}
use mathlib.Core.Bool.{cond}
use mathlib.Core.List.{List}
use Prim.Native.Nat.{ℕ, zero, suc, ◌+◌, ◌≤◌, ◌<◌}
use native.Mathlib.Omega.{arith}
use native.Mathlib.Decide.{ℕ_discrete}
use lib.Dec.{eqb}
use borrow.Author.Tests.{eqb-false}
use Rattle.rules.specs.Words.{tab_from}
use Rattle.rules.specs.Layout.{Kind, process, segment, slots, Addr, at, live, serial, queue, entries, held_at, used_at, message_at, pages, pages_at, page_at, bits}
use Rattle.rules.specs.Rule.{Word, ◌≔◌, same_addr, over}
use Rattle.rules.specs.Find.{page_left, pages_set}
use Rattle.laws.proofs.Tests.{split, cond-true, cond-false}
use Rattle.laws.proofs.Written.{AllOf, nil, hit, miss}
use Rattle.laws.proofs.Object.{Object}
use Rattle.kept.proofs.Fine.{Paged, Fine}
use Rattle.kept.proofs.Records.{InRecord, word_in, apart-word, elsewhere}
use Rattle.kept.proofs.Made.{placed}
use Rattle.kept.proofs.Readings.{paged-same, live-process}
use Rattle.kept.proofs.Keeps.{Keeps, keeps-process}

-- ---- the words

module _ (p : ℕ) (f : ℕ → ℕ) where
  abbrev run : ℕ → ℕ → List Word
  run i n = tab_from i n (λ g. at process p (page_at g) ≔ f g)

  run_in : (i n : ℕ) → i + n ≤ pages → AllOf (InRecord process p) (run i n)
  unfolding tab_from
  run_in i zero l = nil
  run_in i (suc n) l = word_in process p (page_at i) (f i) (omega arith) (run_in (suc i) n (omega arith))

  run_past : (i n : ℕ) (r : Addr → ℕ) (j : ℕ) → (page_at i ≤ j → j < page_at (i + n) → ⊥) → over r (run i n) (at process p j) ≡ r (at process p j)
  unfolding tab_from over
  run_past i zero r j o = refl
  run_past i (suc n) r j o =
      run_past (suc i) n (λ b. cond (same_addr b (at process p (page_at i))) (f i) (r b)) j (λ x y. o (omega arith) (omega arith))
      ∙ miss (at process p j) (at process p (page_at i)) (f i) (r (at process p j)) (apart-word process p j (page_at i) (λ e. o (omega arith) (omega arith)))

  run_at : (i n : ℕ) (r : Addr → ℕ) (g : ℕ) → i ≤ g → g < i + n → over r (run i n) (at process p (page_at g)) ≡ f g
  unfolding tab_from over
  run_at i zero r g a b = absurd (omega arith)
  run_at i (suc n) r g a b = elim (ℕ_discrete g i) [
    | yes e ↦ rw e (run_past (suc i) n (λ b. cond (same_addr b (at process p (page_at i))) (f i) (r b)) (page_at i) (λ x y. omega arith)
        ∙ hit (at process p (page_at i)) (at process p (page_at i)) (f i) (r (at process p (page_at i))) refl)
    | no ne ↦ run_at (suc i) n (λ b. cond (same_addr b (at process p (page_at i))) (f i) (r b)) g (omega arith) (omega arith)
  ]

  pub pages-in : AllOf (InRecord process p) (pages_set p f)
  unfolding pages_set
  pages-in = run_in 0 pages (omega arith)

  pub pages-past : (r : Addr → ℕ) (j : ℕ) → j < pages_at → over r (pages_set p f) (at process p j) ≡ r (at process p j)
  unfolding pages_set
  pages-past r j l = run_past 0 pages r j (λ x y. omega arith)

  pub pages-at : (r : Addr → ℕ) (g : ℕ) → g < pages → over r (pages_set p f) (at process p (page_at g)) ≡ f g
  unfolding pages_set
  pages-at r g l = run_at 0 pages r g (omega arith) l

-- ---- a live process's

pub keeps-pages : (h : List ℕ) (r : Addr → ℕ) → Fine h r → (p : ℕ) → p < slots h process → r (at process p live) ≡ 1 → (f : ℕ → ℕ)
    → ((g : ℕ) → g < pages → Paged r p (f g)) → Keeps h r (pages_set p f)
keeps-pages h r w p l lives f ok =
    let mine = w.own process p l in
    let x = mine.alive lives in
    let q : Addr → ℕ = over r (pages_set p f) in
    let past : (j : ℕ) → j < pages_at → q (at process p j) ≡ r (at process p j) = pages-past p f r in
    let held : (k : Kind) → Object k → (d : ℕ) → d < entries → q (at process p (held_at k d)) ≡ r (at process p (held_at k d)) =
    λ k o d dl. let y = placed k o d dl in past (held_at k d) (omega arith) in
    keeps-process h r w p l (pages-in p f) (record {
      others = elsewhere process p (pages-in p f) r;
      own-process = live-process h r q p lives mine (λ j jl n m. past j (omega arith)) (rw (past queue (omega arith)) x.queue-fits)
          (rw (past (bits process) (omega arith)) x.bits_fit)
          (λ d e dl el. rw (held segment tt d dl, held segment tt e el) (x.once d e dl el))
          (λ m j ml jl full. past (message_at m j) (omega arith) ∙ x.unused m j ml jl (rw (past queue (omega arith)) at full))
          (λ g gl. rw (pages-at p f r g gl) (paged-same h r q p (f g) (held segment tt) (ok g gl)));
      serial-grown = rw (past serial (omega arith)) (omega arith);
      same-held = held;
      entry-ok = λ k o d dl. let y = placed k o d dl in rw (past (used_at k d) (omega arith)) (w.entry k o p d l dl);
      sender-ok = λ m ml. rw (past (message_at m 0) (omega (arith, x.queue-fits, past queue (omega arith)))) (w.sender p m l (rw (past queue (omega arith)) at ml));
    })

-- ---- what a designator that leaves leaves behind

pub left-page : (r : Addr → ℕ) (p d g : ℕ) → Paged r p (r (at process p (page_at g))) → Paged r p (page_left r p d g)
unfolding page_left
left-page r p d g x = split _ (eqb (r (at process p (page_at g))) (d + 1)) (λ e. rw e (λ n. absurd (n refl))) (λ e. rw e x)

pub left-gone : (r : Addr → ℕ) (p d g : ℕ) → page_left r p d g ≡ d + 1 → ⊥
unfolding page_left
left-gone r p d g e = split ⊥ (eqb (r (at process p (page_at g))) (d + 1))
    (λ t. omega (arith, cond-true (eqb (r (at process p (page_at g))) (d + 1)) 0 (r (at process p (page_at g))) t))
    (λ t. eqb-false (r (at process p (page_at g))) (d + 1) t (sym (cond-false (eqb (r (at process p (page_at g))) (d + 1)) 0 (r (at process p (page_at g))) t) ∙ e))
