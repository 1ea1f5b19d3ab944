-- Call 2, release process, leaves the working slice right: it writes within the released process's cell, and of processes its own record alone.
use mathlib.Core.Path.{◌≡◌, refl, sym, ap, ◌∙◌}
use mathlib.Core.Bool.{◌&&◌}
use mathlib.Core.List.{List}
use Prim.Native.Nat.{ℕ, zero, suc}
use lib.Dec.{eqb}
use borrow.Author.Tests.{eqb-true}
use Rattle.rules.specs.Layout.{Kind, process, segment, file, cell_of, Addr, at, live, serial, entries, held_at, used_at, pages, page_at}
use Rattle.rules.specs.Seid.{index_of, or_self, formed}
use Rattle.rules.specs.Rule.{first_refusal, Word, ◌≔◌, over}
use Rattle.rules.specs.Find.{in_own_cell, page_left, pages_set, pages_cleared, emptied, given_up}
use Rattle.rules.specs.Call02.{dropped, dropped_to, released, release_process}
use Rattle.laws.proofs.Tests.{and_right, passed}
use Rattle.laws.proofs.Shape.{in-run}
use Rattle.laws.proofs.Written.{AllOf, nil, also, all_append, all-if, all_map, all-tab, over-miss}
use Rattle.laws.proofs.Object.{Object, no-process}
use Rattle.laws.proofs.Refusals.{clear}
use Rattle.kept.proofs.Records.{InRecord, freed-in}
use Rattle.kept.proofs.Entries.{less-in}
use Rattle.kept.proofs.Keeps.{Caller}
use Rattle.kept.proofs.Found.{found}
use Rattle.follow.specs.Right.{Right}
use Rattle.follow.specs.Followed.{after_release}
use Rattle.follow.proofs.Anew.{OneCell, anew-right}

module _ (h : List ℕ) (i : ℕ) where
  -- a write within the cell of process i, and of processes to i alone
  record Near (x : Word) : Type 0 where
    cell : cell_of h x.at.kind x.at.slot ≡ cell_of h process i
    itself : x.at.kind ≡ process → x.at.slot ≡ i

  near-itself : (j v : ℕ) → Near (at process i j ≔ v)
  near-itself j v = record { cell = refl; itself = λ e. refl }

  near-record : (x : Word) → InRecord process i x → Near x
  near-record x w = record { cell = rw (w.0, w.1); itself = λ e. w.1 }

  near-object : (k : Kind) → Object k → (j : ℕ) → cell_of h k j ≡ cell_of h process i → (x : Word) → InRecord k j x → Near x
  near-object k o j e x w = record { cell = rw (w.0, w.1) e; itself = λ z. absurd (no-process k o (sym w.0 ∙ z)) }

  -- one entry
  pages-near : (r : Addr → ℕ) (k : Kind) (d : ℕ) → AllOf Near (pages_cleared r k i d)
  unfolding pages_set
  pages-near r process d = nil
  pages-near r file d = nil
  pages-near r segment d = all-tab Near 0 pages (λ g. at process i (page_at g) ≔ page_left r i d g) (λ g lo hi. near-itself (page_at g) (page_left r i d g))

  given-near : (r : Addr → ℕ) (k : Kind) → Object k → (d s : ℕ) → AllOf Near (given_up h r k i d s)
  unfolding given_up emptied
  given-near r k o d s =
      all_append _ (pages-near r k d) (also (near-itself (held_at k d) 0) (also (near-itself (used_at k d) 0)
      (all-if Near (formed h k s && in_own_cell h i k s) _ _
      (λ e. all_map (near-object k o (index_of s) (eqb-true _ _ (and_right (formed h k s) (in_own_cell h i k s) e))) (less-in r k o (index_of s)))
      (λ e. nil))))

  dropped-near : (r : Addr → ℕ) (k : Kind) → Object k → (d : ℕ) → AllOf Near (dropped h r k i d)
  unfolding dropped
  dropped-near r k o d = all-if Near (eqb (r (at process i (held_at k d))) 0) _ _ (λ e. nil) (λ e. given-near r k o d (r (at process i (held_at k d))))

  all_near : (r : Addr → ℕ) (k : Kind) → Object k → (n : ℕ) → AllOf Near (dropped_to h r k i n)
  unfolding dropped_to
  all_near r k o zero = nil
  all_near r k o (suc n) = all_append _ (all_near r k o n) (dropped-near (over r (dropped_to h r k i n)) k o n)

  released-near : (r : Addr → ℕ) → AllOf Near (released h r i)
  unfolding released
  released-near r =
      let files : List Word = dropped_to h r file i entries in
      all_append _ (all_near r file tt entries) (all_append _ (all_near (over r files) segment tt entries) (all_map near-record (freed-in process i)))

  -- so nothing else changes
  near-cell : (r : Addr → ℕ) {ws : List Word} → AllOf Near ws → OneCell h r (over r ws) (cell_of h process i) i
  near-cell r a = record {
    lives = λ k j ne. over-miss (at k j live) (all_map (λ x w e. ne (inside k j live x e ∙ w.cell)) a) r;
    serials = λ k j ne. over-miss (at k j serial) (all_map (λ x w e. ne (inside k j serial x e ∙ w.cell)) a) r;
    held = λ o d l ne. over-miss (at process o (held_at file d)) (all_map (λ x w e.
        ne (ap (λ (b : Addr). b.slot) e ∙ w.itself (sym (ap (λ (b : Addr). b.kind) e)))) a) r;
  }
    where
      inside : (k : Kind) (j n : ℕ) (x : Word) → at k j n ≡ x.at → cell_of h k j ≡ cell_of h x.at.kind x.at.slot
      inside k j n x e = ap (λ (b : Addr). cell_of h b.kind b.slot) e

-- with the words of the rule written
pub follow-2 : (h : List ℕ) (r : Addr → ℕ) (w : List ℕ) (p : ℕ) → Caller h r p → (a : ℕ) (buffer : List ℕ) → first_refusal (release_process h r p a buffer).refusals ≡ 0
    → Right h r w
    → Right h (over r (release_process h r p a buffer).effects.words)
    (after_release h (over r (release_process h r p a buffer).effects.words) (cell_of h process p) (index_of (or_self r p a)) w)
unfolding release_process
follow-2 h r w p me a buffer e right =
    let i : ℕ = index_of (or_self r p a) in
    let ok = clear (release_process h r p a buffer).refusals refl e in
    let f = found h r process (or_self r p a) ok.0 ok.1.1.0 in
    let own : cell_of h process i ≡ cell_of h process p = eqb-true _ _ (passed (in_own_cell h p process (or_self r p a)) ok.1.0) in
    let run = in-run h me.shape process i f.parts.index_in in
    rw (← own) (anew-right h r (over r (released h r i)) (cell_of h process i) i run.0 run.1 run.2 (near-cell h i r (released-near h i r)) w right)
