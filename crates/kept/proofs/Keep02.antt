-- Call 2, release process, keeps tables well formed.
use mathlib.Core.Path.{◌≡◌, refl, sym, ◌∙◌}
use mathlib.Core.Bool.{Bool, true, false, cond}
use mathlib.Core.List.{List, [], ◌++◌}
use Prim.Native.Nat.{ℕ, zero, suc, ◌≤◌, ◌<◌}
use native.Mathlib.Omega.{arith}
use native.Mathlib.Nat.{not-suc-le-zero}
use lib.Dec.{eqb}
use borrow.Author.Tests.{eqb-true, eqb-false}
use Rattle.rules.specs.Layout.{Kind, process, segment, file, slots, Addr, at, live, queue, entries, held_at, used_at, pages_at}
use Rattle.rules.specs.Seid.{index_of, or_self}
use Rattle.rules.specs.Rule.{Word, over}
use Rattle.rules.specs.Find.{given_up, freed}
use Rattle.rules.specs.Call02.{dropped, dropped_to, released, release_process}
use Rattle.laws.proofs.Written.{over-append}
use Rattle.laws.proofs.Object.{Object}
use Rattle.kept.proofs.Fine.{Fine}
use Rattle.laws.proofs.Refusals.{clear}
use Rattle.kept.proofs.Records.{by-slot, elsewhere, freed-in, freed-serial, freed-word}
use Rattle.kept.proofs.Made.{placed, place-apart, freed-record}
use Rattle.kept.proofs.Keeps.{Keeps, KeptBy, Caller, keeps-none, keeps_then, keeps-process}
use Rattle.kept.proofs.Found.{found}
use Rattle.kept.proofs.Entries.{empty-entry, given-up, given-held, given-beside}

-- what giving up entries of kind k leaves of process q: those of the set D are empty, and no other word is touched but pages
record Dropped (h : List ℕ) (r : Addr → ℕ) (k : Kind) (q : ℕ) (D : ℕ → Type 0) (ws : List Word) : Type 0 where
  keeps : Keeps h r ws
  gone : (d : ℕ) → D d → over r ws (at process q (held_at k d)) ≡ 0
  beside : (j : ℕ) → j < pages_at → ((d : ℕ) → D d → (j ≡ held_at k d → ⊥) × (j ≡ used_at k d → ⊥)) → over r ws (at process q j) ≡ r (at process q j)

-- one entry
module _ (h : List ℕ) (r : Addr → ℕ) (w : Fine h r) (k : Kind) (o : Object k) (q : ℕ) (ql : q < slots h process) (lives : r (at process q live) ≡ 1) (d : ℕ)
    (dl : d < entries) where
  drop-if : (b : Bool) → eqb (r (at process q (held_at k d))) 0 ≡ b
      → Dropped h r k q (λ e. e ≡ d) (cond b [] (given_up h r k q d (r (at process q (held_at k d)))))
  unfolding over
  drop-if true e = record { keeps = keeps-none h r w; gone = λ g gd. rw gd (eqb-true _ 0 e); beside = λ j l n. refl }
  drop-if false e =
      let some = eqb-false (r (at process q (held_at k d))) 0 e in
      record {
        keeps = given-up h r w q ql lives k o d dl some;
        gone = λ g gd. rw gd (given-held h r w q ql lives k o d dl some);
        beside = λ j l n. given-beside h r w q ql lives k o d dl some j l (n d refl).0 (n d refl).1;
      }

  drop : Dropped h r k q (λ e. e ≡ d) (dropped h r k q d)
  unfolding dropped
  drop = drop-if (eqb (r (at process q (held_at k d))) 0) refl

-- the first n entries
module _ (h : List ℕ) (r : Addr → ℕ) (w : Fine h r) (k : Kind) (o : Object k) (q : ℕ) (ql : q < slots h process) (lives : r (at process q live) ≡ 1) where
  drop_more : (n : ℕ) (ws vs : List Word) → n < entries → Dropped h r k q (λ d. d < n) ws → Dropped h (over r ws) k q (λ d. d ≡ n) vs
      → Dropped h r k q (λ d. d < suc n) (ws ++ vs)
  drop_more n ws vs l a b = record {
    keeps = keeps_then h r ws vs a.keeps b.keeps;
    gone = λ d dl. rw (over-append r ws vs) (by-slot (λ d. d < suc n → over (over r ws) vs (at process q (held_at k d)) ≡ 0) n (λ x. b.gone n refl)
        (λ d ne x. b.beside (held_at k d) (let y = placed k o d (omega arith) in omega arith)
        (λ e en. let y = placed k o d (omega arith) in let z = placed k o e (omega arith) in (
          λ f. place-apart k k o o d e (omega arith) (omega arith) (λ h g. ne (g ∙ en)) (omega arith),
          λ f. omega arith,
        )) ∙ a.gone d (omega arith)) d dl);
    beside = λ j l f. rw (over-append r ws vs) (b.beside j l (λ d e. f d (omega arith)) ∙ a.beside j l (λ d e. f d (omega arith)));
  }

  drop-to : (n : ℕ) → n ≤ entries → Dropped h r k q (λ d. d < n) (dropped_to h r k q n)
  unfolding dropped_to over
  drop-to zero l = record { keeps = keeps-none h r w; gone = λ d x. absurd (not-suc-le-zero x); beside = λ j l f. refl }
  drop-to (suc n) l =
      let a = drop-to n (omega arith) in
      let ws : List Word = dropped_to h r k q n in
      let stays : over r ws (at process q live) ≡ r (at process q live) =
      a.beside live (omega arith) (λ d dl. let x = placed k o d (omega arith) in (λ e. omega arith, λ e. omega arith)) in
      drop_more n ws (dropped h (over r ws) k q n) l a (drop h (over r ws) a.keeps.fine k o q ql (stays ∙ lives) n l)

-- a process that holds nothing is cleared
module _ (h : List ℕ) (r : Addr → ℕ) (w : Fine h r) (q : ℕ) (ql : q < slots h process)
    (empty : (k : Kind) → Object k → (d : ℕ) → d < entries → r (at process q (held_at k d)) ≡ 0) where
  clears : Keeps h r (freed process q)
  clears =
      let in-it = freed-in process q in
      let z = freed-word process q r in
      let s = freed-serial process q r in
      keeps-process h r w q ql in-it (record {
        others = elsewhere process q in-it r;
        own-process = freed-record r process q _ (w.own process q ql).serial-fits;
        serial-grown = omega arith;
        same-held = λ k o d l. let x = placed k o d l in z (held_at k d) (omega arith) (λ e. omega arith) ∙ sym (empty k o d l);
        entry-ok = λ k o d l. let x = placed k o d l in rw (empty k o d l, z (used_at k d) (omega arith) (λ e. omega arith)) (empty-entry h r k _);
        sender-ok = λ m l. absurd (omega (arith, z queue (omega arith) (λ e. omega arith)));
      })

-- both kinds given up
none : (h : List ℕ) (r : Addr → ℕ) (q : ℕ) {files : List Word} (segments : List Word) → Dropped h r file q (λ d. d < entries) files
    → Dropped h (over r files) segment q (λ d. d < entries) segments → (k : Kind) → Object k → (d : ℕ) → d < entries
    → over (over r files) segments (at process q (held_at k d)) ≡ 0
none h r q segments a b process o d l = absurd o
none h r q segments a b segment o d l = b.gone d l
none h r q segments a b file o d l = b.beside (held_at file d) (omega arith) (λ e el. (λ f. omega arith, λ f. omega arith)) ∙ a.gone d l

release : (h : List ℕ) (r : Addr → ℕ) → Fine h r → (q : ℕ) → q < slots h process → r (at process q live) ≡ 1 → Keeps h r (released h r q)
unfolding released
release h r w q ql lives =
    let files : List Word = dropped_to h r file q entries in
    let a = drop-to h r w file tt q ql lives entries (omega arith) in
    let r' : Addr → ℕ = over r files in
    let stays : r' (at process q live) ≡ r (at process q live) = a.beside live (omega arith) (λ d dl. (λ e. omega arith, λ e. omega arith)) in
    let b = drop-to h r' a.keeps.fine segment tt q ql (stays ∙ lives) entries (omega arith) in
    let segments : List Word = dropped_to h r' segment q entries in
    keeps_then h r files (segments ++ freed process q) a.keeps (keeps_then h r' segments (freed process q) b.keeps
    (clears h (over r' segments) b.keeps.fine q ql (none h r q segments a b)))

pub keeps : (h : List ℕ) (r : Addr → ℕ) (p : ℕ) → Caller h r p → (a : ℕ) (buffer : List ℕ) → KeptBy h r (release_process h r p a buffer)
unfolding release_process
keeps h r p me a buffer e =
    let ok = clear (release_process h r p a buffer).refusals refl e in
    let f = found h r process (or_self r p a) ok.0 ok.1.1.0 in
    release h r me.fine (index_of (or_self r p a)) f.parts.index_in f.here.is_live
