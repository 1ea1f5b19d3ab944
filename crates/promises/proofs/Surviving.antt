-- Entries given up, and a process released that has any: an object that lives afterwards has every word that it had, but for the count of its holders.
use mathlib.Core.Path.{◌≡◌, sym, ap, ◌∙◌}
use mathlib.Core.Bool.{◌&&◌, not}
use mathlib.Core.List.{List, [], ◌∷◌, ◌++◌}
use Prim.Native.Nat.{ℕ, zero, suc, ◌-◌}
use native.Mathlib.Omega.{arith}
use lib.Dec.{eqb}
use Rattle.rules.specs.Layout.{Kind, process, segment, file, Addr, at, live, entries, held_at, used_at, holders}
use Rattle.rules.specs.Seid.{index_of, formed}
use Rattle.rules.specs.Rule.{Word, ◌≔◌, over}
use Rattle.rules.specs.Find.{in_own_cell, entered, freed, kept as stays_linked, one_less, pages_cleared, emptied, given_up}
use Rattle.rules.specs.Call02.{dropped, dropped_to, released}
use Rattle.laws.proofs.Tests.{cond_both}
use Rattle.laws.proofs.Shape.{words-some}
use Rattle.laws.proofs.Written.{AllOf, nil, also, all_map, over-append, over-miss}
use Rattle.laws.proofs.Object.{Object, no-process}
use Rattle.kept.proofs.Records.{InRecord, by-record, elsewhere, freed-in, freed-word}
use Rattle.kept.proofs.Made.{object-words}
use Rattle.kept.proofs.Pages.{pages-in}

-- object i of kind j, in two readings: where it lives in the second
module _ (j : Kind) (o : Object j) (i : ℕ) where
  abbrev pub Survives : (Addr → ℕ) → (Addr → ℕ) → Type 0
  Survives r q = q (at j i live) ≡ 1 → (n : ℕ) → (n ≡ holders j → ⊥) → q (at j i n) ≡ r (at j i n)

  past-live : live ≡ holders j → ⊥
  past-live e = omega (arith, e, (object-words j o).holders-at)

  survives-then : (r : Addr → ℕ) (ws vs : List Word) → Survives r (over r ws) → Survives (over r ws) (over (over r ws) vs) → Survives r (over r (ws ++ vs))
  survives-then r ws vs a b = rw (over-append r ws vs) (λ l n ne. b l n ne ∙ a (sym (b l live past-live) ∙ l) n ne)

  -- words that are none of its, but for its holders
  abbrev Spares : Word → Type 0
  Spares x = (n : ℕ) → (n ≡ holders j → ⊥) → at j i n ≡ x.at → ⊥

  pub survives-miss : (r : Addr → ℕ) {ws : List Word} → AllOf Spares ws → Survives r (over r ws)
  survives-miss r a l n ne = over-miss (at j i n) (all_map (λ x f. f n ne) a) r

  in-process : (p : ℕ) {ws : List Word} → AllOf (InRecord process p) ws → AllOf Spares ws
  in-process p a = all_map (λ x w n ne e. no-process j o (ap (λ (b : Addr). b.kind) e ∙ w.0)) a

  -- freed, it lives no more; another object is another record
  pub survives-freed : (r : Addr → ℕ) (k : Kind) (m : ℕ) → Survives r (over r (freed k m))
  survives-freed r = by-record (λ k m. Survives r (over r (freed k m))) j i
      (λ l. let w = words-some j in absurd (omega (arith, l, freed-word j i r live (omega arith) (λ z. omega arith))))
      (λ k m d l n ne. elsewhere k m (freed-in k m) r j i n (λ e f. d (sym e) (sym f)))

  -- (what is written may go by another reading than the one that it is written over)
  survives-less : (r q : Addr → ℕ) (k : Kind) (m : ℕ) → Survives r (over r (one_less q k m))
  unfolding one_less
  survives-less r q k m = cond_both (λ ws. Survives r (over r ws)) (eqb (q (at k m (holders k))) 1 && not (stays_linked q k m)) (freed k m)
      ((at k m (holders k) ≔ q (at k m (holders k)) - 1) ∷ [])
      (λ e. survives-freed r k m)
      (λ e. survives-miss r (also (λ n ne e. ne (ap (λ (b : Addr). b.word) e ∙ ap holders (sym (ap (λ (b : Addr). b.kind) e)))) nil))

  survives-entered : (r : Addr → ℕ) (k : Kind) (p d s u : ℕ) → Survives r (over r (entered k p d s u))
  survives-entered r k p d s u = survives-miss r (also (of-process (held_at k d)) (also (of-process (used_at k d)) nil))
    where
      of-process : (w n : ℕ) → (n ≡ holders j → ⊥) → at j i n ≡ at process p w → ⊥
      of-process w n ne e = no-process j o (ap (λ (b : Addr). b.kind) e)

  survives-cleared : (r q : Addr → ℕ) (k : Kind) (p d : ℕ) → Survives r (over r (pages_cleared q k p d))
  survives-cleared r q process p d = survives-miss r nil
  survives-cleared r q segment p d = survives-miss r (in-process p (pages-in p _))
  survives-cleared r q file p d = survives-miss r nil

  pub survives-given : (h : List ℕ) (r q : Addr → ℕ) (k : Kind) (p d s : ℕ) → Survives r (over r (given_up h q k p d s))
  unfolding given_up emptied
  survives-given h r q k p d s =
      let gone : List Word = pages_cleared q k p d in
      let r' : Addr → ℕ = over r gone in
      let r'' : Addr → ℕ = over r' (entered k p d 0 0) in
      survives-then r gone _ (survives-cleared r q k p d) (survives-then r' (entered k p d 0 0) _ (survives-entered r' k p d 0 0)
      (cond_both (λ ws. Survives r'' (over r'' ws)) (formed h k s && in_own_cell h p k s) (one_less q k (index_of s)) []
      (λ e. survives-less r'' q k (index_of s)) (λ e. survives-miss r'' nil)))

  survives-dropped : (h : List ℕ) (r : Addr → ℕ) (k : Kind) (p d : ℕ) → Survives r (over r (dropped h r k p d))
  unfolding dropped
  survives-dropped h r k p d = cond_both (λ ws. Survives r (over r ws)) (eqb (r (at process p (held_at k d))) 0) [] _
      (λ e. survives-miss r nil) (λ e. survives-given h r r k p d _)

  survives-to : (h : List ℕ) (r : Addr → ℕ) (k : Kind) (p n : ℕ) → Survives r (over r (dropped_to h r k p n))
  unfolding dropped_to
  survives-to h r k p zero = survives-miss r nil
  survives-to h r k p (suc n) = survives-then r (dropped_to h r k p n) _ (survives-to h r k p n) (survives-dropped h (over r (dropped_to h r k p n)) k p n)

  pub survives-released : (h : List ℕ) (r : Addr → ℕ) (p : ℕ) → Survives r (over r (released h r p))
  unfolding released
  survives-released h r p =
      let files : List Word = dropped_to h r file p entries in
      let r' : Addr → ℕ = over r files in
      let segments : List Word = dropped_to h r' segment p entries in
      survives-then r files _ (survives-to h r file p entries) (survives-then r' segments _ (survives-to h r' segment p entries)
      (survives-miss (over r' segments) (in-process p (freed-in process p))))
