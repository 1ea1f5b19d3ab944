-- Call 11, unlink, keeps tables well formed.
use mathlib.Core.Path.{◌≡◌, refl, sym, ◌∙◌}
use mathlib.Core.Bool.{false, ◌&&◌}
use mathlib.Core.List.{List, [], ◌∷◌}
use Prim.Native.Nat.{ℕ, ◌-◌, ◌≤◌}
use native.Mathlib.Omega.{arith}
use native.Mathlib.Decide.{ℕ_discrete}
use lib.Dec.{eqb}
use borrow.Author.Tests.{eqb-true, eqb-false, eq-eqb}
use Rattle.rules.specs.Layout.{file, Addr, at, links, opens}
use Rattle.rules.specs.Seid.{index_of, or_self}
use Rattle.rules.specs.Rule.{◌≔◌}
use Rattle.rules.specs.Find.{freed}
use Rattle.rules.specs.Call11.{unlink, unlinked}
use Rattle.laws.proofs.Tests.{passed, and_right, both_ways, cond_both}
use Rattle.laws.proofs.Refusals.{clear}
use Rattle.kept.proofs.Records.{elsewhere, freed-in, freed-serial, freed-word}
use Rattle.kept.proofs.Made.{freed-record}
use Rattle.kept.proofs.Keeps.{Keeps, KeptBy, Caller, keeps-object}
use Rattle.kept.proofs.Found.{Found, found}
use Rattle.kept.proofs.Objects.{alive-now, keeps-word}

module _ (h : List ℕ) (r : Addr → ℕ) (p : ℕ) (c : Caller h r p) (s : ℕ) (f : Found h r file s) where
  -- the last link of a file that nobody holds
  last : r (at file (index_of s) opens) ≡ 0 → Keeps h r (freed file (index_of s))
  last none =
      let i : ℕ = index_of s in
      let z = freed-word file i r in
      keeps-object h r c.fine file tt i f.parts.index_in (freed-in file i) (record {
        others = elsewhere file i (freed-in file i) r;
        own-object = freed-record r file i _ (c.fine.own file i f.parts.index_in).serial-fits;
        serial-grown = omega (arith, freed-serial file i r);
        same-holders = z opens (omega arith) (λ x. omega arith) ∙ sym none;
        steady = λ x. absurd (omega arith);
      })

  held_then : (n m : ℕ) → (n ≡ 0 → ⊥) → eqb n 1 && eqb m 0 ≡ false → n - 1 ≡ 0 → 1 ≤ m
  held_then n m some t z = elim (ℕ_discrete m 0) [ yes x ↦ both_ways (eqb n 1 && eqb m 0) (rw (eq-eqb n 1 (omega arith), eq-eqb m 0 x)) t | no x ↦ omega arith ]

  one_less : (r (at file (index_of s) links) ≡ 0 → ⊥) → Keeps h r (unlinked r (index_of s))
  unfolding unlinked
  one_less some =
      let i : ℕ = index_of s in
      let n : ℕ = r (at file i links) in
      let x = alive-now h r file tt i (c.fine.own file i f.parts.index_in) f.here.is_live in
      cond_both (Keeps h r) (eqb n 1 && eqb (r (at file i opens)) 0) (freed file i) ((at file i links ≔ n - 1) ∷ [])
      (λ t. last (eqb-true _ 0 (and_right (eqb n 1) (eqb (r (at file i opens)) 0) t)))
      (λ t. keeps-word h r c.fine file tt i f.parts.index_in f.here.is_live links (n - 1) (omega arith) (omega arith) (record {
        bits_fit = x.bits_fit;
        particular = (omega (arith, x.particular), x.particular.1);
        needed = λ z. held_then n (r (at file i opens)) some t (eqb-true (n - 1) 0 (passed _ z));
      }))

pub keeps : (h : List ℕ) (r : Addr → ℕ) (p : ℕ) → Caller h r p → (a : ℕ) (buffer : List ℕ) → KeptBy h r (unlink h r p a buffer)
unfolding unlink
keeps h r p c a buffer e =
    let s : ℕ = or_self r p a in
    let ok = clear (unlink h r p a buffer).refusals refl e in
    one_less h r p c s (found h r file s ok.0 ok.1.1.0) (eqb-false (r (at file (index_of s) links)) 0 ok.1.1.1.1.0)
