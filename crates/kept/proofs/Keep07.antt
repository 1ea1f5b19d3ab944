-- Call 7, create file, keeps tables well formed: its subtype, if it gets one, is of the caller's cell.
use mathlib.Core.Path.{◌≡◌, refl, sym, ◌∙◌}
use mathlib.Core.Bool.{Bool, false, ◌&&◌, not}
use mathlib.Core.List.{List}
use Prim.Native.Nat.{ℕ, ◌-◌, ◌<◌}
use native.Mathlib.Omega.{arith}
use lib.Dec.{eqb}
use borrow.Author.Tests.{ltb-false, eqb-true}
use Rattle.rules.specs.Claim.{Holds}
use Rattle.rules.specs.Layout.{max_bits, process, file, cell_of, subtype_cell, Addr, entries}
use Rattle.rules.specs.Seid.{index_of}
use Rattle.rules.specs.Modes.{reads, writes}
use Rattle.rules.specs.WellFormed.{file_subtype_ok}
use Rattle.rules.specs.Find.{free_slot, free_entry}
use Rattle.rules.specs.Subtype.{held_by, modes_by, no_subtype}
use Rattle.rules.specs.Call07.{create, unfit, subtype_for}
use Rattle.laws.proofs.Tests.{passed, or_left, cond_both}
use Rattle.laws.proofs.Subtypes.{names-one, unsubtyped}
use Rattle.laws.proofs.Refusals.{clear}
use Rattle.kept.proofs.Keeps.{KeptBy, Caller}
use Rattle.kept.proofs.Found.{own-slot, free-entry}
use Rattle.kept.proofs.Created.{created}

-- the subtype that c names is of the caller's cell
own-subtype : (h : List ℕ) (r : Addr → ℕ) (p c : ℕ) → unfit h r p c ≡ false → subtype_cell h (index_of (held_by r p c)) ≡ cell_of h process p
unfolding unfit
own-subtype h r p c e = eqb-true _ _ (passed _ (or_left (not (eqb (subtype_cell h (index_of (held_by r p c))) (cell_of h process p)))
    (not (reads (modes_by r p c) && writes (modes_by r p c))) e))

-- a test that is asked where c isn't 0
asked : (c : ℕ) (b : Bool) → eqb c 0 ≡ false → not (eqb c 0) && b ≡ false → b ≡ false
asked c b n e = rw n at e

module _ (h : List ℕ) (r : Addr → ℕ) (p c f : ℕ) (me : Caller h r p) (cell : cell_of h file f ≡ cell_of h process p)
    (named : not (eqb c 0) && no_subtype r p c ≡ false) (fit : not (eqb c 0) && unfit h r p c ≡ false) where
  subtype-ok : Holds (file_subtype_ok h f (subtype_for r p c))
  unfolding file_subtype_ok subtype_for
  subtype-ok = cond_both (λ s. Holds (file_subtype_ok h f s)) (eqb c 0) 0 (held_by r p c)
      (λ z. unsubtyped h f 0 refl)
      (λ n some.
      let x = names-one r p c (asked c (no_subtype r p c) n named) in
      let dl : c - 1 < entries = omega (arith, x.some, x.in-record) in (
        ((me.fine.entry file tt p (c - 1) me.in-range dl).subtype x.holds-one).names,
        own-subtype h r p c (asked c (unfit h r p c) n fit) ∙ sym cell,
      ))

pub keeps : (h : List ℕ) (r : Addr → ℕ) (p : ℕ) → Caller h r p → (a b c : ℕ) (buffer : List ℕ) → KeptBy h r (create h r p a b c buffer)
unfolding create
keeps h r p me a b c buffer e =
    let ok = clear (create h r p a b c buffer).refusals refl e in
    let mine : ℕ = cell_of h process p in
    let slot = own-slot h r p me file ok.1.1.1.1.1.0 in
    created h r p me file tt (free_slot h r file mine) (free_entry r file p) b a 0 0 (subtype_for r p c)
    slot (free-entry r file p ok.1.1.1.1.0)
    (ltb-false max_bits a ok.0) (omega arith, omega arith) (subtype-ok h r p c _ me slot.in_cell ok.1.1.0 ok.1.1.1.0) (passed _ ok.1.0)
