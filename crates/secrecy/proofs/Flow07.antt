-- Call 7 writes in its own cell and reads in its own cell; what it asks of a subtype stands in the configuration and in the caller's own descriptors.
use mathlib.Core.Path.{◌≡◌}
use mathlib.Core.Bool.{Bool, false, ◌&&◌, not}
use mathlib.Core.List.{List}
use Prim.Native.Nat.{ℕ}
use lib.Dec.{ltb, eqb}
use borrow.Author.Tests.{eqb-true}
use Rattle.rules.specs.Layout.{process, cell_of, Addr, entries}
use Rattle.rules.specs.Subtype.{no_subtype}
use Rattle.rules.specs.Call07.{unfit, subtype_for, create}
use Rattle.laws.proofs.Tests.{split}
use Rattle.secrecy.proofs.Shown.{up-rules, alike-rules, WritesUp, Alike}
use Rattle.secrecy.proofs.View

pub up07 : {h : List ℕ} {p : ℕ} {r : Addr → ℕ} → View.Here h p r → (a b c : ℕ) (buffer : List ℕ) → WritesUp h (cell_of h process p) (create h r p a b c buffer)
unfolding create
up07 v a b c buffer = search (up-rules, View.up-own v, View.up-held v, View.up-used v, View.free_in v, View.free_own v) depth 24

-- past refusal 35, c is 0 or names a descriptor
within : (r : Addr → ℕ) (p c : ℕ) → not (eqb c 0) && no_subtype r p c ≡ false → ltb entries c ≡ false
within r p c e = split _ (eqb c 0) (λ z. rw (eqb-true c 0 z)) (λ n. View.names-within r p c (rw n at e))

module _ {h : List ℕ} {p : ℕ} {C : ℕ → Bool} {r q : Addr → ℕ} (v : View.View h p C r q) where
  same-unfit : (c : ℕ) → not (eqb c 0) && no_subtype r p c ≡ false → unfit h q p c ≡ unfit h r p c
  unfolding unfit
  same-unfit c e = rw (View.same_by v c (within r p c e), View.same-modes v c (within r p c e))

  same-for : (c : ℕ) → not (eqb c 0) && no_subtype r p c ≡ false → subtype_for q p c ≡ subtype_for r p c
  unfolding subtype_for
  same-for c e = rw (View.same_by v c (within r p c e))

pub alike07 : {h : List ℕ} {p : ℕ} {C : ℕ → Bool} {r q : Addr → ℕ} → View.View h p C r q → (a b c : ℕ) (buffer : List ℕ)
    → Alike h C (create h r p a b c buffer) (create h q p a b c buffer)
unfolding create
alike07 v a b c buffer =
    search (
      alike-rules,
      View.same-me v,
      View.same-below v,
      View.same-no-subtype v,
      same-unfit v,
      same-for v,
      View.same-free-slot v,
      View.same-free-entry v,
      View.free_in v.here,
      View.own-flows v.here,
      View.free_own v.here,
    ) depth 16
