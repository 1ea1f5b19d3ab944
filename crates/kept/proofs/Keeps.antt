-- Writes that keep a reading fine, and that let no serial fall.
use mathlib.Core.Path.{◌≡◌}
use mathlib.Core.List.{List, [], ◌++◌}
use Prim.Native.Nat.{ℕ, ◌<◌}
use native.Mathlib.Omega.{arith}
use Rattle.rules.specs.Layout.{Kind, process, slots, Addr, at, live}
use Rattle.rules.specs.Rule.{Word, over, Rule, first_refusal}
use Rattle.laws.proofs.Shape.{Shape}
use Rattle.laws.proofs.Written.{AllOf, nil, all_append, Valids, over-append}
use Rattle.laws.proofs.Object.{Object}
use Rattle.kept.proofs.Fine.{Fine}
use Rattle.kept.proofs.Records.{InRecord, all_valid}
use Rattle.kept.proofs.Readings.{Grown}
use Rattle.kept.proofs.OneProcess.{process-grown, ProcessChanged, process-changed}
use Rattle.kept.proofs.OneObject.{object-grown, object-changed, ObjectChanged}

pub record Keeps (h : List ℕ) (r : Addr → ℕ) (ws : List Word) : Type 0 where
  pub valid : Valids h ws
  pub fine : Fine h (over r ws)
  pub grown : Grown h r (over r ws)

pub keeps-none : (h : List ℕ) (r : Addr → ℕ) → Fine h r → Keeps h r []
unfolding over
keeps-none h r w = record { valid = nil; fine = w; grown = λ k i l. omega arith }

pub keeps_then : (h : List ℕ) (r : Addr → ℕ) (ws vs : List Word) → Keeps h r ws → Keeps h (over r ws) vs → Keeps h r (ws ++ vs)
keeps_then h r ws vs a b = record {
  valid = all_append vs a.valid b.valid;
  fine = rw (over-append r ws vs) b.fine;
  grown = λ k i l. rw (over-append r ws vs) (omega (arith, a.grown k i l, b.grown k i l));
}

pub keeps-process : (h : List ℕ) (r : Addr → ℕ) {ws : List Word} → Fine h r → (p : ℕ) → p < slots h process → AllOf (InRecord process p) ws
    → ProcessChanged h r (over r ws) p → Keeps h r ws
keeps-process h r {ws} w p l a x =
    record { valid = all_valid h process p l a; fine = process-changed h r (over r ws) w p x; grown = process-grown h r (over r ws) w p x }

pub keeps-object : (h : List ℕ) (r : Addr → ℕ) {ws : List Word} → Fine h r → (k : Kind) → Object k → (i : ℕ) → i < slots h k → AllOf (InRecord k i) ws
    → ObjectChanged h r (over r ws) k i → Keeps h r ws
keeps-object h r {ws} w k o i l a x = record {
  valid = all_valid h k i l a;
  fine = object-changed h r (over r ws) w k o i l x;
  grown = object-grown h r (over r ws) w k o i l x;
}

-- ---- a call

-- a rule whose writes keep it so, if none of its refusals holds
abbrev pub KeptBy : List ℕ → (Addr → ℕ) → Rule → Type 0
KeptBy h r x = first_refusal x.refusals ≡ 0 → Keeps h r x.effects.words

-- the caller

pub record Caller (h : List ℕ) (r : Addr → ℕ) (p : ℕ) : Type 0 where
  pub shape : Shape h
  pub fine : Fine h r
  pub in-range : p < slots h process
  pub alive : r (at process p live) ≡ 1
