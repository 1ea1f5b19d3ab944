-- `objects::kind_by` meets its contract: the class is a process's, or a segment's, or is taken for a file's.
use mathlib.Core.Path.{◌≡◌, sym, ◌∙◌}
use Prim.Native.Nat.{ℕ}
use native.Mathlib.Omega.{arith}
use borrow.Author.Tests.{eq-eqb, ne_eqb}
use Rattle.rules.specs.Layout.{process, segment, file}
use Rattle.rules.specs.Seid.{class, class_of}
use Rattle.laws.proofs.Tests.{cond-true, cond-false}
use Rattle.calls.specs.Seen.{kind_by}
use Rattle.calls.proofs.objects.kind_by.Goals as goal

module _ (s : ℕ) {n : ℕ} (class-is : n ≡ class_of s) where
  a-process : n ≡ class process → process ≡ kind_by s
  a-process e = sym (cond-true _ _ _ (eq-eqb (class_of s) (class process) (sym class-is ∙ e)))

  module _ (no-process : n ≡ class process → ⊥) where
    a-segment : n ≡ class segment → segment ≡ kind_by s
    a-segment e = sym (cond-false _ _ _ (ne_eqb (class_of s) (class process) (λ f. no-process (class-is ∙ f)))
        ∙ cond-true _ _ _ (eq-eqb (class_of s) (class segment) (sym class-is ∙ e)))

    else-file : (n ≡ class segment → ⊥) → file ≡ kind_by s
    else-file no-segment = sym (cond-false _ _ _ (ne_eqb (class_of s) (class process) (λ f. no-process (class-is ∙ f)))
        ∙ cond-false _ _ _ (ne_eqb (class_of s) (class segment) (λ f. no-segment (class-is ∙ f))))

pub returns-in-4 : goal.returns-in-4
returns-in-4 c = a-process _ c.class_of.ensures c.in-4.is

pub returns-in-5 : goal.returns-in-5
returns-in-5 c = a-segment _ c.class_of.ensures (λ e. omega (arith, c.in-5.is, e)) c.in-5.is

pub returns-in_default : goal.returns-in_default
returns-in_default c = else-file _ c.class_of.ensures (λ e. omega (arith, e)) (λ e. omega (arith, e))
