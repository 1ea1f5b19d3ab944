-- `mask_clash` meets its contract: what is left to look at from here on decides.
use mathlib.Core.Path.{refl, sym, ◌∙◌}
use Rattle.marks.proofs.Steps.{met-zero, met-turn, met-hit, met-past}
use native.Mathlib.Omega.{arith}
use Rattle.marks.proofs.mask_clash.Goals as goal

pub loop-d-init : goal.loop-d-init
loop-d-init c = (omega arith, refl)

pub returns-then-x-eq0 : goal.returns-then-x-eq0
returns-then-x-eq0 c = sym (sym c.loop-d.invariant.1 ∙ met-zero _ _ _ _ _ _ _ (omega arith))

pub returns-then-bit_clash : goal.returns-then-bit_clash
returns-then-bit_clash c =
    sym (sym c.loop-d.invariant.1 ∙ met-hit _ _ _ _ _ _ _ (omega arith) (sym c.bit_clash.ensures ∙ c.if-bit_clash.true))

pub loop-d-preserved : goal.loop-d-preserved
loop-d-preserved c =
    (omega arith, sym (met-turn _ _ _ _ _ _ _ _ (omega arith) (sym c.bit_clash.ensures ∙ c.if-bit_clash.false)) ∙ c.loop-d.invariant.1)

pub returns : goal.returns
returns c = sym (sym c.loop-d.invariant.1 ∙ met-past _ _ _ _ _ _ _ (omega arith))
