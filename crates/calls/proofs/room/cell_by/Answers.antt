-- `room::cell_by` meets its contract: of the cells passed, those before the slot's own end at or before the slot.
use native.Mathlib.Omega.{arith}
use mathlib.Core.Bool.{Bool, true, false, cond}
use mathlib.Core.Path.{◌≡◌, refl, ◌∙◌}
use Prim.Native.Nat.{ℕ}
use mir.Val.{bool_byte}
use Rattle.calls.proofs.Worlds.{passed_none, at-end, sum-small, further}
use Rattle.calls.proofs.room.cell_by.Goals as goal

-- a test as a number
counted : (b : Bool) → ◌≡◌ {A = ℕ} (bool_byte b) (cond b 1 0)
counted true = refl
counted false = refl

pub loop-c-init : goal.loop-c-init
loop-c-init c = passed_none _ _ _ _ c.requires.n_value.0

pub overflow_add-end-in-loop-c-2 : goal.overflow_add-end-in-loop-c-2
overflow_add-end-in-loop-c-2 c =
    omega (
      arith,
      sum-small c.requires.n_value.1 c.loop-c.invariant c.loop-c-test.true c.wide.ensures refl
          c.requires.n_value.2,
    )

pub loop-c-preserved : goal.loop-c-preserved
loop-c-preserved c =
    further c.requires.n_value.1 c.loop-c.invariant c.loop-c-test.true c.wide.ensures refl (c.from-cell.ensures ∙ counted _)

pub returns : goal.returns
returns c = at-end c.requires.n_value.1 c.loop-c.invariant c.loop-c-test.false
