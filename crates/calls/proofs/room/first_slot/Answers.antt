-- `room::first_slot` meets its contract: the sum of the runs passed.
use Prim.Native.Nat.{◌+◌}
use mathlib.Core.Path.{◌≡◌}
use Rattle.rules.specs.Layout.{configuration}
use Rattle.calls.proofs.Worlds.{first-none, first_more}
use Rattle.calls.proofs.Searches.{first_fits}
use native.Mathlib.Omega.{arith}
use Rattle.calls.proofs.room.first_slot.Goals as goal

pub loop-i-init : goal.loop-i-init
loop-i-init c = first-none _ _

pub overflow_add-from : goal.overflow_add-from
overflow_add-from c =
    omega (
      arith,
      c.loop-i.invariant,
      first_more (configuration c.args.t.now) c.args.k c.loop-i.i,
      first_fits c.requires.0
          c.args.k (c.loop-i.i + 1) (omega arith) c.requires.3,
    )

pub loop-i-preserved : goal.loop-i-preserved
loop-i-preserved c = rw (c.loop-i.invariant, c.in_cell-from.ensures) (first_more _ _ _)

pub returns : goal.returns
returns c =
    let e : c.loop-i.i ≡ c.args.c = omega arith in (
      rw e at c.loop-i.invariant,
      omega (arith, c.loop-i.invariant, first_fits c.requires.0 c.args.k c.loop-i.i (omega arith) c.requires.3),
    )
