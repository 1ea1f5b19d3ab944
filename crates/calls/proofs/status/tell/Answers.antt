-- `status::tell` meets its contract: a level's categories are bytes.
use native.Mathlib.Omega.{arith}
use Rattle.rules.specs.Layout.{configuration}
use Rattle.laws.proofs.Shape.{shape_of}
use Rattle.calls.specs.Told.{told_at}
use Rattle.calls.proofs.Statuses.{level-here, level-small}
use Rattle.calls.proofs.status.tell.Goals as goal

pub overflow_cast-result-2 : goal.overflow_cast-result-2
overflow_cast-result-2 c = record { fits = omega (arith, (shape_of (configuration c.args.t.now) c.requires.0).few-cells, c.requires.2) }

pub overflow_cast-result-3 : goal.overflow_cast-result-3
overflow_cast-result-3 c = record { fits = (level-small _ _ c.requires.0 c.requires.2 (level-here _ _ c.requires.2 c.level_at-level.ensures)).0 }

pub overflow_cast-result-4 : goal.overflow_cast-result-4
overflow_cast-result-4 c = record { fits = (level-small _ _ c.requires.0 c.requires.2 (level-here _ _ c.requires.2 c.level_at-level.ensures)).1 }

pub returns : goal.returns
unfolding told_at
returns c =
    rw (
      c.to_be_bytes.ensures,
      c.to_be_bytes-2.ensures,
      c.to_be_bytes-3.ensures,
      c.to_be_bytes-4.ensures,
      ← (level-here _ _ c.requires.2 c.level_at-level.ensures),
    )
