-- `segments::already_held` meets its contract: no designator passed holds the seid.
use mathlib.Core.Path.{◌≡◌}
use mathlib.Core.Bool.{false}
use Prim.Native.Nat.{ℕ, ◌<◌}
use lib.Dec.{eqb}
use Rattle.rules.specs.Layout.{process, segment, at, held_at}
use Rattle.calls.specs.World.{words_of}
use Rattle.calls.proofs.segments.already_held.Given as goal

abbrev pub invariant-loop-d : goal.invariant-loop-d
invariant-loop-d l = (k : ℕ) → k < l.d → eqb (words_of l.t (at process l.on.me.slot (held_at segment k))) l.s ≡ false
