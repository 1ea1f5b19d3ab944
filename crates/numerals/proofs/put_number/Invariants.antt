-- `numerals::put_number` meets its contract: at each turn, once the rest is written, so is the number.
use Prim.Native.Nat.{ℕ}
use mathlib.Core.List.{List}
use Rattle.rules.specs.Replay.{encoded}
use Rattle.output.specs.Wrote.{Wrote}
use Rattle.numerals.proofs.put_number.Given as goal

abbrev pub invariant-loop-rest : goal.invariant-loop-rest
invariant-loop-rest l =
    (r : ℕ) (d : List ℕ) → Wrote l.out l.next (encoded l.rest) r d → Wrote l.initial.out l.at (encoded l.v) r d

abbrev pub decreases-loop-rest : goal.decreases-loop-rest
decreases-loop-rest l = l.rest
