-- `files::any_clash` meets its contract. Both loops have passed no clashing open, and no more are left than are counted down; the search is left by
-- its label at the first that clashes, and where none is left.
use Rattle.calls.proofs.Opens.{Unmet}
use Rattle.calls.specs.World.{words_of}
use Rattle.rules.specs.Call08.{clashes_at}
use Rattle.rules.specs.Layout.{entries}
use Rattle.rules.specs.Words.{some_below}
use Prim.Native.Nat.{ℕ, ◌+◌, ◌<◌}
use mathlib.Core.Bool.{false}
use mathlib.Core.Path.{◌≡◌}
use Rattle.calls.proofs.files.any_clash.Given as goal

abbrev pub invariant-loop-d : goal.invariant-loop-d
invariant-loop-d l = (l.found ≡ false) × ((k : ℕ) → k < l.d → clashes_at (words_of l.t) l.s l.b (l.run.from + l.p) k ≡ false)
    × Unmet l.t l.s l.run.from l.run.count l.left l.p l.d × (0 < l.left)

abbrev pub invariant-search : goal.invariant-search
invariant-search l =
    (l.found ≡ false) × ((k : ℕ) → k < l.p → some_below entries (clashes_at (words_of l.t) l.s l.b (l.run.from + k)) ≡ false)
    × Unmet l.t l.s l.run.from l.run.count l.left l.p 0 × (0 < l.left)
