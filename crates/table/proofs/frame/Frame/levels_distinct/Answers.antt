-- `frame::Frame::levels_distinct` meets its contract: `ok` says that every cell passed has a level of its own, and that this one differs from those before it that are passed.
use Rattle.std.proofs.Common.{◌≡◌, ℕ, ◌<◌, ◌≤◌, not, ltb, List, get_or, sym, ap, ◌∙◌, ap₂, arith, rules, lt-ltb}
use Rattle.rules.specs.Level.{equals}
use Rattle.rules.specs.Layout.{max_cells, cells, level_of, configuration}
use Rattle.rules.specs.WellFormed.{levels_distinct}
use Rattle.laws.proofs.Tests.{cond-true}
use Rattle.laws.proofs.Fill.{tab-at}
use Rattle.levels.specs.declared.Level.{Level}
use Rattle.levels.specs.Rule.{rule_level}
use Rattle.table.proofs.Loops.{all_first, all-last, pair-first, pair-next, pair-last}
use Rattle.table.proofs.Config.{cells-read}
use Rattle.table.proofs.frame.Frame.levels_distinct.Invariants.{differ}
use Rattle.table.proofs.frame.Frame.levels_distinct.Goals.{After-levels-all}
use Rattle.table.proofs.frame.Frame.levels_distinct.Goals as goal

-- the level that was read is the cell's
level-is : (c : After-levels-all) (i : ℕ) (none : Level)
    → cells (configuration c.args.self.now.t.now) ≤ max_cells → i < cells (configuration c.args.self.now.t.now)
    → rule_level (get_or c.levels-all.result i none) ≡ level_of (configuration c.args.self.now.t.now) i
level-is c i none few m =
    let h = configuration c.args.self.now.t.now in
    ap (λ (l : List Level). rule_level (get_or l i none)) c.levels-all.ensures ∙ ap rule_level (tab-at max_cells _ i none (omega arith))
    ∙ cond-true (ltb i (cells h)) (level_of h i) _ (lt-ltb i (cells h) m)

pub loop-d-init : goal.loop-d-init
loop-d-init c =
    let framed = c.args.self.now.framed in (
      search rules,
      c.wide-d-end.ensures ∙ sym (cells-read _ _ framed.header),
      omega (arith, c.wide-d-end.ensures, framed.small.few-cells),
      all_first _,
    )

pub offset_bounds-all-d : goal.offset_bounds-all-d
offset_bounds-all-d c = omega (arith, c.loop-d.invariant.2, c.loop-d-test.true)

pub bounds-all-d : goal.bounds-all-d
bounds-all-d c = omega (arith, c.loop-d.invariant.2, c.loop-d-test.true)

pub loop-c-init : goal.loop-c-init
loop-c-init c =
    (search rules, pair-first (differ c.args.self.now.t.now) _ c.loop-d.invariant.3)

pub offset_bounds-all-c : goal.offset_bounds-all-c
offset_bounds-all-c c =
    omega (arith, c.loop-d.invariant.2, c.loop-d-test.true, c.loop-c-test.true)

pub bounds-all-c : goal.bounds-all-c
bounds-all-c c =
    omega (arith, c.loop-d.invariant.2, c.loop-d-test.true, c.loop-c-test.true)

pub loop-c-preserved : goal.loop-c-preserved
loop-c-preserved c =
    let d = c.loop-d.d in
    let i = c.loop-c.c in
    let l = c.loop-d.invariant in
    let h = configuration c.args.self.now.t.now in
    let few : cells h ≤ max_cells = omega (arith, l.1, l.2) in
    let low : d < cells h = omega (arith, l.1, c.loop-d-test.true) in
    let lower : i < cells h = omega (arith, c.loop-c-test.true, low) in (
      search rules,
      pair-next (differ c.args.self.now.t.now) d i c.loop-c.invariant.1
          (ap not (c.equals.ensures ∙ ap₂ equals (level-is (goal.at.loop-c-preserved c).After-levels-all i _ few lower)
          (level-is (goal.at.loop-c-preserved c).After-levels-all d _ few low))),
    )

pub loop-d-preserved : goal.loop-d-preserved
loop-d-preserved c = (
  search rules,
  search rules,
  search rules,
  pair-last (differ c.args.self.now.t.now) _ _ c.loop-c.invariant.1 c.loop-c.invariant.0 c.loop-c-test.false,
)

pub returns : goal.returns
unfolding levels_distinct
returns c = all-last _ c.loop-d.invariant.3 c.loop-d.invariant.0 c.loop-d-test.false c.loop-d.invariant.1
