-- `checker::compare` meets its contract: as far as the two agree, lines are counted, and the places moved on.
use Rattle.std.proofs.Common.{◌≤◌, ◌-◌, length, sym, arith, length-take-le, rules}
use Rattle.checker.proofs.Ways.{rest, compared-within, compared}
use Rattle.checker.proofs.compare.Goals.{After-alike-n}
use Rattle.checker.proofs.compare.Goals as goal

within : (c : After-alike-n)
    → (c.alike-n.result ≤ length c.waiting-due.result.now) × (c.alike-n.result ≤ c.args.x.end - c.args.x.at)
    × (c.alike-n.result ≤ length c.args.r.now - c.args.from)
within c = compared-within c.args.x _ _ _ _ _ _ c.waiting-due.ensures (rest _ _ _ c.min.ensures) c.alike-n.ensures

pub slice_bounds-same-end : goal.slice_bounds-same-end
slice_bounds-same-end c = sym (length-take-le _ _ (within c).0)

pub overflow_add-result : goal.overflow_add-result
overflow_add-result c = let z = within (goal.at.overflow_add-result c).After-alike-n in search rules

pub overflow_add-result-2 : goal.overflow_add-result-2
overflow_add-result-2 c = let z = within (goal.at.overflow_add-result-2 c).After-alike-n in search rules

pub returns : goal.returns
returns c =
    compared _ _ _ _ _ _ _ _ _ (omega arith) c.waiting-due.ensures (rest _ _ _ c.min.ensures)
    c.alike-n.ensures c.lines_in.ensures c.ends_within.ensures
