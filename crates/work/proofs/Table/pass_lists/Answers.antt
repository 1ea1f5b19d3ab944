-- `pass_lists` meets its contract: the lists of the cells before c are passed.
use mathlib.Core.Path.{refl}
use native.Mathlib.Omega.{arith}
use Rattle.rules.specs.Words.{sum_below}
use Rattle.rules.specs.Layout.{first_slot}
use Rattle.layout.specs.Kinds.{kind_of}
use Rattle.work.proofs.Joined.{pass-none}
use Rattle.work.proofs.Sized.{walk_none, walk_more, walk-all, first_more, run-few}
use Rattle.work.proofs.Listed.{list-passed, all-lists, few-listed}
use Rattle.work.proofs.Table.pass_lists.Goals as goal

pub loop-c-init : goal.loop-c-init
unfolding first_slot sum_below
loop-c-init g c = (walk_none _ _ c.args.self.shaped, refl, pass-none g.met.P.Pass.in_turn _ _ _)

pub overflow_add-at : goal.overflow_add-at
overflow_add-at g c =
    let x = c.loop-c.invariant in
    let few = run-few _ _ _ x.0 c.loop-c-test.true (kind_of c.args.kind) _ _ x.1 c.cell_slots.ensures in
    omega (arith, few, few-listed _ c.args.self.shaped.framed.small (kind_of c.args.kind) _ c.lists_at-at.ensures.0)

pub overflow_add-at-in-loop-c : goal.overflow_add-at-in-loop-c
overflow_add-at-in-loop-c g c =
    let x = c.loop-c.invariant in
    let few = run-few _ _ _ x.0 c.loop-c-test.true (kind_of c.args.kind) _ _ x.1 c.cell_slots.ensures in
    omega (arith, few, x.0.few-cells, few-listed _ c.args.self.shaped.framed.small (kind_of c.args.kind) _ c.lists_at-at.ensures.0)

pub invariant_of-slots : goal.invariant_of-slots
invariant_of-slots g c =
    let x = c.loop-c.invariant in
    record { few = run-few _ _ _ x.0 c.loop-c-test.true (kind_of c.args.kind) _ _ x.1 c.cell_slots.ensures }

pub loop-c-preserved : goal.loop-c-preserved
loop-c-preserved g c =
    let x = c.loop-c.invariant in
    let l = c.loop-c-test.true in
    let e = c.cell_slots.ensures in
    let table = c.args.self in
    let k = kind_of c.args.kind in (
      walk_more _ _ _ x.0 l,
      first_more _ _ _ x.0 l k _ _ x.1 e,
      list-passed _ table.n table.shaped.framed.header k _ _ x.0 l _ _ x.1 e g.met.P.Pass.in_turn _ _ _ _ x.2 c.list.ensures,
    )

pub returns : goal.returns
returns g c =
    let x = c.loop-c.invariant in
    let all = all-lists _ (kind_of c.args.kind) _ (walk-all _ _ _ x.0 c.loop-c-test.false) in
    rw (c.lists_at-at.ensures.0, all) at x.2
