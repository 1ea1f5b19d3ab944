-- `view_part` meets its contract: refused where the table or the caller is bad, and else the block's place on the judged table.
use mathlib.Core.Path.{◌≡◌, refl, sym, ◌∙◌}
use mathlib.Core.Bool.{Bool, cond}
use mathlib.Core.List.{List}
use Prim.Native.Nat.{ℕ}
use lib.ListN.{length, replicate}
use Rattle.rules.specs.Claim.{test}
use Rattle.rules.specs.Layout.{configuration}
use Rattle.rules.specs.WellFormed.{well_formed}
use Rattle.layout.specs.Hall.{hall_bytes, hall_of, matrix_in}
use Rattle.calls.proofs.Whole.{ready_by, store_long, caller-few, sound}
use Rattle.calls.specs.World.{Judged}
use Rattle.calls.proofs.TrayLaws.{ready-judged}
use Rattle.calls.proofs.ViewLaws.{known_by, view-no-table, view-no-caller, view-refused, view-done}
use Rattle.calls.proofs.view_part.Goals.{Else-bad_caller}
use Rattle.calls.proofs.view_part.Goals as goal

-- the table is judged, and its header read, once its caller is: hall is what the check left
judged : (c : Else-bad_caller) {m : List (List Bool)} {hall : List ℕ} →
    m ≡ matrix_in hall → hall ≡ cond (test (well_formed c.args.table.now (length c.args.store.now))) (hall_of (configuration c.args.table.now))
    (replicate hall_bytes 0) → Judged c.args.table.now c.args.store.now c.header_of-n.result m hall
judged c is told =
    ready-judged (ready_by _ _ c.judge.ensures.value c.if-not-judge.false told is)
    c.header_of-n.ensures

pub returns-then-not-judge : goal.returns-then-not-judge
returns-then-not-judge c =
    let told = view-no-table _ _ _ _ _ c.judge.ensures.value c.if-not-judge.true c.hidden.ensures in
    record { value = told.0; count_in_bounds = told.1 }

pub bad_caller-requires : goal.bad_caller-requires
bad_caller-requires c =
    known_by _ c.args.store.now c.judge.ensures.value c.if-not-judge.false c.header_of-n.ensures

pub returns-then-bad_caller : goal.returns-then-bad_caller
returns-then-bad_caller c =
    let told = view-no-caller _ _ _ _ _ (sym c.judge.ensures.value ∙ c.if-not-judge.false)
    c.bad_caller.ensures c.if-bad_caller.true c.hidden-then-bad_caller.ensures in
    record { value = told.0; count_in_bounds = told.1 }

pub cell_in-cell-requires : goal.cell_in-cell-requires
cell_in-cell-requires c =
    caller-few (judged (goal.at.cell_in-cell-requires c).Else-bad_caller refl c.judge.ensures.hall_after) _ c.bad_caller.ensures c.if-bad_caller.false

pub shown-requires : goal.shown-requires
shown-requires c =
    let j = judged (goal.at.shown-requires c).Else-bad_caller c.matrix_in-m.ensures c.judge.ensures.hall_after in
    (record { sound = sound j _ c.bad_caller.ensures c.if-bad_caller.false c.cell_in-cell.ensures; handed = j.handed }, store_long j)

pub returns-in-Ok : goal.returns-in-Ok
returns-in-Ok c = record {
  value = view-done _ _ _ _ _ (sym c.judge.ensures.value ∙ c.if-not-judge.false) c.bad_caller.ensures c.if-bad_caller.false
      c.in-Ok.ensures.refused c.in-Ok.ensures.place.0;
  count_in_bounds = c.in-Ok.ensures.place.1;
}

pub returns-in-Err : goal.returns-in-Err
returns-in-Err c =
    let told = view-refused _ _ _ _ _ (sym c.judge.ensures.value ∙ c.if-not-judge.false) c.bad_caller.ensures c.if-bad_caller.false
    c.in-Err.error c.in-Err.ensures.refused c.hidden-in-Err.ensures in
    record { value = told.0; count_in_bounds = told.1 }
