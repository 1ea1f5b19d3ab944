-- `judge_records` meets its contract: what is found of the slots and the flows serves the judging, and is what the hall is told of.
use Rattle.std.proofs.Common.{sym, ◌∙◌}
use Rattle.table.proofs.Filled.{few-slots, cells_of}
use Rattle.table.proofs.Told.{told_is}
use Rattle.table.proofs.judge_records.Goals as goal

pub invariant_of-found : goal.invariant_of-found
invariant_of-found c =
    let few = few-slots _ _ c.requires in
    record {
      shaped = c.requires;
      of_processes = cells_of _ _ _ (few _) c.slot_cells.ensures;
      of_segments = cells_of _ _ _ (few _) c.slot_cells-2.ensures;
      of_files = cells_of _ _ _ (few _) c.slot_cells-3.ensures;
      flow_is = c.flow_matrix-flow.ensures;
      valid_is = c.valid_table-valid.ensures;
    }

pub returns-then-not-records_ok : goal.returns-then-not-records_ok
returns-then-not-records_ok c = let wrong = sym c.records_ok.ensures ∙ c.if-not-records_ok.true in record {
  value = sym wrong;
  hall_after = rw wrong;
}

pub returns : goal.returns
returns c =
    let right = sym c.records_ok.ensures ∙ c.if-not-records_ok.false in
    let all = told_is _ _ _ _ _ _ c.slot_cells.ensures c.slot_cells-2.ensures c.slot_cells-3.ensures c.flow_matrix-flow.ensures in
    record {
      value = sym right;
      hall_after = rw right (c.tell.ensures ∙ all);
    }
