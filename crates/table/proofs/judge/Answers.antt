-- `judge` meets its contract: the shape, then the records, which the hall is told of.
use Rattle.std.proofs.Common.{sym, ◌∙◌}
use Rattle.table.proofs.Config.{header_read}
use Rattle.table.proofs.Formed.{shaped_of, misshapen, shapen}
use Rattle.table.proofs.judge.Goals as goal

pub returns-then-not-can_set_up : goal.returns-then-not-can_set_up
returns-then-not-can_set_up c =
    let wrong = misshapen _ _ (sym c.can_set_up.ensures ∙ c.if-not-can_set_up.true) in
    record {
      value = sym wrong;
      hall_after = rw wrong;
    }

pub invariant_of-judge_records : goal.invariant_of-judge_records
invariant_of-judge_records c =
    let right = sym c.can_set_up.ensures ∙ c.if-not-can_set_up.false in
    record { framed = (shaped_of _ _ right _ (header_read _ _ c.header_of-n.ensures)).framed }

pub judge_records-requires : goal.judge_records-requires
judge_records-requires c =
    let right = sym c.can_set_up.ensures ∙ c.if-not-can_set_up.false in
    shaped_of _ _ right _ (header_read _ _ c.header_of-n.ensures)

pub returns : goal.returns
returns c =
    let right = sym c.can_set_up.ensures ∙ c.if-not-can_set_up.false in
    record {
      value = c.judge_records.ensures.value ∙ shapen _ _ right;
      hall_after = c.judge_records.ensures.hall_after ∙ rw (shapen _ _ right);
    }
