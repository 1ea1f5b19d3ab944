-- `set_up` meets its contract: a shape that is wrong is refused, and else the records are cleared and the first processes begin.
use Rattle.std.proofs.Common.{sym, ◌∙◌}
use Rattle.table.proofs.Config.{header_read}
use Rattle.table.proofs.Formed.{shaped_of}
use Rattle.table.proofs.Begun.{clear-from, begin-from, fresh-done, refused-answer, refused-table, done-answer, done-table, right-configuration}
use Rattle.table.proofs.set_up.Goals as goal

pub returns-then-not-can_set_up : goal.returns-then-not-can_set_up
returns-then-not-can_set_up c = let wrong = sym c.can_set_up.ensures ∙ c.if-not-can_set_up.true in record {
  value = refused-answer _ _ wrong;
  t_after = refused-table _ _ wrong;
}

pub clear-requires : goal.clear-requires
clear-requires c =
    let right = sym c.can_set_up.ensures ∙ c.if-not-can_set_up.false in
    clear-from _ _ (shaped_of _ _ right _ (header_read _ _ c.header_of-n.ensures)).framed _ c.base-from.ensures.0

pub begin_all-requires : goal.begin_all-requires
begin_all-requires c =
    let right = sym c.can_set_up.ensures
    ∙ c.if-not-can_set_up.false in
    begin-from _ _ (shaped_of _ _ right _ (header_read _ _ c.header_of-n.ensures)).framed _ c.base-from.ensures.0 _
    c.clear.ensures (right-configuration _ _ right)

pub returns : goal.returns
returns c =
    let right = sym c.can_set_up.ensures
    ∙ c.if-not-can_set_up.false in
    let fresh = fresh-done _ _
    (shaped_of _ _ right _ (header_read _ _ c.header_of-n.ensures)).framed _
    c.base-from.ensures.0 _ c.clear.ensures in
    record {
      value = done-answer _ _ right;
      t_after = c.begin_all.ensures ∙ fresh ∙ done-table _ _ right;
    }
