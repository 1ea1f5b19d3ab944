-- `found::Found::parent_ok` meets its contract: no parent, an index that is no slot's, or a process of the same cell.
use Rattle.std.proofs.Common.{◌<◌, ◌≤◌, ◌&&◌, eqb, ltb, sym, ap, ◌∙◌, ap₂, arith}
use Rattle.rules.specs.Layout.{process, parent, slots}
use Rattle.table.specs.Frame.{conf}
use Rattle.table.proofs.Config.{slots-few}
use Rattle.table.proofs.Alive.{parent-none, parent-out, parent_in}
use Rattle.table.proofs.found.Found.parent_ok.Goals as goal

pub returns-then-s-eq0 : goal.returns-then-s-eq0
returns-then-s-eq0 c = rw (← c.record_at-at.ensures.word parent) (sym (parent-none _ _ _ c.if-s-eq0.true))

pub returns-then-slots-i : goal.returns-then-slots-i
returns-then-slots-i c =
    let f = c.args.self.now.frame in
    let out : slots (conf f) process ≤ c.index_in-i.result = omega (arith, c.slots.ensures.value, c.if-slots-i.true) in
    rw (← c.record_at-at.ensures.word parent)
    (sym (parent-out (conf f) _ _ _ c.index_in-i.ensures (slots-few f process) c.if-s-eq0.false out))

pub returns : goal.returns
returns c =
    let f = c.args.self.now.frame in
    let in_table : c.index_in-i.result < slots (conf f) process = omega (arith, c.slots.ensures.value, c.if-slots-i.false) in
    rw (← c.record_at-at.ensures.word parent)
    (ap₂ ◌&&◌ (ap (ltb 0) c.serial_of.ensures) (ap₂ eqb c.cell.ensures.value c.cell-2.ensures.value)
    ∙ parent_in (conf f) _ _ _ c.index_in-i.ensures (slots-few f process) c.if-s-eq0.false in_table)
