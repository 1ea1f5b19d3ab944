-- `held::Holder::may_hold` meets its contract: an index that is no slot's is no form, and the rest is the rule's three tests.
use Rattle.std.proofs.Common.{ℕ, ◌<◌, ◌≤◌, ◌&&◌, ltb, leb, sym, ap, ◌∙◌, ap₂, arith}
use Rattle.rules.specs.Layout.{slots, flows, serial}
use Rattle.layout.specs.Kinds.{kind_of}
use Rattle.table.specs.Frame.{conf, words}
use Rattle.table.proofs.Config.{slots-few}
use Rattle.table.proofs.Holders.{held_out, held_in}
use Rattle.table.proofs.held.Holder.may_hold.Goals as goal

pub returns-then-slots-i : goal.returns-then-slots-i
returns-then-slots-i c =
    let f = c.args.self.now.found.frame in
    let k = kind_of c.args.self.now.kind in
    let out : slots (conf f) k ≤ c.index_in-i.result = omega (arith, c.slots.ensures.value, c.if-slots-i.true) in
    sym (held_out (conf f) (words f) k c.args.self.now.mine c.args.s _ c.index_in-i.ensures (slots-few f k) out)

pub returns : goal.returns
returns c =
    let f = c.args.self.now.found.frame in
    let k = kind_of c.args.self.now.kind in
    let mine = c.args.self.now.mine in
    let i = c.index_in-i.result in
    let in_table : i < slots (conf f) k = omega (arith, c.slots.ensures.value, c.if-slots-i.false) in
    let number = c.serial_of-serial.ensures in
    let flow = c.flows.ensures ∙ ap (λ (x : ℕ). flows (conf f) x mine) c.cell-cell.ensures.value in
    ap₂ ◌&&◌ (ap (ltb 0) number) (ap₂ ◌&&◌ (ap₂ leb number (c.record_at-at.ensures.word serial)) flow)
    ∙ held_in (conf f) (words f) k mine c.args.s i c.index_in-i.ensures (slots-few f k) in_table
