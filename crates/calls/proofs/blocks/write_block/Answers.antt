-- `blocks::write_block` meets its contract: the rule's refusals in their order, the hole filled, the block and the size written.
use Rattle.calls.proofs.BlocksLaws.{Used, length-stops, use-stops, use-passes, write-within, next_small, write_bytes, write-words, write-refused, write_done}
use mathlib.Core.Path.{refl}
use Rattle.calls.proofs.blocks.write_block.Goals.{After-read-size}
use Rattle.calls.proofs.blocks.write_block.Goals as goal

used : (c : After-read-size) → Used c.args.t.now c.args.on.n c.args.on.me c.args.a c.entry_of-d.result c.look-f.result c.read-size.result
used c = record { sound = c.requires.0.sound; entry = c.entry_of-d.ensures; seen = c.look-f.ensures; sized = c.read-size.ensures }

pub returns-in_err-refuse : goal.returns-in_err-refuse
returns-in_err-refuse c =
    let u = used (goal.at.returns-in_err-refuse c).After-read-size in
    write-refused _ _ _ _ _ _ _ _ c.from_residual.ensures.0 c.from_residual.ensures.1
    (length-stops u c.args.store.now c.args.b c.args.buffer.now _ c.in_err-refuse.ensures)

pub returns-in_err-may_use : goal.returns-in_err-may_use
returns-in_err-may_use c =
    let u = used (goal.at.returns-in_err-may_use c).After-read-size in
    write-refused _ _ _ _ _ _ _ _ c.from_residual-in_err-may_use.ensures.0 c.from_residual-in_err-may_use.ensures.1
    (use-stops u c.args.store.now c.args.b c.args.buffer.now c.in_ok-refuse.ensures _ c.in_err-may_use.ensures)

pub returns-in_err-refuse-2 : goal.returns-in_err-refuse-2
returns-in_err-refuse-2 c =
    let u = used (goal.at.returns-in_err-refuse-2 c).After-read-size in
    write-refused _ _ _ _ _ _ _ _ c.from_residual-in_err-refuse-2.ensures.0 c.from_residual-in_err-refuse-2.ensures.1
    (use-passes u c.args.store.now c.args.b c.args.buffer.now c.in_ok-refuse.ensures c.in_ok-may_use.ensures c.in_err-refuse-2.ensures)

pub write_store-requires : goal.write_store-requires
write_store-requires c =
    let u = used (goal.at.write_store-requires c).After-read-size in
    write-within u c.args.store.now c.args.b c.args.buffer.now c.in_ok-refuse.ensures c.in_ok-may_use.ensures c.in_ok-refuse-2.ensures c.requires.1 refl

pub overflow_add-b : goal.overflow_add-b
overflow_add-b c =
    let u = used (goal.at.overflow_add-b c).After-read-size in
    record { fits = next_small u c.args.store.now c.args.b c.args.buffer.now c.in_ok-refuse.ensures c.in_ok-may_use.ensures c.in_ok-refuse-2.ensures }

pub returns : goal.returns
returns c =
    let u = used (goal.at.returns c).After-read-size in
    write_done _ _ _ _ _ _
    (use-passes u c.args.store.now c.args.b c.args.buffer.now c.in_ok-refuse.ensures c.in_ok-may_use.ensures c.in_ok-refuse-2.ensures)
    (write-words u c.args.store.now c.args.b c.args.buffer.now c.in_ok-refuse.ensures c.in_ok-may_use.ensures c.in_ok-refuse-2.ensures
    c.max.ensures c.write.ensures)
    (write_bytes u c.args.store.now c.args.b c.args.buffer.now c.in_ok-refuse.ensures c.in_ok-may_use.ensures c.in_ok-refuse-2.ensures
    refl c.write_store.ensures)
