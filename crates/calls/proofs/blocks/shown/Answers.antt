-- `blocks::shown` meets its contract: what refuses a read, whatever its buffer, in order, and the place of the block.
use Rattle.calls.proofs.BlocksLaws.{Used, entry-stops, entry-passes, block-hidden, block_within, block-shown}
use mathlib.Core.Path.{refl}
use Rattle.calls.proofs.blocks.shown.Goals.{After-read-size}
use Rattle.calls.proofs.blocks.shown.Goals as goal

used : (c : After-read-size) → Used c.args.t.now c.args.on.n c.args.on.me c.args.a c.entry_of-d.result c.look-f.result c.read-size.result
used c = record { sound = c.requires.0.sound; entry = c.entry_of-d.ensures; seen = c.look-f.ensures; sized = c.read-size.ensures }

pub returns-in_err-may_use : goal.returns-in_err-may_use
returns-in_err-may_use c =
    let u = used (goal.at.returns-in_err-may_use c).After-read-size in
    block-hidden u c.args.store.now c.args.b _ _ (entry-stops u c.args.store.now c.args.b _ c.in_err-may_use.ensures)
    c.from_residual.ensures.0 c.from_residual.ensures.1

pub returns-in_err-refuse : goal.returns-in_err-refuse
returns-in_err-refuse c =
    let u = used (goal.at.returns-in_err-refuse c).After-read-size in
    block-hidden u c.args.store.now c.args.b _ _ (entry-passes u c.args.store.now c.args.b c.in_ok-may_use.ensures c.in_err-refuse.ensures)
    c.from_residual-in_err-refuse.ensures.0 c.from_residual-in_err-refuse.ensures.1

pub block_place-requires : goal.block_place-requires
block_place-requires c =
    let u = used (goal.at.block_place-requires c).After-read-size in
    block_within u c.args.store.now c.args.b (entry-passes u c.args.store.now c.args.b c.in_ok-may_use.ensures c.in_ok-refuse.ensures) c.requires.1 refl

pub returns : goal.returns
returns c =
    let u = used (goal.at.returns c).After-read-size in
    block-shown u c.args.store.now c.args.b (entry-passes u c.args.store.now c.args.b c.in_ok-may_use.ensures c.in_ok-refuse.ensures) refl c.block_place.ensures
