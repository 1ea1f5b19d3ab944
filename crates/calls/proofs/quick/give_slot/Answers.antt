-- `quick::give_slot` meets its contract: the slot is put back where it can be taken.
use Rattle.calls.proofs.QuickSteps.{give-small, give-told, give-worn, give-none}
use Rattle.calls.proofs.Searches.{home-in}
use Rattle.layout.specs.Kinds.{kind_of}
use native.Mathlib.Omega.{arith}
use Rattle.calls.proofs.quick.give_slot.Goals as goal

pub list_at-at-requires : goal.list_at-at-requires
list_at-at-requires c =
    (c.requires.sound.known, home-in c.requires.sound)

pub overflow_mul-serial : goal.overflow_mul-serial
overflow_mul-serial c =
    omega (
      arith,
      give-small c.requires.sound (kind_of c.args.kind) c.args.s c.read-live.result c.read-serial.result
          c.is_here.ensures c.if-is_here.true c.index_of-i.ensures c.if-live-serial.true,
    )

pub overflow_add-serial : goal.overflow_add-serial
overflow_add-serial c =
    omega (
      arith,
      give-small c.requires.sound (kind_of c.args.kind) c.args.s c.read-live.result c.read-serial.result
          c.is_here.ensures c.if-is_here.true c.index_of-i.ensures c.if-live-serial.true,
    )

pub returns-then-live-serial : goal.returns-then-live-serial
returns-then-live-serial c =
    give-told _ _ _ _ _ _ c.is_here.ensures c.if-is_here.true c.index_of-i.ensures c.read-live.ensures c.read-serial.ensures
    c.if-live-serial.true c.requires.sound.home c.list_at-at.ensures c.give_back.ensures

pub returns-else-live-serial : goal.returns-else-live-serial
returns-else-live-serial c =
    give-worn _ _ _ _ _ _ c.is_here.ensures c.if-is_here.true c.index_of-i.ensures c.read-live.ensures c.read-serial.ensures
    c.if-live-serial.false

pub returns-else-is_here : goal.returns-else-is_here
returns-else-is_here c =
    give-none _ _ _ _ _ _ c.is_here.ensures c.if-is_here.false
