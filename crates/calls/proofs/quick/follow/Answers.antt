-- `quick::follow` meets its contract: by the call.
use mathlib.Core.Path.{◌≡◌, ap}
use Rattle.calls.specs.declared.code.Code.{Code}
use Rattle.calls.specs.declared.code.Code.TheVariants.{Spawn, ReleaseProcess, BuildSegment, ReleaseSegment, Create, Open, Close, Unlink, Regrade}
use Rattle.calls.specs.Codes.{code_number}
use Rattle.calls.proofs.Named.{same-call}
use Rattle.calls.proofs.QuickSteps.{followed-1, followed-2, followed-3, followed-5, followed-7, followed-8, followed-9, followed-11, followed-21, followed-other}
use Rattle.calls.proofs.Searches.{home-in}
use Rattle.calls.proofs.Worlds.{cells_is, slots-is}
use Rattle.rules.specs.Layout.{process}
use native.Mathlib.Omega.{arith}
use Rattle.calls.proofs.quick.follow.Goals as goal

pub take_slot-requires : goal.take_slot-requires
take_slot-requires c =
    (c.requires.0.sound.known, home-in c.requires.0.sound)

pub after_release-requires : goal.after_release-requires
after_release-requires c =
    let near = c.requires.1.released (ap code_number c.in-ReleaseProcess.is) in (
      c.requires.0.sound.known,
      home-in c.requires.0.sound,
      omega (arith, near.in-range, c.index_of.ensures, slots-is c.requires.0.sound.known process),
      rw c.index_of.ensures near.in_cell,
    )

pub take_slot-requires-in-BuildSegment : goal.take_slot-requires-in-BuildSegment
take_slot-requires-in-BuildSegment c =
    (c.requires.0.sound.known, home-in c.requires.0.sound)

pub take_slot-requires-in-Create : goal.take_slot-requires-in-Create
take_slot-requires-in-Create c =
    (c.requires.0.sound.known, home-in c.requires.0.sound)

pub take_slot-requires-in-Regrade : goal.take_slot-requires-in-Regrade
take_slot-requires-in-Regrade c =
    (c.requires.0.sound.known, omega (arith, c.requires.1.copied (ap code_number c.in-Regrade.is), cells_is c.requires.0.sound.known))

pub returns-in-Spawn : goal.returns-in-Spawn
returns-in-Spawn c =
    followed-1 _ _ _ _ _ _ _ _ _ c.requires.0.sound.home (ap code_number c.in-Spawn.is) c.take_slot.ensures

pub returns-in-ReleaseProcess : goal.returns-in-ReleaseProcess
returns-in-ReleaseProcess c =
    followed-2 _ _ _ _ _ _ _ _ _ c.requires.0.sound.home (ap code_number c.in-ReleaseProcess.is) c.index_of.ensures c.after_release.ensures

pub returns-in-BuildSegment : goal.returns-in-BuildSegment
returns-in-BuildSegment c =
    followed-3 _ _ _ _ _ _ _ _ _ c.requires.0.sound.home (ap code_number c.in-BuildSegment.is) c.take_slot-in-BuildSegment.ensures

pub returns-in-ReleaseSegment : goal.returns-in-ReleaseSegment
returns-in-ReleaseSegment c =
    followed-5 _ _ _ _ _ _ _ _ _ c.requires.0.sound.home (ap code_number c.in-ReleaseSegment.is) c.give_slot.ensures

pub returns-in-Create : goal.returns-in-Create
returns-in-Create c =
    followed-7 _ _ _ _ _ _ _ _ _ c.requires.0.sound.home (ap code_number c.in-Create.is) c.take_slot-in-Create.ensures c.remark.ensures

pub returns-in-Open : goal.returns-in-Open
returns-in-Open c =
    followed-8 _ _ _ _ _ _ _ _ _ c.requires.0.sound.home (ap code_number c.in-Open.is) c.remark-in-Open.ensures

pub returns-in-Close : goal.returns-in-Close
returns-in-Close c =
    followed-9 _ _ _ _ _ _ _ _ _ c.requires.0.sound.home (ap code_number c.in-Close.is) c.remark-in-Close.ensures c.give_slot-in-Close.ensures

pub returns-in-Unlink : goal.returns-in-Unlink
returns-in-Unlink c =
    followed-11 _ _ _ _ _ _ _ _ _ c.requires.0.sound.home (ap code_number c.in-Unlink.is) c.give_slot-in-Unlink.ensures

pub returns-in-Regrade : goal.returns-in-Regrade
returns-in-Regrade c =
    followed-21 _ _ _ _ _ _ _ _ _ c.requires.0.sound.home (ap code_number c.in-Regrade.is) c.take_slot-in-Regrade.ensures

pub returns-in_default : goal.returns-in_default
returns-in_default c =
    let other = λ (j : Code) (n : c.args.code ≡ j → ⊥) (e : code_number c.args.code ≡ code_number j). n (same-call c.args.code j e) in
    let rest = c.in_default in
    followed-other _ _ _ _ _ _ _ _ _ (other Spawn rest.not-Spawn) (other ReleaseProcess rest.not-ReleaseProcess) (other BuildSegment rest.not-BuildSegment)
    (other ReleaseSegment rest.not-ReleaseSegment) (other Create rest.not-Create) (other Open rest.not-Open) (other Close rest.not-Close)
    (other Unlink rest.not-Unlink) (other Regrade rest.not-Regrade)
