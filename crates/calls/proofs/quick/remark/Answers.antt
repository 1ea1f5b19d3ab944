-- `quick::remark` meets its contract: a bit is set or cleared where the object is a file of the caller's cell.
use mathlib.Core.Path.{◌∙◌, sym}
use Rattle.calls.proofs.QuickSteps.{near-self, near-told, mark-told, unmark-told, marks-none}
use Rattle.calls.proofs.Searches.{home-in}
use Rattle.rules.specs.Layout.{file}
use Rattle.laws.proofs.Tests.{cond-true, cond-false}
use Rattle.calls.proofs.quick.remark.Goals as goal

pub mark_of-at-requires : goal.mark_of-at-requires
mark_of-at-requires c = (
  c.requires.sound.known,
  home-in c.requires.sound,
  near-self c.requires.sound,
  near-told c.requires.sound file _ c.is_here.ensures c.if-is_here.true c.index_of.ensures,
)

pub returns-then-holds : goal.returns-then-holds
returns-then-holds c =
    mark-told _ _ _ _ _ c.is_here.ensures c.if-is_here.true c.index_of.ensures c.mark_of-at.ensures c.mark.ensures
    ∙ sym (cond-true _ _ _ c.if-holds.true)

pub returns-else-holds : goal.returns-else-holds
returns-else-holds c =
    unmark-told _ _ _ _ _ c.is_here.ensures c.if-is_here.true c.index_of.ensures c.mark_of-at.ensures c.unmark.ensures
    ∙ sym (cond-false _ _ _ c.if-holds.false)

pub returns-else-is_here : goal.returns-else-is_here
returns-else-is_here c =
    let args = c.args in
    marks-none _ args.on.me.slot args.s args.d args.w.now c.is_here.ensures c.if-is_here.false args.holds
