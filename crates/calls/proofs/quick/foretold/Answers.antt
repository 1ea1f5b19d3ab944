-- `quick::foretold` meets its contract: the masks of a file of the caller's cell tell of its clashes, of others nothing is told, and nothing where no slice is lent.
use mathlib.Core.Bool.{true}
use mathlib.Core.Path.{◌≡◌, sym, ◌∙◌}
use Rattle.rules.specs.Layout.{file, configuration}
use Rattle.rules.specs.Seid.{index_of}
use Rattle.rules.specs.Modes.{valid_modes}
use Rattle.laws.proofs.Tests.{and_left, and_right}
use Rattle.laws.proofs.Seids.{index-small}
use Rattle.follow.specs.Followed.{here}
use Rattle.calls.proofs.Searches.{home-in}
use Rattle.calls.proofs.QuickPlaces.{near-from, near-here, clash-told}
use native.Mathlib.Omega.{arith}
use Rattle.calls.proofs.quick.foretold.Goals.{Then-is_here-valid}
use Rattle.calls.proofs.quick.foretold.Goals as goal

in-here : (c : Then-is_here-valid) → here (configuration c.args.t.now) c.args.on.me.slot file c.args.s ≡ true
in-here c =
    sym c.is_here.ensures ∙ and_left c.is_here.result c.valid.result c.if-is_here-valid.true

modes-valid : (c : Then-is_here-valid) → valid_modes c.args.b ≡ true
modes-valid c =
    sym c.valid.ensures ∙ and_right c.is_here.result c.valid.result c.if-is_here-valid.true

pub run_of-processes-requires : goal.run_of-processes-requires
run_of-processes-requires c = (c.requires.0.sound.known, home-in c.requires.0.sound)

pub run_of-files-requires : goal.run_of-files-requires
run_of-files-requires c = (c.requires.0.sound.known, home-in c.requires.0.sound)

pub overflow_sub-index_of : goal.overflow_sub-index_of
overflow_sub-index_of c =
    let near = (near-here c.requires.0.sound file c.args.s (in-here (goal.at.overflow_sub-index_of c).Then-is_here-valid)).1 in
    omega (arith, c.index_of.ensures, near-from c.requires.0.sound.known file (index_of c.args.s) near c.run_of-files.ensures.from)

pub mark_in-at-requires : goal.mark_in-at-requires
mark_in-at-requires c =
    let sound = c.requires.0.sound in
    (sound.known, home-in sound, omega (arith, c.index_of.ensures, index-small c.args.s), omega arith)

pub returns-then-is_here-valid : goal.returns-then-is_here-valid
returns-then-is_here-valid c =
    c.row_clash.ensures ∙ clash-told c.requires.0.sound (c.requires.1 (omega (arith, c.if-w-eq0.false))) c.args.s c.args.b
    (in-here (goal.at.returns-then-is_here-valid c).Then-is_here-valid) (modes-valid (goal.at.returns-then-is_here-valid c).Then-is_here-valid)
    c.run_of-processes.ensures.from c.run_of-files.ensures.from c.run_of-processes.ensures.count c.run_of-files.ensures.count
    c.index_of.ensures c.mark_in-at.ensures
