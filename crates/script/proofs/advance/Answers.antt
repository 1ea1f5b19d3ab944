-- `script::advance` meets its contract: from each place on, the rest of the piece comes to what the whole does.
use mathlib.Core.Bool.{true, false}
use mathlib.Core.Path.{refl, ◌≡◌, ◌∙◌}
use Rattle.script.specs.Take.{is_more}
use Rattle.script.proofs.Piece.{code-ends}
use Rattle.script.proofs.Stretch.{code-goes-on, code-stops}
use borrow.Author.Rules.{rules}
use Rattle.script.proofs.advance.Goals as goal

pub returns-then-ne : goal.returns-then-ne
returns-then-ne c =
    let stopped : is_more c.take_some-m.result.what ≡ false = search rules in
    rw (← c.loop-i.invariant) (code-stops _ _ _ _ _ _ _ _ c.take_some-m.ensures stopped)

pub loop-i-preserved : goal.loop-i-preserved
loop-i-preserved c =
    let more : is_more c.take_some-m.result.what ≡ true = search rules in
    code-goes-on _ _ _ _ _ _ _ _ c.take_some-m.ensures more ∙ c.loop-i.invariant

pub returns : goal.returns
returns c =
    rw (← c.loop-i.invariant, code-ends _ _ _ _ _ c.loop-i-test.false) (record { moved = refl; table = refl; buffer = refl })
