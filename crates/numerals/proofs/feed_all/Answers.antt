-- `numerals::feed_all` meets its contract: from each place on, the rest of the bytes makes of the part what all of them make of the first.
use mathlib.Core.Path.{◌≡◌, ◌∙◌}
use native.Mathlib.Omega.{arith}
use Rattle.numerals.proofs.Scanning.{code-more, code-stops, code-end}
use Rattle.numerals.proofs.feed_all.Goals as goal

pub returns-in_default : goal.returns-in_default
returns-in_default c =
    code-stops _ _ _ c.loop-i-test.true _ c.feed.ensures c.in_default.not-More ∙ c.loop-i.invariant.1

pub loop-i-preserved : goal.loop-i-preserved
loop-i-preserved c =
    (omega arith, code-more _ _ _ c.loop-i-test.true _ c.feed.ensures _ c.in-More.is ∙ c.loop-i.invariant.1)

pub returns : goal.returns
returns c =
    let ended : c.max.result ≡ c.loop-i.i = omega arith in
    rw ended (code-end _ _ _ c.loop-i-test.false ∙ c.loop-i.invariant.1)
