-- `numerals::grow` meets its contract: to move a group up by seven bits for each group before it is to give it its weight.
use mathlib.Core.Path.{refl}
use native.Mathlib.Omega.{arith}
use Rattle.numerals.proofs.Weights.{grown-small, moved-up}
use Rattle.numerals.proofs.grow.Goals as goal

pub returns : goal.returns
returns c =
    let v = c.args.p.value in
    let b = c.args.b in
    let n = c.args.p.count in
    rw (c.from.ensures, c.from-2.ensures, moved-up b n c.requires) (refl, grown-small v b n (omega arith) c.requires)
