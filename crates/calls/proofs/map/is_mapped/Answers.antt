-- `map::is_mapped` meets its contract: some page is found, or each is looked at.
use mathlib.Core.Path.{◌≡◌, ◌∙◌}
use Prim.Native.Nat.{◌+◌}
use lib.Dec.{eqb}
use lib.ListN.{length}
use borrow.Author.Rules.{rules}
use borrow.Author.Tests.{tests}
use Rattle.std.proofs.lemmas.Iterator.{YieldsList-from_slice}
use Rattle.std.proofs.lemmas.Iterator.Search.{any_from_yields_List}
use Rattle.rules.specs.Layout.{pages}
use Rattle.rules.specs.Call19.{is_mapped}
use Rattle.calls.proofs.MapLaws.{some_listed}
use Rattle.calls.proofs.map.is_mapped.Goals as goal

pub returns : goal.returns
unfolding is_mapped
returns c =
    let a = c.args in
    let long : length a.m ≡ pages = search rules in
    any_from_yields_List (λ x. eqb x (a.d + 1)) _ _ _ c.any.ensures.ran (YieldsList-from_slice a.m cc) (λ x b q k. search (rules, tests))
    ∙ (rw long at (some_listed (λ x. eqb x (a.d + 1)) a.m))
