-- `map::conflict` meets its contract: a run past page 7, or a used page of it.
use mathlib.Core.Path.{◌≡◌, ◌∙◌}
use mathlib.Core.Bool.{not}
use Prim.Native.Nat.{◌+◌, ◌-◌}
use native.Mathlib.Omega.{arith}
use lib.Dec.{eqb}
use lib.ListN.{length, take, drop}
use borrow.Author.Rules.{rules}
use borrow.Author.Tests.{tests, lt-ltb, le-ltb}
use Rattle.std.proofs.lemmas.Iterator.{YieldsList-from_slice}
use Rattle.std.proofs.lemmas.Iterator.Search.{any_from_yields_List}
use Rattle.rules.specs.Layout.{pages}
use Rattle.rules.specs.Call19.{conflict}
use Rattle.calls.proofs.MapLaws.{some_part}
use Rattle.calls.proofs.map.conflict.Goals as goal

pub returns-then-from-run-gt-PAGES : goal.returns-then-from-run-gt-PAGES
unfolding conflict
returns-then-from-run-gt-PAGES c = rw (lt-ltb pages (c.args.b + c.args.n) (omega arith))

pub returns-else-from-run-gt-PAGES : goal.returns-else-from-run-gt-PAGES
unfolding conflict
returns-else-from-run-gt-PAGES c =
    let a = c.args in
    let long : length a.m ≡ pages = search rules in
    rw (le-ltb pages (a.b + a.n) (omega arith))
    (any_from_yields_List (λ x. not (eqb x 0)) _ _ _ c.any.ensures.ran (YieldsList-from_slice (take (a.b + a.n - a.b) (drop a.b a.m)) cc)
    (λ x b q k. search (rules, tests))
    ∙ some_part (λ x. not (eqb x 0)) a.m a.b a.n (omega arith) (omega arith))
