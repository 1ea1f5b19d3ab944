-- 02, CR 1. 20. Access of a page: "Call 20 asks about page a: over 7 is 4, an empty page 9; it answers as call 18 does for that designator."
use Rattle.std.specs.Prelude.{List, ◌∷◌, ℕ, ◌-◌, leb, eqb}
use Rattle.rules.specs.Layout.{process, Addr, at, pages, page_at}
use Rattle.rules.specs.Errors.{XbParam, XbSgDes}
use Rattle.rules.specs.Rule.{◌⇒◌, Rule, rule}
use Rattle.rules.specs.Call18.{access_of}

unfoldable pub page_access : List ℕ → (Addr → ℕ) → ℕ → ℕ → List ℕ → Rule
page_access h r p a buffer =
    let w : ℕ = r (at process p (page_at a)) in
    let own : Rule = access_of h r p (w - 1) buffer in
    rule ((leb pages a ⇒ XbParam) ∷ (eqb w 0 ⇒ XbSgDes) ∷ own.refusals) own.effects
