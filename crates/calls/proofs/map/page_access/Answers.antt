-- `map::page_access` meets its contract: two refusals, and then those and the answer of call 18.
use mathlib.Core.Path.{◌≡◌, refl, sym, ◌∙◌}
use mathlib.Core.List.{List, [], ◌∷◌}
use Prim.Native.Nat.{ℕ, ◌-◌}
use lib.Dec.{leb, eqb}
use Rattle.rules.specs.Layout.{process, configuration, at, pages, page_at}
use Rattle.rules.specs.Errors.{XbParam, XbSgDes}
use Rattle.rules.specs.Rule.{Refusal, ◌⇒◌, first_refusal}
use Rattle.rules.specs.Call18.{access_of}
use Rattle.rules.specs.Call20.{page_access}
use Rattle.calls.specs.declared.Answer.{Answer}
use Rattle.calls.specs.World.{words_of}
use Rattle.calls.specs.Left.{rule_at, Left}
use Rattle.calls.specs.declared.error.Error.{Error}
use Rattle.calls.specs.Refusing.{number_of}
use Rattle.calls.proofs.Refusals.{first_passes}
use Rattle.calls.proofs.Refused.{stopped}
use Rattle.calls.proofs.Leaves.{left-stopped, left-alike}
use Rattle.calls.proofs.map.page_access.Goals as goal

-- the code's own tests: w is what page a holds
abbrev tests : ℕ → ℕ → List Refusal
tests a w = (leb pages a ⇒ XbParam) ∷ (eqb w 0 ⇒ XbSgDes) ∷ []

module _ (t : List ℕ) (p a : ℕ) (buffer : List ℕ) {w : ℕ} (page : w ≡ words_of t (at process p (page_at a))) where
  -- what one of them ends with is the rule's first refusal
  number : (e : Error) → number_of e ≡ first_refusal (tests a w) → number_of e ≡ first_refusal (rule_at t (λ h q. page_access h q p a buffer)).refusals
  unfolding page_access
  number e f = stopped (tests a w) (access_of (configuration t) (words_of t) p (w - 1) buffer).refusals e f ∙ rw page

  -- where neither holds, the rule is call 18's, of the designator v
  passed : first_refusal (tests a w) ≡ 0 → {v : ℕ} → v ≡ w - 1 → {r : Answer} → Left t (λ h q. access_of h q p v buffer) r t
      → Left t (λ h q. page_access h q p a buffer) r t
  unfolding page_access
  passed z ve l =
      left-alike t (λ h q. access_of h q p (w - 1) buffer) (λ h q. page_access h q p a buffer)
      (sym (first_passes (tests a w) (access_of (configuration t) (words_of t) p (w - 1) buffer).refusals refl z) ∙ rw page) (rw page) (rw ve at l)

pub returns-in_err-refuse : goal.returns-in_err-refuse
returns-in_err-refuse c =
    λ buffer. left-stopped _ _ _ _ (number _ _ _ buffer c.read-w.ensures _ c.in_err-refuse.ensures) c.from_residual.ensures.0 c.from_residual.ensures.1

pub returns : goal.returns
returns c =
    λ buffer. passed _ _ _ buffer c.read-w.ensures (sym c.in_ok-refuse.ensures) c.saturating_sub.ensures (c.access_of.ensures buffer)
