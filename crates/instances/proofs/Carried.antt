-- A call on a well-formed table, less the judgement of the table: that is nearly all there is to compute of a step, and crates/kept has it. The examples compute these.
use mathlib.Core.Path.{◌≡◌, refl, ap, ◌∙◌}
use mathlib.Core.Bool.{Bool, cond}
use mathlib.Core.List.{List, [], ◌∷◌, ◌++◌}
use Prim.Native.Nat.{ℕ}
use lib.Dec.{eqb}
use lib.ListN.{length}
use Rattle.rules.specs.Layout.{configuration, rd}
use Rattle.rules.specs.WellFormed.{well_formed}
use Rattle.rules.specs.Errors.{XOK, XbPrSd, XbdKcl}
use Rattle.rules.specs.Rule.{◌⇒◌, Rule, rule}
use Rattle.rules.specs.Call21.{carried}
use Rattle.rules.specs.Step.{State, Call, Reply, Outcome, rule_of, bad_caller, bad_code, carried_out, whole_rule, step, run, reply}
use Rattle.rules.specs.Observer.{stays, replies}
use Rattle.rules.specs.Regrade.{into, accepted, Event, remains, refused, brings, event, events}
use Rattle.laws.proofs.Claims.{tested}
use Rattle.kept.proofs.Kept.{Well, kept}

-- the step, without refusal 1
unfoldable pub judged : State → Call → Outcome
judged s k =
    let h : List ℕ = configuration s.table in
    let own : Rule = rule_of h (rd h s.table) s.store k in
    carried_out h s k.buffer
    (rule ((bad_caller h (rd h s.table) k.caller ⇒ XbPrSd) ∷ (bad_code k.code ⇒ XbdKcl) ∷ own.refusals) own.effects)

pub step-judged : (s : State) (k : Call) → Well s → step s k ≡ judged s k
unfolding step whole_rule carried_out judged
step-judged s k w = rw (tested (well_formed s.table (length s.store)) w) refl

-- a run of them
unfoldable pub run_judged : State → List Call → State
run_judged s [] = s
run_judged s (k ∷ ks) = run_judged (judged s k).state ks

pub run-judged : (s : State) (ks : List Call) → Well s → run s ks ≡ run_judged s ks
unfolding run run_judged
run-judged s [] w = refl
run-judged s (k ∷ ks) w = run-judged (step s k).state ks (kept s k w) ∙ ap (λ (o : Outcome). run_judged o.state ks) (step-judged s k w)

module _ (h : List ℕ) (C : ℕ → Bool) where
  unfoldable pub replies_judged : State → List Call → List Reply
  replies_judged s [] = []
  replies_judged s (k ∷ ks) =
      let o : Outcome = judged s k in
      cond (stays h C k) (record { answered = o.answered; buffer = o.buffer } ∷ replies_judged o.state ks) (replies_judged o.state ks)

  pub replies-judged : (s : State) (ks : List Call) → Well s → replies h C s ks ≡ replies_judged s ks
  unfolding replies reply replies_judged
  replies-judged s [] w = refl
  replies-judged s (k ∷ ks) w = rw (replies-judged (step s k).state ks (kept s k w), step-judged s k w) refl

  unfoldable pub events_judged : State → List Call → List (Event Call)
  events_judged s [] = []
  events_judged s (k ∷ ks) =
      let o : Outcome = judged s k in
      cond (stays h C k) (remains k ∷ [])
      (cond (into h C k)
      (cond (eqb o.answered.error XOK) (brings (carried h (rd h s.table) s.store k.caller k.a k.b k.c k.buffer)) refused ∷ [])
      [])
      ++ events_judged o.state ks

  pub events-judged : (s : State) (ks : List Call) → Well s → events h C s ks ≡ events_judged s ks
  unfolding events event accepted events_judged
  events-judged s [] w = refl
  events-judged s (k ∷ ks) w = rw (events-judged (step s k).state ks (kept s k w), step-judged s k w) refl
