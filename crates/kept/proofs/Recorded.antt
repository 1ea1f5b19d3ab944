-- One record of a tray, on a well-formed table: where its part lies inside the byte slice, what it does is what `step` does with its call; where it does not, nothing
-- changes. So a record keeps tables well formed, and their configuration.
use mathlib.Core.Path.{◌≡◌, refl, sym, ap, ◌∙◌}
use mathlib.Core.Bool.{true, false, cond}
use mathlib.Core.List.{List, [], ◌∷◌}
use Prim.Native.Nat.{ℕ}
use native.Mathlib.Omega.{arith}
use lib.ListN.{length}
use borrow.Author.Tests.{ne_eqb}
use Rattle.rules.specs.Layout.{configuration, rd}
use Rattle.rules.specs.WellFormed.{well_formed}
use Rattle.rules.specs.Errors.{XbPrSd, XbdKcl, XbSz}
use Rattle.rules.specs.Rule.{◌⇒◌, first_refusal, Rule}
use Rattle.rules.specs.Step.{State, answer, Outcome, bad_caller, bad_code, carried_out, whole_rule, step, next}
use Rattle.rules.specs.Tray.{Record, part_of, record_call, inside, record_rule, record_step}
use Rattle.laws.proofs.Tests.{cond-true, cond-false, cond_both, split}
use Rattle.laws.proofs.Claims.{tested}
use Rattle.kept.proofs.Kept.{Well, kept, conf-kept}

-- a part that lies outside: the number, and nothing changed
abbrev pub outside_number : State → Record → ℕ
outside_number s r =
    first_refusal
    ((bad_caller (configuration s.table) (rd (configuration s.table) s.table) r.caller ⇒ XbPrSd) ∷ (bad_code r.code ⇒ XbdKcl)
    ∷ (true ⇒ XbSz) ∷ [])

abbrev pub refused_outside : State → List ℕ → Record → Outcome
refused_outside s bytes r = record { answered = answer (outside_number s r) 0 0; state = s; buffer = part_of bytes r }

module _ (s : State) (bytes : List ℕ) (r : Record) where
  abbrev conf : List ℕ
  conf = configuration s.table

  -- two rules with one effect and one number are carried out alike
  same-carried : (k j : Rule) → k.effects ≡ j.effects → first_refusal k.refusals ≡ first_refusal j.refusals
      → carried_out conf s (part_of bytes r) k ≡ carried_out conf s (part_of bytes r) j
  unfolding carried_out
  same-carried k j e f = rw (e, f) refl

  pub inside-is-step : Well s → inside bytes r ≡ true → record_step s bytes r ≡ step s (record_call bytes r)
  unfolding record_step step record_rule whole_rule
  inside-is-step w e =
      same-carried (record_rule conf s bytes r) (whole_rule conf s (record_call bytes r)) refl
      (rw (e, tested (well_formed s.table (length s.store)) w) refl)

  pub not-zero : outside_number s r ≡ 0 → ⊥
  not-zero =
      split _ (bad_caller conf (rd conf s.table) r.caller)
      (λ e. rw e (λ f. omega arith))
      (λ e. split _ (bad_code r.code) (λ f. rw (e, f) (λ g. omega arith)) (λ f. rw (e, f) (λ g. omega arith)))

  -- a rule that a refusal stops
  stopped : (k : Rule) (n : ℕ) → first_refusal k.refusals ≡ n → (n ≡ 0 → ⊥)
      → carried_out conf s (part_of bytes r) k ≡ record { answered = answer n 0 0; state = s; buffer = part_of bytes r }
  unfolding carried_out
  stopped k n e z = rw (e, ne_eqb n 0 z) refl

  pub outside-is-refused : inside bytes r ≡ false → record_step s bytes r ≡ refused_outside s bytes r
  unfolding record_step record_rule
  outside-is-refused e = stopped (record_rule conf s bytes r) (outside_number s r) (rw e refl) not-zero

  -- what a record leaves is what its call leaves, or the state as it was
  pub state-is : Well s → (record_step s bytes r).state ≡ cond (inside bytes r) (next s (record_call bytes r)) s
  state-is w = split _ (inside bytes r)
      (λ e. ap (λ (o : Outcome). o.state) (inside-is-step w e) ∙ sym (cond-true (inside bytes r) (next s (record_call bytes r)) s e))
      (λ e. ap (λ (o : Outcome). o.state) (outside-is-refused e) ∙ sym (cond-false (inside bytes r) (next s (record_call bytes r)) s e))

  -- a table stays well formed, and its configuration as it was
  pub record-kept : Well s → Well (record_step s bytes r).state
  record-kept w = rw (state-is w) (cond_both Well (inside bytes r) (next s (record_call bytes r)) s (λ e. kept s (record_call bytes r) w) (λ e. w))

  pub record-conf-kept : Well s → configuration (record_step s bytes r).state.table ≡ conf
  record-conf-kept w = rw (state-is w) (cond_both (λ (x : State). configuration x.table ≡ conf) (inside bytes r) (next s (record_call bytes r)) s
      (λ e. conf-kept s (record_call bytes r) w) (λ e. refl))
