-- "Demand 3 covers its bytes as it does the buffer's" (02, CR 8): in two well-formed states that agree on all that a set of cells may see, a view by a caller of the
-- set has the same number and shows the same bytes, at the same place. A view by anyone changes nothing: its rule has no state to leave, and its code is lent
-- table and store to read alone.
use mathlib.Core.Path.{◌≡◌, refl, sym, ap, ◌∙◌}
use mathlib.Core.Bool.{Bool, true, false}
use mathlib.Core.List.{List}
use Prim.Native.Nat.{ℕ}
use native.Mathlib.Decide.{ℕ_discrete}
use lib.ListN.{length, replicate, length-replicate}
use Rattle.rules.specs.Layout.{block_bytes, file, configuration, rd}
use Rattle.rules.specs.Step.{State, Call, Reply, reply}
use Rattle.rules.specs.Observer.{observer, Closed, Agree, stays}
use Rattle.rules.specs.Regrade.{asks}
use Rattle.rules.specs.View.{view_number, block_place, view_from, view_count, view_shown}
use Rattle.laws.proofs.Tests.{both_ways}
use Rattle.kept.proofs.Kept.{Well}
use Rattle.promises.proofs.View as promised
use Rattle.promises.proofs.View.{reading}
use Rattle.secrecy.proofs.CellFlow.{observer-closed}
use Rattle.secrecy.proofs.View.{same-held}
use Rattle.secrecy.proofs.Shown.{object-file}
use Rattle.secrecy.proofs.Steps.{WellUnder, in_table, at-configuration, viewed, remains}

-- a read of the same block, into 512 zeros: who may not see the one, may not see the other
abbrev pub read : ℕ → ℕ → ℕ → Call
read p a b = reading p a b 0 (replicate block_bytes 0)

long : length (replicate {A = ℕ} block_bytes 0) ≡ block_bytes
long = length-replicate {A = ℕ} block_bytes 0

-- the number, the bytes and the place
pub record SameView (s t : State) (p a b : ℕ) : Type 0 where
  pub number : view_number s p a b ≡ view_number t p a b
  pub shown : view_shown s p a b ≡ view_shown t p a b
  pub from : view_from s p a b ≡ view_from t p a b
  pub count : view_count s p a b ≡ view_count t p a b

module _ (C : ℕ → Bool) (s t : State) (ws : Well s) (wt : Well t) (cl : Closed (configuration s.table) C) (g : Agree C s t) (p a b : ℕ)
    (m : stays (configuration s.table) C (read p a b) ≡ true) where
  abbrev h : List ℕ
  h = configuration s.table

  one : WellUnder h s
  one = record { formed = ws; configured = refl }

  other : WellUnder h t
  other = record { formed = wt; configured = sym g.configurations }

  -- a read is no regrade, and asks about no cell
  replied : reply s (read p a b) ≡ reply t (read p a b)
  unfolding asks
  replied = (remains h C cl s t one other (at-configuration h C s t refl g) (read p a b) m (λ e. both_ways false e refl)).0

  number_same : view_number s p a b ≡ view_number t p a b
  unfolding reply
  number_same = promised.same_number s p a b 0 _ long ∙ ap (λ (x : Reply). x.answered.error) replied ∙ sym (promised.same_number t p a b 0 _ long)

  -- the entry is the caller's own
  place_same : view_number s p a b ≡ 0 → block_place h (rd h s.table) p a b ≡ block_place (configuration t.table) (rd (configuration t.table) t.table) p a b
  unfolding block_place
  place_same e =
      let v = viewed h C cl s t one other (at-configuration h C s t refl g) (read p a b) m (in_table h s one (read p a b) (promised.shown-caller s p a b e)) in
      rw (← g.configurations, same-held v file a object-file (promised.shown-entry s p a b e)) refl

  pub view-alike : SameView s t p a b
  unfolding reply
  view-alike = elim (ℕ_discrete (view_number s p a b) 0) [
    | yes e ↦ let f = sym number_same ∙ e in record {
      number = number_same;
      shown = promised.same_bytes s p a b 0 _ long e ∙ ap (λ (x : Reply). x.buffer) replied ∙ sym (promised.same_bytes t p a b 0 _ long f);
      from = promised.shown-from s p a b e ∙ place_same e ∙ sym (promised.shown-from t p a b f);
      count = promised.shown-count s p a b e ∙ sym (promised.shown-count t p a b f);
    }
    | no n ↦ let o : view_number t p a b ≡ 0 → ⊥ = λ e. n (number_same ∙ e) in record {
      number = number_same;
      shown = promised.refused-shows-nothing s p a b n ∙ sym (promised.refused-shows-nothing t p a b o);
      from = promised.refused-from s p a b n ∙ sym (promised.refused-from t p a b o);
      count = promised.refused-count s p a b n ∙ sym (promised.refused-count t p a b o);
    }
  ]

-- one observer, a cell o: the set of the cells that flow to it
pub one-observer-views : (o : ℕ) (s t : State) → Well s → Well t → let h : List ℕ = configuration s.table in Agree (observer h o) s t
    → (p a b : ℕ) → stays h (observer h o) (read p a b) ≡ true → SameView s t p a b
one-observer-views o s t ws wt =
    view-alike (observer (configuration s.table) o) s t ws wt (observer-closed (configuration s.table) o)
