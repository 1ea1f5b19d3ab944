-- The loop over the records of a quick tray, on plain values: what the judging came to, what holds of the working slice beside what `Going` says, and what it comes to
-- at the end.
use mathlib.Core.Bool.{Bool, true, false, cond, ◌&&◌, true≢false}
use mathlib.Core.List.{List}
use mathlib.Core.Path.{◌≡◌, refl, sym, ap, ◌∙◌}
use Prim.Native.Nat.{ℕ, ◌≤◌, ◌<◌}
use native.Mathlib.Omega.{arith}
use borrow.Author.Tests.{eqb-true, eq-eqb}
use lib.Dec.{ltb, eqb}
use mathlib.Core.WellFounded.InvImage
use mathlib.Core.WellFounded.{WellFounded}
use lib.ListN.{length, length-map}
use Rattle.rules.specs.Claim.{test}
use Rattle.rules.specs.WellFormed.{well_formed}
use Rattle.rules.specs.SetUp.{can_set_up}
use Rattle.rules.specs.Errors.{XOK}
use Rattle.rules.specs.Tray as rules
use Rattle.rules.specs.Tray.{Tray, left, most_records}
use Rattle.rules.specs.Work.{work_in}
use Rattle.rules.specs.Quick.{Quick, beside, same_words, quick_answer, after_quick}
use Rattle.laws.proofs.Tests.{and_right, cond-true, cond-false, split}
use Rattle.laws.proofs.Claims.{holds, tested}
use Rattle.laws.proofs.Same.{same-equal}
use Rattle.follow.proofs.Made.{same-right, right-same}
use Rattle.layout.specs.Hall.{matrix_in}
use Rattle.calls.specs.declared.Record.{Record}
use Rattle.calls.specs.Did.{state_of}
use Rattle.calls.specs.Tray.{rule_record, rule_records, Ready, begun, no_hall, verdict_of}
use Rattle.calls.specs.Quick.{RightIn, QuickTrayed, begun_quick}
use Rattle.calls.proofs.TrayLaws.{corner-flows}
use Rattle.calls.proofs.Going.{Going, Turn, Less, less-ends, all-run, none-run, good-if-due, ready-if-due}

-- ---- the judging of a quick tray

-- a well-formed table can be set up
formed-fits : (t : List ℕ) (m : ℕ) → test (well_formed t m) ≡ true → test (can_set_up t m) ≡ true
unfolding well_formed can_set_up
formed-fits t m e = let h = holds (well_formed t m) e in tested (can_set_up t m) (h.0, h.1.0)

-- the verdict on what the judging handed on is the rules' answer
verdict-quick : (t s w : List ℕ) (rs : List rules.Record) → verdict_of (begun_quick t (length s) (length rs) w) (length rs) ≡ quick_answer (state_of t s) w rs
unfolding verdict_of begun begun_quick quick_answer
verdict-quick t s w rs = split _ (ltb most_records (length rs))
    (λ l. rw l refl)
    (λ l. rw l (split _ (test (well_formed t (length s)))
    (λ e. rw (e, formed-fits t (length s) e) (split _ (same_words w (work_in t))
    (λ x. rw (x, corner-flows t (length s) e) refl)
    (λ x. rw x refl)))
    (λ e. rw e (split _ (test (can_set_up t (length s)) && same_words w (work_in t)) (λ x. rw x refl) (λ x. rw x refl)))))

-- where nothing is handed on, no tray is run
none_told : (count : ℕ) → verdict_of no_hall count ≡ XOK → ⊥
unfolding verdict_of
none_told count = split _ (ltb most_records count) (λ l. rw l (λ e. omega arith)) (λ l. rw l (λ e. omega arith))

-- where the verdict is 0, a plain tray's judging hands on the same, and the working slice is the table's
right-if : (t s w : List ℕ) (count : ℕ) → verdict_of (begun_quick t (length s) count w) count ≡ XOK
    → (begun_quick t (length s) count w ≡ begun t (length s) count) × RightIn t w
unfolding begun_quick
right-if t s w count = split _ (test (can_set_up t (length s)) && same_words w (work_in t))
    (λ x. rw x (λ _. (refl, same-right t w (and_right (test (can_set_up t (length s))) (same_words w (work_in t)) x))))
    (λ x. rw x (λ e. absurd (none_told count e)))

-- ---- the working slice where a turn begins

-- where the verdict is 0 it is the table's; otherwise it is what was lent
pub record Beside (w₀ : List ℕ) (v : ℕ) (t w : List ℕ) : Type 0 where
  pub work-long : length w ≡ length w₀
  pub right : v ≡ 0 → RightIn t w
  pub same : (v ≡ 0 → ⊥) → w ≡ w₀

-- what the judging came to: the answer is the rules', where anything is due the table is ready, and where the verdict is 0 the slice is right
module _ (t s w : List ℕ) (rs : List Record) (hall : List ℕ) (he : hall ≡ begun_quick t (length s) (length rs) w) (v : ℕ) (ve : v ≡ verdict_of hall (length rs)) where
  pub answer-quick : v ≡ quick_answer (state_of t s) w (rule_records rs)
  answer-quick =
      ve ∙ ap (λ (x : List ℕ). verdict_of x (length rs)) he
      ∙ ap (λ (k : ℕ). verdict_of (begun_quick t (length s) k w) k) (sym (length-map rs rule_record)) ∙ verdict-quick t s w (rule_records rs)

  judged : v ≡ 0 → (begun_quick t (length s) (length rs) w ≡ begun t (length s) (length rs)) × RightIn t w
  judged e = right-if t s w (length rs) (sym (ap (λ (x : List ℕ). verdict_of x (length rs)) he) ∙ sym ve ∙ e)

  pub ready-quick : (m : List (List Bool)) → m ≡ matrix_in hall → (n : ℕ) → n ≡ cond (eqb v 0) (length rs) 0 → 0 < n → Ready t s m hall
  ready-quick m me n e l = ready-if-due t s rs hall (he ∙ (judged (good-if-due v n (length rs) e l)).0) v ve m me n e l

  pub start-beside : Beside w v t w
  start-beside = record { work-long = refl; right = λ e. (judged e).1; same = λ _. refl }

-- a turn keeps it
pub more-beside : (w₀ : List ℕ) (v : ℕ) (t w t' w' : List ℕ) → Beside w₀ v t w → v ≡ 0 → length w' ≡ length w → RightIn t' w' → Beside w₀ v t' w'
more-beside w₀ v t w t' w' b e l r = record { work-long = l ∙ b.work-long; right = λ _. r; same = λ n. absurd (n e) }

-- ---- at the end

module _ (t₀ s₀ b₀ w₀ : List ℕ) (rs : List Record) (m : List (List Bool)) (hall : List ℕ) (n i : ℕ) (t s b w : List ℕ) (zs : List Record)
    (g : Going t₀ s₀ b₀ rs m hall n i t s b zs) (d : Record) (h : n ≤ i) (v : ℕ) (k : Beside w₀ v t w) (f : v ≡ quick_answer (state_of t₀ s₀) w₀ (rule_records rs)) where
  abbrev left_here : Tray
  left_here = left (state_of t s) b (rule_records zs)

  -- the quick tray's definition by its test
  quick-is : (c : Bool) → eqb (quick_answer (state_of t₀ s₀) w₀ (rule_records rs)) XOK ≡ c → n ≡ cond c (length rs) 0
      → after_quick (state_of t₀ s₀) w₀ b₀ (rule_records rs) ≡ beside left_here w
  unfolding after_quick
  quick-is true e l =
      let zero : v ≡ 0 = f ∙ eqb-true (quick_answer (state_of t₀ s₀) w₀ (rule_records rs)) XOK e in
      cond-true (eqb (quick_answer (state_of t₀ s₀) w₀ (rule_records rs)) XOK) _ _ e
      ∙ ap (λ (x : Tray). beside x (work_in x.state.table)) (all-run t₀ s₀ b₀ rs m hall n i t s b zs g d h l)
      ∙ ap (beside left_here) (sym (same-equal w (work_in t) (right-same t w (k.right zero))))
  quick-is false e l =
      cond-false (eqb (quick_answer (state_of t₀ s₀) w₀ (rule_records rs)) XOK) _ _ e
      ∙ ap (λ (x : Tray). beside x w₀) (none-run t₀ s₀ b₀ rs m hall n i t s b zs g d h l)
      ∙ ap (beside left_here) (sym (k.same (λ z. true≢false (sym (eq-eqb (quick_answer (state_of t₀ s₀) w₀ (rule_records rs)) XOK (sym f ∙ z)) ∙ e))))

  pub ends-quick : n ≡ cond (eqb v 0) (length rs) 0 → QuickTrayed (state_of t₀ s₀) b₀ w₀ rs v t s b zs w
  ends-quick e =
      let x = quick-is (eqb (quick_answer (state_of t₀ s₀) w₀ (rule_records rs)) XOK) refl (e ∙ ap (λ (z : ℕ). cond (eqb z 0) (length rs) 0) f) in
      record {
        answer = f;
        table = sym (ap (λ (a : Quick). a.tray.state.table) x);
        store = sym (ap (λ (a : Quick). a.tray.state.store) x);
        bytes = sym (ap (λ (a : Quick). a.tray.bytes) x);
        records = sym (ap (λ (a : Quick). a.tray.records) x);
        work = sym (ap (λ (a : Quick). a.work) x);
      }

-- a turn, as the loop's variant has it: a tray's, with the working slice
pub record QuickTurn (t₀ s₀ b₀ w₀ : List ℕ) (rs : List Record) (m : List (List Bool)) (hall : List ℕ) (n v : ℕ) : Type 0 where
  pub turn : Turn t₀ s₀ b₀ rs m hall n
  pub w : List ℕ
  pub aside : Beside w₀ v turn.t w

module _ (t₀ s₀ b₀ w₀ : List ℕ) (rs : List Record) (m : List (List Bool)) (hall : List ℕ) (n v : ℕ) where
  abbrev pub QuickLess : QuickTurn t₀ s₀ b₀ w₀ rs m hall n v → QuickTurn t₀ s₀ b₀ w₀ rs m hall n v → Type 0
  QuickLess x' x = Less t₀ s₀ b₀ rs m hall n x'.turn x.turn

  pub quick-ends : WellFounded QuickLess
  quick-ends = InvImage.wf (λ (x : QuickTurn t₀ s₀ b₀ w₀ rs m hall n v). x.turn) (less-ends t₀ s₀ b₀ rs m hall n)
