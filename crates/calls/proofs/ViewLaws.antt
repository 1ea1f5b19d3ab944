-- The ends of a view: a bad table, a bad caller, and the block's own list.
use mathlib.Core.Path.{◌≡◌, refl, sym, ap, ◌∙◌}
use mathlib.Core.Bool.{Bool, true, false, cond}
use mathlib.Core.List.{List}
use Prim.Native.Nat.{ℕ, ◌+◌, ◌-◌, ◌≤◌}
use native.Mathlib.Omega.{arith}
use lib.Dec.{eqb}
use lib.ListN.{length, take, drop}
use borrow.Author.Tests.{ne_eqb}
use borrow.Rule.Slice.Shared.{by_byte}
use Rattle.rules.specs.Words.{part}
use Rattle.rules.specs.Claim.{test}
use Rattle.rules.specs.Layout.{block_bytes, configuration}
use Rattle.rules.specs.Rule.{first_refusal}
use Rattle.rules.specs.WellFormed.{well_formed}
use Rattle.rules.specs.Call13.{unbuffered}
use Rattle.rules.specs.Step.{bad_caller}
use Rattle.rules.specs.View.{view_refusals, view_number, block_place, view_from, view_count, view_shown}
use Rattle.layout.specs.declared.Header.{Header}
use Rattle.layout.specs.Header.{header_of}
use Rattle.calls.specs.declared.Part.{Part}
use Rattle.calls.specs.World.{Known, words_of}
use Rattle.calls.specs.declared.error.Error.{Error}
use Rattle.calls.specs.Refusing.{number_of}
use Rattle.calls.specs.Did.{state_of}
use Rattle.calls.specs.View.{part_of, view_part}
use Rattle.calls.proofs.Leaves.{refusal-some}
use Rattle.calls.proofs.Whole.{ready_by, known}
use Rattle.calls.proofs.TrayLaws.{ready-judged}

-- what judging has shown of the table
pub known_by : (t s : List ℕ) {x : Bool} {n : Header} → x ≡ test (well_formed t (length s)) → x ≡ true → n ≡ header_of t → Known t n
known_by t s xe e ne =
    known (ready-judged (ready_by t s xe e refl refl) ne)

module _ (t s : List ℕ) (p a b : ℕ) where
  -- the part hangs on the number alone
  abbrev part_at : ℕ → Part
  part_at e = part_of e (cond (eqb e 0) (block_place (configuration t) (words_of t) p a b) 0) (cond (eqb e 0) block_bytes 0)

  by_number : (e : ℕ) → view_number (state_of t s) p a b ≡ e → view_part (state_of t s) p a b ≡ part_at e
  unfolding view_from view_count
  by_number e f = rw f refl

  pub view-no-table : {x : Bool} {r : Part} → x ≡ test (well_formed t (length s)) → x ≡ false → r ≡ part_of 1 0 0
      → (r ≡ view_part (state_of t s) p a b) × (r.from + r.count ≤ length s)
  unfolding view_number view_refusals
  view-no-table xe f re =
      let bad : test (well_formed t (length s)) ≡ false = sym xe ∙ f in
      let number : view_number (state_of t s) p a b ≡ 1 = rw bad refl in
      (re ∙ sym (by_number 1 number), rw re (omega arith))

  module _ (good : test (well_formed t (length s)) ≡ true) {y : Bool} (ye : y ≡ bad_caller (configuration t) (words_of t) p) where
    pub view-no-caller : {r : Part} → y ≡ true → r ≡ part_of 2 0 0 → (r ≡ view_part (state_of t s) p a b) × (r.from + r.count ≤ length s)
    unfolding view_number view_refusals
    view-no-caller f re =
        let bad : bad_caller (configuration t) (words_of t) p ≡ true = sym ye ∙ f in
        let number : view_number (state_of t s) p a b ≡ 2 = rw (good, bad) refl in
        (re ∙ sym (by_number 2 number), rw re (omega arith))

    module _ (right : y ≡ false) where
      number-is : {e : ℕ} → e ≡ first_refusal (unbuffered (configuration t) (words_of t) p a b) → view_number (state_of t s) p a b ≡ e
      unfolding view_number view_refusals
      number-is own =
          let here : bad_caller (configuration t) (words_of t) p ≡ false = sym ye ∙ right in
          rw (good, here) (sym own)

      pub view-refused : (e : Error) → number_of e ≡ first_refusal (unbuffered (configuration t) (words_of t) p a b)
          → {r : Part} → r ≡ part_of (number_of e) 0 0
          → (r ≡ view_part (state_of t s) p a b) × (r.from + r.count ≤ length s)
      view-refused e own re =
          let none = ne_eqb (number_of e) 0 (refusal-some e) in
          (re ∙ sym (by_number (number_of e) (number-is own) ∙ rw none refl), rw re (omega arith))

      pub view-done : 0 ≡ first_refusal (unbuffered (configuration t) (words_of t) p a b) → {i : ℕ} → i ≡ block_place (configuration t) (words_of t) p a b
          → part_of 0 i block_bytes ≡ view_part (state_of t s) p a b
      view-done own place = rw place (sym (by_number 0 (number-is own)))

  -- the bytes from the first on, and their place
  pub bytes-shown : (q : ℕ × ℕ) {r : Part} → r ≡ view_part (state_of t s) p a b
      → (take (r.from + r.count - r.from) (drop r.from s) ≡ view_shown (state_of t s) p a b)
      × (◌≡◌ {A = ℕ × ℕ} (q.0, by_byte r.from q.1) (q.0, q.1 + view_from (state_of t s) p a b))
  unfolding view_shown part
  bytes-shown q {r} re =
      let n : r.from + r.count - r.from ≡ r.count = omega arith in
      let at : by_byte r.from q.1 ≡ q.1 + r.from = omega arith in
      let i : r.from ≡ view_from (state_of t s) p a b = ap (λ (x : Part). x.from) re in
      let k : r.count ≡ view_count (state_of t s) p a b = ap (λ (x : Part). x.count) re in
      (rw (n, ← i, ← k) refl, ap {B = ℕ × ℕ} (λ (y : ℕ). (q.0, y)) (at ∙ ap (λ (y : ℕ). q.1 + y) i))
