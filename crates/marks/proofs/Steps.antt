-- The search for a clash is what the definitions say: bit by bit, and mask by mask.
use mathlib.Core.Path.{◌≡◌, refl, sym, ◌∙◌}
use mathlib.Core.Bool.{Bool, true, false, ◌&&◌}
use mathlib.Core.List.{List}
use Prim.Native.Nat.{ℕ, zero, suc, ◌+◌, ◌-◌, ◌*◌, ◌/◌, ◌%◌, ◌^◌, ◌≤◌, ◌<◌}
use native.Mathlib.Omega.{arith}
use native.Mathlib.Nat.{mul-le-mul}
use lib.Dec.{eqb}
use lib.ListN.{get_or}
use borrow.Author.Count.{below_more}
use Rattle.rules.specs.Layout.{entries, process, record_words}
use Rattle.laws.proofs.Below.{some_of, some-none}
use Rattle.marks.specs.Masks.{clashes_here, met, row_met}

-- ---- the search bit by bit

pub met-zero : (t : List ℕ) (at s b k x d : ℕ) → x ≡ 0 → met t at s b k x d ≡ false
unfolding met
met-zero t at s b zero x d e = refl
met-zero t at s b (suc k) x d e = rw e (met-zero t at s b k 0 (suc d) refl)

pub met-past : (t : List ℕ) (at s b k x d : ℕ) → k ≤ 0 → met t at s b k x d ≡ false
unfolding met
met-past t at s b zero x d l = refl
met-past t at s b (suc k) x d l = absurd (omega arith)

pub met-turn : (t : List ℕ) (at s b k n x d : ℕ) → k ≡ suc n → eqb (x % 2) 1 && clashes_here t at s b d ≡ false → met t at s b k x d ≡ met t at s b n (x / 2) (d + 1)
unfolding met
met-turn t at s b zero n x d l e = absurd (omega arith)
met-turn t at s b (suc k) n x d l e =
    let z : k ≡ n = omega arith in
    let p : d + 1 ≡ suc d = omega arith in
    rw (e, z, p)

pub met-hit : (t : List ℕ) (at s b k x d : ℕ) → 0 < k → eqb (x % 2) 1 && clashes_here t at s b d ≡ true → met t at s b k x d ≡ true
unfolding met
met-hit t at s b zero x d l e = absurd (omega arith)
met-hit t at s b (suc k) x d l e = rw e

-- ---- the search mask by mask

-- places in steps: a number of 32 bits by a lesser one, and one more, stay below 2^64
pub step_fits : (step i : ℕ) → step < 2 ^ 32 → i + 1 < 2 ^ 32 → step * i ≤ (2 ^ 32 - 1) * (2 ^ 32 - 2)
step_fits step i l h = mul-le-mul {n₁ = step} {m₁ = i} {n₂ = 2 ^ 32 - 1} {m₂ = 2 ^ 32 - 2} (omega arith) (omega arith)

-- what the mask of process i says
abbrev met_at : List ℕ → List ℕ → ℕ → ℕ → ℕ → ℕ → ℕ → ℕ → Bool
met_at t w held row width s b i = met t (held + record_words process * i) s b entries (get_or w (row + width * i) 0) 0

-- no mask of the first i processes names a descriptor that clashes
pub record Missed (t w : List ℕ) (held row width s b i : ℕ) : Type 0 where
  pub all : (k : ℕ) → k < i → met_at t w held row width s b k ≡ false

pub missed-none : {t w : List ℕ} {held row width s b : ℕ} → Missed t w held row width s b 0
missed-none = record { all = λ k l. absurd (omega arith) }

module _ {t w : List ℕ} {held row width s b i : ℕ} (p : Missed t w held row width s b i) where
  told : (v : Bool) {x : ℕ} {r : Bool} → x ≡ get_or w (row + width * i) 0 → r ≡ met t (held + record_words process * i) s b entries x 0 → r ≡ v
      → met_at t w held row width s b i ≡ v
  told v e m q = rw e at (sym m ∙ q)

  pub missed_more : {x : ℕ} {r : Bool} → x ≡ get_or w (row + width * i) 0 → r ≡ met t (held + record_words process * i) s b entries x 0 → r ≡ false
      → Missed t w held row width s b (i + 1)
  missed_more e m q = record { all = below_more (λ (k : ℕ). met_at t w held row width s b k ≡ false) i p.all (told false e m q) }

  module _ {first at step n count : ℕ} (a : held ≡ first) (c : row ≡ at) (d : width ≡ step) (f : count ≡ n) where
    pub row-hit : {x : ℕ} {r : Bool} → i < count → x ≡ get_or w (row + width * i) 0 → r ≡ met t (held + record_words process * i) s b entries x 0 → r ≡ true
        → true ≡ row_met t w first n at step s b
    unfolding row_met
    row-hit l e m q = rw (← a, ← c, ← d, ← f) (sym (some_of count (met_at t w held row width s b) i l (told true e m q)))

    pub row-missed : count ≤ i → false ≡ row_met t w first n at step s b
    unfolding row_met
    row-missed l = rw (← a, ← c, ← d, ← f) (sym (some-none count (met_at t w held row width s b) (λ k h. p.all k (omega arith))))
