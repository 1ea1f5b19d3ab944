-- A number written in a base, digit by digit: with room for all its digits, more room changes nothing.
use mathlib.Core.Path.{◌≡◌, sym, ◌∙◌}
use Prim.Native.Nat.{ℕ, zero, suc, ◌/◌, ◌^◌, ◌<◌, ◌≤◌}
use native.Mathlib.Omega.{arith}
use native.Mathlib.Decide.{dec_lt}
use native.Mathlib.Nat.{pow-suc, pow-zero, div-lt_iff_lt-mul}

-- written k v: the digits of v, k at most; the only one, or one more beside those of the rest
module _ {T : Type 0} (b : ℕ) (pos : 0 < b) (written : ℕ → ℕ → T) (one : ℕ → T) (more : ℕ → T → T)
    (only : (k v : ℕ) → v < b → written (suc k) v ≡ one v)
    (rest : (k v : ℕ) → b ≤ v → written (suc k) v ≡ more v (written k (v / b))) where
  pub roomy : (k v : ℕ) → v < b ^ suc k → written (suc (suc k)) v ≡ written (suc k) v
  roomy zero v h =
      let l : v < b = omega (arith, rw (pow-suc, pow-zero) at h) in
      only 1 v l ∙ sym (only 0 v l)
  roomy (suc k) v h = elim (dec_lt v b) [
    | yes l ↦ only (suc (suc k)) v l ∙ sym (only (suc k) v l)
    | no n ↦
        let m : b ≤ v = omega arith in
        let less : v / b < b ^ suc k = (div-lt_iff_lt-mul {k = b} {x = v} {y = b ^ suc k} pos).1 (rw pow-suc at h) in
        rw (rest (suc (suc k)) v m, rest (suc k) v m, roomy k (v / b) less)
  ]
