-- The weights of groups, and bounds on the value of groups.
use mathlib.Core.Path.{◌≡◌, refl, sym, ap, ◌∙◌}
use Prim.Native.Nat.{ℕ, zero, suc, ◌+◌, ◌*◌, ◌%◌, ◌^◌, ◌<◌, ◌≤◌}
use native.Mathlib.Omega.{arith}
use native.Mathlib.Numerals.{add-one}
use native.Mathlib.Nat.{mul-le-mul_right, mul-suc, mod-eq_of_lt, pow-le-pow_right, pow-suc}
use Rattle.std.proofs.lemmas.Nat.{pow-add}
use lib.Dec.{lit≤}

pub next-weight : (n : ℕ) → 128 ^ (n + 1) ≡ 128 ^ n * 128
next-weight n = ap (λ (x : ℕ). 128 ^ x) (add-one n) ∙ pow-suc 128 n

pub weight-grows : (m n : ℕ) → m ≤ n → 128 ^ m ≤ 128 ^ n
weight-grows m n h = pow-le-pow_right (lit≤ tt) h

-- a group counts for less than the next weight
pub group-small : (b n : ℕ) → b % 128 * 128 ^ n ≤ 127 * 128 ^ n
group-small b n = mul-le-mul_right (128 ^ n) (let h : b % 128 ≤ 127 = omega arith in h)

pub grown-small : (v b n : ℕ) → v < 2 ^ 32 → n < 5 → v + b % 128 * 128 ^ n < 2 ^ 36
grown-small v b n h l = omega (arith, group-small b n, weight-grows n 4 (omega arith))

-- a group is moved up by its weight
weight-bits : (n : ℕ) → 2 ^ (7 * n) ≡ 128 ^ n
weight-bits zero = refl
weight-bits (suc n) =
    ap (λ (x : ℕ). 2 ^ x) (mul-suc 7 n) ∙ pow-add 2 (7 * n) 7 ∙ ap (λ (x : ℕ). x * 128) (weight-bits n)
    ∙ sym (pow-suc 128 n)

pub moved-up : (b n : ℕ) → n < 5 → b % 128 * 2 ^ (7 * n) % 2 ^ 64 ≡ b % 128 * 128 ^ n
moved-up b n h = rw weight-bits (mod-eq_of_lt (omega (arith, grown-small 0 b n (omega arith) h)))
