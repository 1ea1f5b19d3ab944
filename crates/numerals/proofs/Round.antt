-- What is written is read back, whatever follows; and what is read was written so, in no other form.
use mathlib.Core.Bool.{true, false, cond, ◌&&◌, ◌||◌, not}
use mathlib.Core.List.{List, [], ◌∷◌, ◌++◌}
use mathlib.Core.Path.{◌≡◌, refl, sym, ap, ap₂, ◌∙◌}
use Prim.Native.Nat.{ℕ, zero, suc, ◌+◌, ◌*◌, ◌/◌, ◌%◌, ◌^◌, ◌<◌, ◌≤◌}
use native.Mathlib.Omega.{arith}
use native.Mathlib.Decide.{dec_lt}
use native.Mathlib.Nat.{add-mul, mul_assoc, mul_comm, div-add-mod', mod-eq_of_lt}
use lib.Dec.{ltb, eqb}
use lib.ListN.{length, get_or}
use borrow.Author.Tests.{lt-ltb, le-ltb, ltb-true, eq-eqb, ne_eqb, eqb-false}
use Rattle.rules.specs.Replay.{max_groups, groups, encoded, took, bad, number_from, number}
use Rattle.laws.proofs.Tests.{split, and_left, and_right, or-by-left, or-by-right, not-of, or-rest, failed}
use Rattle.numerals.proofs.Weights.{next-weight}
use Rattle.numerals.proofs.Groups.{groups-one, groups-more}
use Rattle.numerals.proofs.Read.{last-group, other-group}

-- x's low group and the others make x
joined : (x w : ℕ) → x % 128 * w + x / 128 * (w * 128) ≡ x * w
joined x w =
    let a : x / 128 * 128 * w + x % 128 * w ≡ x * w = sym (add-mul (x / 128 * 128) (x % 128) w) ∙ ap (λ (y : ℕ). y * w) (div-add-mod' x 128) in
    let b : x / 128 * (w * 128) ≡ x / 128 * 128 * w = ap (λ (y : ℕ). x / 128 * y) (mul_comm w 128) ∙ sym (mul_assoc (x / 128) 128 w) in
    omega arith

-- ---- read back

-- the last group x of a number of which n groups are read, of value v
ends : (n v x : ℕ) (rest : List ℕ) → (0 < n → 0 < x) → x < 128 → v + x * 128 ^ n < 2 ^ 32 → number_from n v (x ∷ rest) ≡ took (v + x * 128 ^ n) rest
ends n v x rest pos h small =
    rw (last-group n v x rest h, mod-eq_of_lt h, lt-ltb (v + x * 128 ^ n) (2 ^ 32) small)
    (elim (dec_lt 0 n) [
      | yes l ↦ rw (or-by-right (eqb n 0) (not (eqb x 0)) (not-of (eqb x 0) (ne_eqb x 0 (λ e. let z = pos l in omega arith))))
      | no m ↦ rw (or-by-left (eqb n 0) (not (eqb x 0)) (eq-eqb n 0 (omega arith)))
    ])

goes_on : (n v x : ℕ) (s : List ℕ) → n + 1 < max_groups → number_from n v ((128 + x % 128) ∷ s) ≡ number_from (n + 1) (v + x % 128 * 128 ^ n) s
goes_on n v x s h =
    let e : (128 + x % 128) % 128 ≡ x % 128 = omega arith in
    rw (other-group n v (128 + x % 128) s (omega arith), e, lt-ltb (n + 1) max_groups h)

after : (n v x : ℕ) → v + x % 128 * 128 ^ n + x / 128 * 128 ^ (n + 1) ≡ v + x * 128 ^ n
after n v x = rw next-weight (omega (arith, joined x (128 ^ n)))

-- the fifth group is below 16
fifth : (n v x : ℕ) → n + 1 ≡ 5 → v + x * 128 ^ n < 2 ^ 32 → x < 128
fifth n v x e h =
    let c : n ≡ 4 = omega arith in
    let g : v + x * 128 ^ 4 < 2 ^ 32 = rw c at h in
    omega arith

written : (k n v x : ℕ) (rest : List ℕ) → n + suc k ≡ 5 → (0 < n → 0 < x) → v + x * 128 ^ n < 2 ^ 32
    → number_from n v (groups (suc k) x ++ rest) ≡ took (v + x * 128 ^ n) rest
written zero n v x rest e pos small = let h : x < 128 = fifth n v x e small in rw (groups-one 0 x h) (ends n v x rest pos h small)
written (suc k) n v x rest e pos small =
    elim (dec_lt x 128) [
      | yes h ↦ rw (groups-one (suc k) x h) (ends n v x rest pos h small)
      | no m ↦
          rw (groups-more (suc k) x (omega arith))
          (goes_on n v x (groups (suc k) (x / 128) ++ rest) (omega arith)
          ∙ written k (n + 1) (v + x % 128 * 128 ^ n) (x / 128) rest (omega arith) (λ z. omega arith) (rw (after n v x) small)
          ∙ ap (λ (y : ℕ). took y rest) (after n v x))
    ]

pub reads-back : (v : ℕ) (rest : List ℕ) → v < 2 ^ 32 → number (encoded v ++ rest) ≡ took v rest
reads-back v rest h = written 4 0 0 v rest refl (λ z. omega arith) (omega arith) ∙ ap (λ (x : ℕ). took x rest) (omega arith)

-- "300 is 172, 2"
pub worked : encoded 300 ≡ 172 ∷ 2 ∷ []
unfolding groups
worked = refl

-- ---- no other form

-- the groups of the number x stand at the front of s, and y is their value after n groups of value v
pub record Stood (k n v : ℕ) (s : List ℕ) (y : ℕ) (rest : List ℕ) : Type 0 where
  pub x : ℕ
  pub bytes : s ≡ groups (suc k) x ++ rest
  pub value : y ≡ v + x * 128 ^ n
  pub front : 0 < n → 0 < x
  pub small : y < 2 ^ 32

no_number : (y : ℕ) (rest : List ℕ) {A : Type 0} → bad ≡ took y rest → A
no_number y rest e = let z : ◌≡◌ {A = ℕ} 0 1 = cc in absurd (omega arith)

-- s stood at a last group b
stood-last : (k n v b : ℕ) (s : List ℕ) (y : ℕ) (rest : List ℕ) → b < 128 → number_from n v (b ∷ s) ≡ took y rest → Stood k n v (b ∷ s) y rest
stood-last k n v b s y rest h e =
    let value = v + b % 128 * 128 ^ n in
    let shortest = eqb n 0 || not (eqb b 0) in
    let f : cond (ltb value (2 ^ 32) && shortest) (took value s) bad ≡ took y rest = sym (last-group n v b s h) ∙ e in
    split _ (ltb value (2 ^ 32) && shortest)
    (λ t. let g : took value s ≡ took y rest = rw t at f in
    let i : value ≡ y = cc in
    let j : s ≡ rest = cc in
    let m : b % 128 ≡ b = mod-eq_of_lt h in
    record {
      x = b;
      bytes = rw (groups-one k b h, j);
      value = sym i ∙ ap (λ (z : ℕ). v + z * 128 ^ n) m;
      front = λ l. positive n b l (and_right (ltb value (2 ^ 32)) shortest t);
      small = rw i at (ltb-true value (2 ^ 32) (and_left (ltb value (2 ^ 32)) shortest t));
    })
    (λ t. no_number y rest (rw t at f))
  where
    positive : (n b : ℕ) → 0 < n → eqb n 0 || not (eqb b 0) ≡ true → 0 < b
    positive n b l t =
        let z : eqb b 0 ≡ false = failed (eqb b 0) (or-rest (eqb n 0) (not (eqb b 0)) t (ne_eqb n 0 (λ q. omega arith))) in
        elim (dec_lt 0 b) [ yes p ↦ p | no p ↦ absurd (eqb-false b 0 z (omega arith)) ]

-- a group b with the high bit, and the groups after it
stood-more : (k n v b : ℕ) (s : List ℕ) (y : ℕ) (rest : List ℕ) → 128 ≤ b → b < 256 → Stood k (n + 1) (v + b % 128 * 128 ^ n) s y rest → Stood (suc k) n v (b ∷ s) y rest
stood-more k n v b s y rest h byte t =
    let m = t.x in
    let l : 0 < t.x = t.front (omega arith) in
    let big : 128 ≤ t.x * 128 + b % 128 = omega arith in
    let low : 128 + (t.x * 128 + b % 128) % 128 ≡ b = omega arith in
    let high : (t.x * 128 + b % 128) / 128 ≡ t.x = omega arith in
    let same : (t.x * 128 + b % 128) % 128 ≡ b % 128 = omega arith in
    record {
      x = t.x * 128 + b % 128;
      bytes = ap (λ (l : List ℕ). b ∷ l) t.bytes ∙ sym (rw (groups-more (suc k) (t.x * 128 + b % 128) big, low, high));
      value =
          t.value
          ∙ ap₂ (λ (i j : ℕ). v + i * 128 ^ n + j * 128 ^ (n + 1)) (sym same) (sym high)
          ∙ after n v (t.x * 128 + b % 128);
      front = λ y. omega arith;
      small = t.small;
    }

stood-other : (s : List ℕ) (k n v b y : ℕ) (rest : List ℕ) → n + suc k ≡ 5 → b < 256 → 128 ≤ b
    → ((k : ℕ) → n + 1 + suc k ≡ 5 → number_from (n + 1) (v + b % 128 * 128 ^ n) s ≡ took y rest → Stood k (n + 1) (v + b % 128 * 128 ^ n) s y rest)
    → number_from n v (b ∷ s) ≡ took y rest → Stood k n v (b ∷ s) y rest
stood-other s zero n v b y rest c byte h again e =
    let f : number_from n v (b ∷ s) ≡ bad = rw (le-ltb (n + 1) max_groups (omega arith)) at (other-group n v b s h) in no_number y rest (sym f ∙ e)
stood-other s (suc k) n v b y rest c byte h again e =
    let f : number_from n v (b ∷ s) ≡ number_from (n + 1) (v + b % 128 * 128 ^ n) s = rw (lt-ltb (n + 1) max_groups (omega arith)) at (other-group n v b s h) in
    stood-more k n v b s y rest h byte (again k (omega arith) (sym f ∙ e))

pub stood : (s : List ℕ) (k n v y : ℕ) (rest : List ℕ) → n + suc k ≡ 5 → ((i : ℕ) → i < length s → get_or s i 0 < 256)
    → number_from n v s ≡ took y rest → Stood k n v s y rest
unfolding number_from
stood [] k n v y rest c h e = no_number y rest e
stood (b ∷ s) k n v y rest c h e =
    elim (dec_lt b 128) [
      | yes l ↦ stood-last k n v b s y rest l e
      | no m ↦ stood-other s k n v b y rest c (h 0 (omega arith)) (omega arith)
          (λ k d f. stood s k (n + 1) (v + b % 128 * 128 ^ n) y rest d (λ i j. h (suc i) (omega arith)) f) e
    ]

-- what is accepted is the encoding of its value
pub was-written : (s : List ℕ) (v : ℕ) (rest : List ℕ) → ((i : ℕ) → i < length s → get_or s i 0 < 256) → number s ≡ took v rest
    → (s ≡ encoded v ++ rest) × (v < 2 ^ 32)
was-written s v rest h e =
    let t = stood s 4 0 0 v rest refl h e in
    let n : t.x ≡ v = omega (arith, t.value) in
    (t.bytes ∙ ap (λ (x : ℕ). encoded x ++ rest) n, t.small)
