-- Digits: the only one, and one after those of the tenth; the two hex digits of one more byte.
use mathlib.Core.List.{List, [], ◌∷◌, ◌++◌}
use mathlib.Core.Path.{◌≡◌, refl, sym, ap}
use Prim.Native.Nat.{ℕ, suc, ◌+◌, ◌/◌, ◌%◌, ◌^◌, ◌<◌, ◌≤◌}
use native.Mathlib.Omega.{arith}
use lib.Dec.{lit≤}
use lib.ListN.{length, take, get_or}
use borrow.Author.Tests.{lt-ltb, le-ltb}
use Rattle.std.proofs.lemmas.List.{take_more}
use Rattle.rules.specs.Replay.{decimal_in, decimal, hex_digit, hex}
use Rattle.numerals.proofs.Digits.{roomy}

module _ (k v : ℕ) where
  only-digit : v < 10 → decimal_in (suc k) v ≡ (48 + v) ∷ []
  unfolding decimal_in
  only-digit h = rw (lt-ltb v 10 h)

  last-digit : 10 ≤ v → decimal_in (suc k) v ≡ decimal_in k (v / 10) ++ ((48 + v % 10) ∷ [])
  unfolding decimal_in
  last-digit h = rw (le-ltb v 10 h)

pub one-digit : (v : ℕ) → v < 10 → (48 + v) ∷ [] ≡ decimal v
one-digit v h = sym (only-digit 19 v h)

pub more-digits : (v : ℕ) → 10 ≤ v → v < 2 ^ 64 → decimal (v / 10) ++ ((48 + v % 10) ∷ []) ≡ decimal v
more-digits v h l =
    let room = roomy 10 (lit≤ tt) decimal_in (λ v. (48 + v) ∷ []) (λ v l. l ++ ((48 + v % 10) ∷ [])) only-digit last-digit in
    rw (room 18 (v / 10) (omega arith)) (sym (last-digit 19 v h))

-- ---- hex
hex-append : (s : List ℕ) (b : ℕ) → hex (s ++ (b ∷ [])) ≡ hex s ++ (hex_digit (b / 16) ∷ hex_digit (b % 16) ∷ [])
unfolding hex
hex-append [] b = refl
hex-append (x ∷ s) b = ap (λ (l : List ℕ). hex_digit (x / 16) ∷ hex_digit (x % 16) ∷ l) (hex-append s b)

-- the two digits x, y of one byte more
pub hex-more : (s : List ℕ) (i x y : ℕ) → i < length s → x ≡ hex_digit (get_or s i 0 / 16) → y ≡ hex_digit (get_or s i 0 % 16)
    → hex (take i s) ++ (x ∷ y ∷ []) ≡ hex (take (i + 1) s)
hex-more s i x y h e f = rw (e, f, take_more s i 0 h) (sym (hex-append (take i s) (get_or s i 0)))
