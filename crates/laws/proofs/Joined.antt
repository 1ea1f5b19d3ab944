-- Words joined, part by part: one part more, the same parts, and how many words they are.
use mathlib.Core.Path.{◌≡◌, refl}
use mathlib.Core.List.{List, ◌++◌}
use Prim.Native.Nat.{ℕ, zero, suc, ◌+◌, ◌<◌}
use native.Mathlib.Omega.{arith}
use native.Mathlib.Numerals.{add-one}
use lib.ListN.{length, length-append}
use Rattle.rules.specs.Words.{sum_below}
use Rattle.rules.specs.Work.{joined}

pub joined-more : (n : ℕ) (f : ℕ → List ℕ) → joined (n + 1) f ≡ joined n f ++ f n
unfolding joined
joined-more n f = rw add-one

pub joined_same : (n : ℕ) (f g : ℕ → List ℕ) → ((i : ℕ) → i < n → f i ≡ g i) → joined n f ≡ joined n g
unfolding joined
joined_same zero f g e = refl
joined_same (suc n) f g e = rw (joined_same n f g (λ i l. e i (omega arith)), e n (omega arith))

pub length-joined : (n : ℕ) (f : ℕ → List ℕ) (size : ℕ → ℕ) → ((i : ℕ) → i < n → length (f i) ≡ size i) → length (joined n f) ≡ sum_below n size
unfolding joined sum_below
length-joined zero f size e = refl
length-joined (suc n) f size e =
    omega (arith, length-append (joined n f) (f n), length-joined n f size (λ i l. e i (omega arith)), e n (omega arith))
