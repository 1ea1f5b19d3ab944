-- The groups of a number: the only one, or the low one and those of the rest.
use mathlib.Core.List.{[], ◌∷◌}
use mathlib.Core.Path.{◌≡◌, sym}
use Prim.Native.Nat.{ℕ, suc, ◌+◌, ◌/◌, ◌%◌, ◌^◌, ◌<◌, ◌≤◌}
use native.Mathlib.Omega.{arith}
use lib.Dec.{lit≤}
use borrow.Author.Tests.{lt-ltb, le-ltb}
use Rattle.rules.specs.Replay.{groups, encoded}
use Rattle.numerals.proofs.Digits.{roomy}

pub groups-one : (k v : ℕ) → v < 128 → groups (suc k) v ≡ v ∷ []
unfolding groups
groups-one k v h = rw (lt-ltb v 128 h)

pub groups-more : (k v : ℕ) → 128 ≤ v → groups (suc k) v ≡ (128 + v % 128) ∷ groups k (v / 128)
unfolding groups
groups-more k v h = rw (le-ltb v 128 h)

pub only-group : (v : ℕ) → v < 128 → v ∷ [] ≡ encoded v
only-group v h = sym (groups-one 4 v h)

pub first-group : (v : ℕ) → 128 ≤ v → v < 2 ^ 32 → (128 + v % 128) ∷ encoded (v / 128) ≡ encoded v
first-group v h l =
    let room = roomy 128 (lit≤ tt) groups (λ v. v ∷ []) (λ v l. (128 + v % 128) ∷ l) groups-one groups-more in
    rw (room 3 (v / 128) (omega arith)) (sym (groups-more 4 v h))
