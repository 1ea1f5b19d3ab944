-- Rights are three bits of one set; an access gives back the two rights that it was made of; execute grants nothing.
use mathlib.Core.Bool.{Bool, true, false}
use mathlib.Core.Path.{◌≡◌, refl}
use Prim.Native.Nat.{ℕ, ◌*◌, ◌/◌, ◌%◌}
use native.Mathlib.Omega.{arith}
use borrow.Author.Tests.{eq-eqb, ne_eqb}
use Rattle.rules.specs.Rights.{rights, may_read, may_write, asks_read, asks_write, valid_access, access}

-- an owner's bits alone speak of the owner, and of the others the group's of its group
pub owner-set : (u g owner group bits : ℕ) → u ≡ owner → rights u g owner group bits ≡ bits / 64 % 8
unfolding rights
owner-set u g owner group bits e = rw (eq-eqb u owner e)

pub group-set : (u g owner group bits : ℕ) → (u ≡ owner → ⊥) → g ≡ group → rights u g owner group bits ≡ bits / 8 % 8
unfolding rights
group-set u g owner group bits n e = rw (ne_eqb u owner n, eq-eqb g group e)

pub all_set : (u g owner group bits : ℕ) → (u ≡ owner → ⊥) → (g ≡ group → ⊥) → rights u g owner group bits ≡ bits % 8
unfolding rights
all_set u g owner group bits n m = rw (ne_eqb u owner n, ne_eqb g group m)

-- the execute bit is read by neither right
pub execute-nothing : (x : ℕ) → (may_read (x / 2 * 2) ≡ may_read x) × (may_write (x / 2 * 2) ≡ may_write x)
unfolding may_read may_write
execute-nothing x =
    let r : x / 2 * 2 / 4 % 2 ≡ x / 4 % 2 = omega arith in
    let w : x / 2 * 2 / 2 % 2 ≡ x / 2 % 2 = omega arith in
    (rw r, rw w)

-- an access and its two rights
pub asks-read-back : (r w : Bool) → asks_read (access r w) ≡ r
unfolding asks_read access
asks-read-back true true = refl
asks-read-back true false = refl
asks-read-back false true = refl
asks-read-back false false = refl

pub asks-write-back : (r w : Bool) → asks_write (access r w) ≡ w
unfolding asks_write access
asks-write-back true true = refl
asks-write-back true false = refl
asks-write-back false true = refl
asks-write-back false false = refl

pub access-valid : (r w : Bool) → valid_access (access r w) ≡ true
unfolding valid_access access
access-valid true true = refl
access-valid true false = refl
access-valid false true = refl
access-valid false false = refl
