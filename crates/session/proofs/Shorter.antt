-- What the rules read of an input leaves less of it.
use Rattle.std.proofs.Common.{ℕ, zero, suc, ◌+◌, ◌*◌, ◌%◌, ◌^◌, ◌≤◌, Bool, true, false, cond, not, ◌&&◌, ◌||◌, eqb, ltb, leb, List, [], ◌∷◌, ◌++◌, length, get_or, take, drop, arith, length-drop}
use native.Mathlib.Decide.{dec_lt}
use Rattle.rules.specs.Replay.{Taken, took, bad, max_groups, number_from, number, numbers_from, numbers, call_numbers, max_buffer, call_from, call_in}
use Rattle.numerals.proofs.Read.{last-group, other-group}
use Rattle.script.proofs.Going.{then_numbers, going, going_start, call_then, call-in}

-- at most n bytes are left
abbrev pub Leaves : {A : Type 0} → ℕ → Taken A → Type 0
Leaves n (took x rest) = length rest ≤ n
Leaves n bad = Unit {0}

leaves-if : {A : Type 0} (b : Bool) (n : ℕ) (x y : Taken A) → Leaves n x → Leaves n y → Leaves n (cond b x y)
leaves-if true n x y p q = p
leaves-if false n x y p q = q

-- a number takes a byte
number-leaves : (s : List ℕ) (n v m : ℕ) → length s ≤ suc m → Leaves m (number_from n v s)
unfolding number_from
number-leaves [] n v m h = tt
number-leaves (b ∷ s) n v m h =
    elim (dec_lt b 128) [
      | yes l ↦ rw (last-group n v b s l) (leaves-if (ltb (v + b % 128 * 128 ^ n) (2 ^ 32) && (eqb n 0 || not (eqb b 0))) m (took (v + b % 128 * 128 ^ n) s) bad
          (omega arith) tt)
      | no g ↦
          rw (other-group n v b s (omega arith))
          (leaves-if (ltb (n + 1) max_groups) m (number_from (n + 1) (v + b % 128 * 128 ^ n) s) bad (number-leaves s (n + 1) (v + b % 128 * 128 ^ n) m (omega arith)) tt)
    ]

then-leaves : (vs : List ℕ) (k m : ℕ) (x : Taken ℕ) → ((vs s : List ℕ) → length s ≤ m → Leaves m (numbers_from vs k s)) → Leaves m x → Leaves m (then_numbers vs k x)
unfolding then_numbers
then-leaves vs k m (took v rest) f h = f (vs ++ (v ∷ [])) rest h
then-leaves vs k m bad f h = tt

numbers-leave : (k : ℕ) (vs s : List ℕ) (m : ℕ) → length s ≤ m → Leaves m (numbers_from vs k s)
unfolding numbers_from going
numbers-leave zero vs s m h = h
numbers-leave (suc k) vs s m h =
    rw (going_start vs k s) (then-leaves vs k m (number s) (λ vs s l. numbers-leave k vs s m l) (number-leaves s 0 0 m (omega arith)))

-- so does a call
call-then-leaves : (m : ℕ) (x : Taken (List ℕ)) → Leaves m x → Leaves m (call_then x)
unfolding call_then
call-then-leaves m bad h = tt
call-then-leaves m (took vs rest) h =
    leaves-if (leb (get_or vs 5 0) max_buffer && leb (get_or vs 5 0) (length rest)) m (took (call_from vs (take (get_or vs 5 0) rest)) (drop (get_or vs 5 0) rest)) bad
    (let e = length-drop (get_or vs 5 0) rest in omega arith) tt

pub call-leaves : (b : ℕ) (s : List ℕ) → Leaves (length s) (call_in (b ∷ s))
unfolding going
call-leaves b s =
    rw (call-in (b ∷ s))
    (call-then-leaves (length s) (numbers call_numbers (b ∷ s))
    (rw (going_start [] 5 (b ∷ s))
    (then-leaves [] 5 (length s) (number (b ∷ s)) (λ vs z l. numbers-leave 5 vs z (length s) l) (number-leaves (b ∷ s) 0 0 (length s) (omega arith)))))
