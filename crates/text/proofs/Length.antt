-- How long a line of the listing can be.
use mathlib.Core.Bool.{Bool, true, false, cond}
use mathlib.Core.List.{List, [], ◌∷◌, ◌++◌}
use mathlib.Core.Path.{◌≡◌, refl}
use Prim.Native.Nat.{ℕ, zero, suc, ◌+◌, ◌*◌, ◌/◌, ◌%◌, ◌≤◌}
use native.Mathlib.Omega.{arith}
use native.Mathlib.Decide.{dec_lt}
use lib.Dec.{ltb}
use lib.ListN.{length, length-append}
use Rattle.rules.specs.Errors.{error_name}
use Rattle.rules.specs.Step.{Answer}
use Rattle.rules.specs.Replay.{decimal_in, max_digits, hex, space, shows_buffer, max_buffer, line}
use Rattle.laws.proofs.Tests.{cond_both}
use Rattle.text.specs.Names.{errors, name_bytes}
use Rattle.text.specs.Room.{line_bytes}
use Rattle.text.proofs.Names.{name-short, no_name}

digits-short : (k v : ℕ) → length (decimal_in k v) ≤ k
unfolding decimal_in
digits-short zero v = omega arith
digits-short (suc k) v =
    cond_both (λ (l : List ℕ). length l ≤ suc k) (ltb v 10) _ _ (λ e. omega arith)
    (λ e. omega (arith, digits-short k (v / 10), length-append (decimal_in k (v / 10)) ((48 + v % 10) ∷ [])))

hex-double : (s : List ℕ) → length (hex s) ≡ 2 * length s
unfolding hex
hex-double [] = refl
hex-double (b ∷ s) = omega (arith, hex-double s)

name-at-most : (n : ℕ) → length (error_name n) ≤ name_bytes
name-at-most n = elim (dec_lt n errors) [ yes h ↦ name-short n h | no m ↦ rw (no_name n (omega arith)) (omega arith) ]

shown-short : (b : Bool) (s : List ℕ) → length s ≤ max_buffer → length (cond b (space ++ hex s) []) ≤ 1 + 2 * max_buffer
shown-short true s h = omega (arith, hex-double s)
shown-short false s h = omega arith

pub line-short : (n code : ℕ) (w : Answer) (s : List ℕ) → length s ≤ max_buffer → length (line n code w s) ≤ line_bytes
unfolding line
line-short n code w s h =
    simp length-append
    (omega (
      arith,
      digits-short max_digits n,
      name-at-most w.error,
      digits-short max_digits w.first,
      digits-short max_digits w.second,
      shown-short (shows_buffer code w.error) s h,
    ))
