-- `words::put_zeros` meets its contract: the zeros that find room are stored, and the others change nothing.
use native.Mathlib.Omega.{arith}
use Prim.Native.Nat.{ℕ}
use lib.ListN.{replicate, length-replicate}
use Rattle.words.proofs.Copies.{filled_part, copied_nothing}
use Rattle.words.proofs.put_zeros.Goals as goal

pub returns-then-k-gt0 : goal.returns-then-k-gt0
returns-then-k-gt0 c = filled_part _ _ _ 0 _ c.room-k.ensures _ (c.fill.ensures.after (λ y h. h))

pub returns-else-k-gt0 : goal.returns-else-k-gt0
returns-else-k-gt0 c =
    let long = length-replicate {A = ℕ} c.args.n 0 in
    copied_nothing _ _ (replicate c.args.n 0) _ (omega (arith, c.room-k.ensures, long)) c.if-k-gt0.false
