-- The line that says what was found fits where a line of the listing does.
use Rattle.std.proofs.Common.{◌≡◌, ℕ, ◌*◌, ◌≤◌, List, [], length, take, arith, length-append}
use Rattle.rules.specs.Errors.{ascii}
use Rattle.rules.specs.Step.{answer}
use Rattle.rules.specs.Replay.{decimal, line}
use Rattle.rules.specs.Finding.{Finding, agree, wrong, missing, over, said}
use Rattle.output.specs.Wrote.{Wrote}
use Rattle.output.proofs.Laws.{fits}
use Rattle.text.specs.Room.{line_bytes}
use Rattle.text.proofs.Length.{line-short}

-- a line of the listing has three numbers
number_short : (n : ℕ) → 3 * length (decimal n) ≤ line_bytes
unfolding line
number_short n = omega (arith, simp length-append at (line-short n 0 (answer 0 n n) [] (omega arith)))

said-short : (f : Finding) → length (said f) ≤ line_bytes
unfolding said ascii
said-short (agree n) = simp length-append (omega (arith, number_short n))
said-short (wrong n) = simp length-append (omega (arith, number_short n))
said-short (missing n) = simp length-append (omega (arith, number_short n))
said-short (over n) = simp length-append (omega (arith, number_short n))

-- so all of it is put
pub line-put : (d : List ℕ) (f : Finding) (r : ℕ) (d' : List ℕ) → line_bytes ≤ length d → Wrote d 0 (said f) r d' → take r d' ≡ said f
line-put d f r d' room w = (fits d (said f) r d' w (omega (arith, room, said-short f))).1
