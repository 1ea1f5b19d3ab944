-- `text::put_line` meets its contract: its four parts, one after the other, are the line.
use Rattle.std.proofs.Common.{rules}
use mathlib.Core.Bool.{cond}
use mathlib.Core.List.{List, [], ◌++◌, append_assoc}
use mathlib.Core.Path.{◌≡◌}
use Prim.Native.Nat.{ℕ}
use Rattle.rules.specs.Errors.{error_name}
use Rattle.rules.specs.Step.{answer}
use Rattle.rules.specs.Replay.{decimal, hex, space, newline, shows_buffer, line}
use Rattle.output.proofs.Laws.{then, as-text}
use Rattle.text.proofs.put_line.Goals as goal

-- the parts as the line has them
parts : (n code error first second : ℕ) (buffer : List ℕ)
    → (decimal n ++ (space ++ (error_name error ++ space))) ++ ((decimal first ++ (space ++ decimal second)) ++
    (cond (shows_buffer code error) (space ++ hex buffer) [] ++ newline))
    ≡ line n code (answer error first second) buffer
unfolding line
parts n code error first second buffer = simp append_assoc

pub returns : goal.returns
returns c = as-text _ _ _ _ _ _ (parts _ _ _ _ _ _) (search (rules, then))
