-- 02, "Checking last night's log": what recorded output lines come to, beside the listing that the rules give for an input.
use Rattle.std.specs.Prelude.{Bool, true, false, cond, ◌&&◌, List, [], ◌∷◌, ◌++◌, ℕ, ◌+◌, ◌-◌, eqb}
use Rattle.rules.specs.Errors.{ascii}
use Rattle.rules.specs.Replay.{decimal, newline, listing}

-- "a newline ends each line" (01): a text cut into lines, each with its newline. Bytes after the last newline are a line too, a cut one.
-- (b begins the first of some lines)
unfoldable pub begins : ℕ → List (List ℕ) → List (List ℕ)
begins b [] = (b ∷ []) ∷ []
begins b (l ∷ ls) = (b ∷ l) ∷ ls

abbrev pub ends_line : ℕ → Bool
ends_line b = eqb b 10

unfoldable pub lines_of : List ℕ → List (List ℕ)
lines_of [] = []
lines_of (b ∷ s) = cond (ends_line b) ((b ∷ []) ∷ lines_of s) (begins b (lines_of s))

unfoldable pub same : List ℕ → List ℕ → Bool
same [] [] = true
same [] (c ∷ r) = false
same (b ∷ d) [] = false
same (b ∷ d) (c ∷ r) = eqb b c && same d r

-- "names the first line that the rules don't give (a cut line is one), or says that all agree, or that lines are missing or over"
pub data Finding : Type 0 where
  -- all lines agree; the last is line n
  agree : ℕ → Finding
  -- line n is not what the rules give
  wrong : ℕ → Finding
  -- lines are missing from line n on
  missing : ℕ → Finding
  -- "bytes past the last due line are over": that is line n
  over : ℕ → Finding

-- The lines that are due beside those recorded; n is the number of the first of them. (A listing has a line at least, so the last one has a number.)
unfoldable pub compared : ℕ → List (List ℕ) → List (List ℕ) → Finding
compared n [] [] = agree (n - 1)
compared n [] (r ∷ rs) = over (n - 1)
compared n (d ∷ ds) [] = missing n
compared n (d ∷ ds) (r ∷ rs) = cond (same d r) (compared (n + 1) ds rs) (wrong n)

-- "takes the replay input and the recorded output lines": the heading is line 0, so that the line of call n is line n
unfoldable pub finding : List ℕ → List ℕ → Finding
finding input recorded = compared 0 (lines_of (listing input)) (lines_of recorded)

-- the line that says it
unfoldable pub said : Finding → List ℕ
said (agree n) = ascii "all lines agree, to line " ++ (decimal n ++ newline)
said (wrong n) = ascii "line " ++ (decimal n ++ (ascii " is not what the rules give" ++ newline))
said (missing n) = ascii "lines are missing from line " ++ (decimal n ++ (ascii " on" ++ newline))
said (over n) = ascii "there is more than is due after line " ++ (decimal n ++ newline)
