-- The finding, byte by byte: what is due is compared with what is recorded as both come, and no line of either need be held.
use Rattle.std.specs.Prelude.{ℕ, ◌+◌, ◌-◌, ◌%◌, ◌^◌, Bool, true, false, cond, not, List, [], ◌∷◌, ◌==◌, count_by}
use Rattle.rules.specs.Finding.{ends_line, Finding, agree, wrong, missing, over}

-- One of the two has ended, or their next bytes differ: n lines agree, and in w a part of the next one; `due` and `more` say whether bytes are left of what is
-- due and of what is recorded.
unfoldable pub verdict : ℕ → Bool → Bool → Bool → Finding
verdict n w true true = wrong n
verdict n w true false = cond w (wrong n) (missing n)
verdict n w false true = cond w (wrong n) (over (n - 1))
verdict n w false false = cond w (agree n) (agree (n - 1))

-- what is due beside what is recorded
unfoldable pub scanned : ℕ → Bool → List ℕ → List ℕ → Finding
scanned n w [] [] = verdict n w false false
scanned n w [] (c ∷ r) = verdict n w false true
scanned n w (b ∷ d) [] = verdict n w true false
scanned n w (b ∷ d) (c ∷ r) = cond (b == c) (scanned (cond (ends_line b) (n + 1) n) (not (ends_line b)) d r) (verdict n w true true)

-- How far two pieces agree: the lines that do, whether in a part of the next, and the places past the bytes that do. (The lines are counted in 64 bits.)
pub record Agreed : Type 0 where
  pub lines : ℕ
  pub within : Bool
  pub at : ℕ
  pub next : ℕ

abbrev pub lines_after : ℕ → ℕ → ℕ
lines_after b n = cond (ends_line b) ((n + 1) % 2 ^ 64) n

-- d stands from place i on, r from place j on
unfoldable pub agreeing : ℕ → Bool → ℕ → ℕ → List ℕ → List ℕ → Agreed
agreeing n w i j [] r = record { lines = n; within = w; at = i; next = j }
agreeing n w i j (b ∷ d) [] = record { lines = n; within = w; at = i; next = j }
agreeing n w i j (b ∷ d) (c ∷ r) =
    cond (b == c) (agreeing (lines_after b n) (not (ends_line b)) (i + 1) (j + 1) d r) (record { lines = n; within = w; at = i; next = j })

-- of the bytes that do, as many lines as end in them, and whether a part of a line stands at their end, or did before them
abbrev pub lines_in : List ℕ → ℕ
lines_in s = count_by ends_line s

unfoldable pub ends_within : Bool → List ℕ → Bool
ends_within w [] = w
ends_within w (b ∷ s) = ends_within (not (ends_line b)) s

-- whether a byte of each is left, and they are the same
unfoldable pub alike : List ℕ → List ℕ → Bool
alike [] r = false
alike (b ∷ d) [] = false
alike (b ∷ d) (c ∷ r) = b == c
