-- What one byte makes of a number that is read in part: "seven-bit groups, low group first, high bit on all but the last, shortest form, below 2^32".
-- (That this is what the rules' `number_from` does with the byte is proved in proofs/Read.antt.)
use Rattle.std.specs.Prelude.{cond, ◌||◌, not, List, [], ◌∷◌, ℕ, ◌+◌, ◌*◌, ◌%◌, ◌^◌, leb, eqb}
use Rattle.rules.specs.Replay.{max_groups}
use Rattle.numerals.specs.declared.Part.{Part}
use Rattle.numerals.specs.declared.Fed.{Fed}
use Rattle.numerals.specs.declared.Scan.{Scan}
use Rattle.numerals.specs.declared.Fed.TheVariants.{More, Done, Bad}

-- a number of which nothing is read
abbrev pub start : Part
start = record { value = 0; count = 0 }

-- the value with one group more
abbrev pub grown : Part → ℕ → ℕ
grown p b = p.value + b % 128 * 128 ^ p.count

unfoldable pub fed_by : Part → ℕ → Fed
fed_by p b =
    cond (leb max_groups p.count) Bad
    (cond (leb (2 ^ 32) (grown p b)) Bad
    (cond (leb 128 b)
    (cond (leb max_groups (p.count + 1)) Bad (More (record { value = grown p b; count = p.count + 1 })))
    (cond (eqb p.count 0 || not (eqb b 0)) (Done (grown p b)) Bad)))

-- the bytes of a number, from place i on, up to its last one, a bad one, or the end of the bytes
abbrev pub scan : Fed → Part → ℕ → Scan
scan f p i = record { fed = f; part = p; next = i }

unfoldable pub scan_of : Part → List ℕ → ℕ → Scan
scan_of p [] i = scan (More p) p i
scan_of p (b ∷ s) i = elim (fed_by p b) as (λ f. Scan) [ More q ↦ scan_of q s (i + 1) | Done v ↦ scan (Done v) p (i + 1) | Bad ↦ scan Bad p (i + 1) ]
