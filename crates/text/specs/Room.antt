-- The room that any line of the listing fits in (proofs/Length.antt shows it).
use Rattle.std.specs.Prelude.{ℕ}

abbrev pub line_bytes : ℕ
line_bytes = 1200
