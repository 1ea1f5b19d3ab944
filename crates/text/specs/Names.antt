-- How many errors there are, and how long their names are at most.
use Rattle.std.specs.Prelude.{ℕ}

abbrev pub errors : ℕ
errors = 37

abbrev pub name_bytes : ℕ
name_bytes = 16
