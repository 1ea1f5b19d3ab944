-- The valid mode numbers as a table.
use Rattle.std.specs.Prelude.{Bool, false, ◌&&◌, List, ℕ, ltb, get_or}
use Rattle.rules.specs.Words.{tab_from}
use Rattle.rules.specs.Modes.{valid_modes}

-- a bit for each of read, write, exclusive read and exclusive write
abbrev pub mode_numbers : ℕ
mode_numbers = 16

abbrev pub valid_table : List Bool
valid_table = tab_from 0 mode_numbers valid_modes

-- what a table says of a number; past its end no
abbrev pub said_in : List Bool → ℕ → Bool
said_in table m = ltb m mode_numbers && get_or table m false
