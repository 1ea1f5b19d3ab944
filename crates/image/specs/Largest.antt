-- How many words the largest table has, and a small one.
use Rattle.std.specs.Prelude.{ℕ}
use Rattle.rules.specs.Layout.{max_slots, words_at_most}

abbrev pub most_words : ℕ
most_words = words_at_most max_slots

-- those of a table of some few slots, for which a reload has a smaller array
abbrev pub few_words : ℕ
few_words = 2048
