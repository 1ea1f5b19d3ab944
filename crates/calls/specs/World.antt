-- What the code knows of a table while a call runs: the header's numbers, the caller and its cell; and searches in the table's words.
use Rattle.std.specs.Prelude.{◌≡◌, Bool, true, false, List, ℕ, ◌+◌, ◌*◌, ◌<◌, ◌≤◌, ltb, eqb, length, get_or}
use Rattle.rules.specs.Words.{sum_below, count_below, lowest, least}
use Rattle.rules.specs.Claim.{Holds, test}
use Rattle.rules.specs.Layout.{configuration_words, Kind, process, segment, file, cells, slots, cell_word, configuration, cell_of, cell_slots, first_slot, Addr, at, rd, table_words, entries, held_at}
use Rattle.rules.specs.Modes.{valid_modes}
use Rattle.rules.specs.WellFormed.{configured, records_ok, well_formed}
use Rattle.layout.specs.declared.Header.{Header}
use Rattle.layout.specs.Header.{header_of}
use Rattle.lists.specs.Free.{free_test, serial_at}
use Rattle.calls.specs.declared.Caller.{Caller}
use Rattle.calls.specs.declared.Footing.{Footing}
use Rattle.layout.specs.Hall.{hall_of}
use Rattle.calls.specs.Handed.{Handed}

-- what a table holds at each word of its records
abbrev pub words_of : List ℕ → Addr → ℕ
words_of t = rd (configuration t) t

-- the configuration is good and whole, and the header is its own
pub record Known (t : List ℕ) (n : Header) : Type 0 where
  pub conf : Holds (configured (configuration t))
  pub long : configuration_words (configuration t) ≤ length t
  pub header : n ≡ header_of (configuration t)

-- what a call's functions may count on: a well-formed table, its header, a caller that it has, and the caller's cell
pub record Sound (t : List ℕ) (n : Header) (c : Caller) : Type 0 where
  pub known : Known t n
  pub words : length t ≡ table_words (configuration t)
  pub records : Holds (records_ok (configuration t) (words_of t))
  pub caller : c.slot < slots (configuration t) process
  pub home : c.cell ≡ cell_of (configuration t) process c.slot

-- the same of what a call on a judged table goes by, with the cells of the slots that the check handed on
pub record StandsIn (t : List ℕ) (on : Footing) : Type 0 where
  pub sound : Sound t on.n on.me
  pub told : on.hall.now ≡ hall_of (configuration t)

-- and with the flow matrix
pub record Stands (t : List ℕ) (on : Footing) (m : List (List Bool)) : Type 0 where
  pub sound : Sound t on.n on.me
  pub handed : Handed (configuration t) m on.hall.now

-- objects that entries hold: segments and files
abbrev pub holdable : Kind → Bool
holdable process = false
holdable segment = true
holdable file = true

-- ---- cells, by the word of a cell's record that says how many slots of a kind it has

unfoldable pub first_by : List ℕ → ℕ → ℕ → ℕ
first_by h k c = sum_below c (λ c. cell_word h c k)

unfoldable pub cell_by : List ℕ → ℕ → ℕ → ℕ
cell_by h k i = lowest (λ c. ltb i (first_by h k c + cell_word h c k)) (cells h) 0

-- ---- searches in the table's words

-- the one of n slots from i on that has the smallest serial, the lowest among equals; the records begin at base and are so many words long
unfoldable pub free_at : List ℕ → ℕ → ℕ → ℕ → ℕ → ℕ
free_at t base size n i = least (free_test t base size) (serial_at t base size) n i

-- entry d of those from a place on is empty
unfoldable pub empty_test : List ℕ → ℕ → ℕ → Bool
empty_test t from d = eqb (get_or t (from + 2 * d) 0) 0

-- ---- the search for clashes in a cell

-- entry d of process q holds s; how many descriptors of m processes do, from one on
unfoldable pub holds_at : List ℕ → ℕ → ℕ → ℕ → Bool
holds_at t s q d = eqb (words_of t (at process q (held_at file d))) s

unfoldable pub holders_among : List ℕ → ℕ → ℕ → ℕ → ℕ
holders_among t from m s = sum_below m (λ i. count_below entries (holds_at t s (from + i)))

-- what it counts on: a well-formed table, a seid, modes that are valid, and that no more descriptors of the cell hold the seid than are told
pub record Clashable (t : List ℕ) (n : Header) (cell s b most : ℕ) : Type 0 where
  pub known : Known t n
  pub records : Holds (records_ok (configuration t) (words_of t))
  pub some : s ≡ 0 → ⊥
  pub modes : valid_modes b ≡ true
  pub few : holders_among t (first_slot (configuration t) process cell) (cell_slots (configuration t) process cell) s ≤ most

-- ---- a judged table: it is well formed for its store, n is its header, m and hall are what the check handed on of it
pub record Judged (t s : List ℕ) (n : Header) (m : List (List Bool)) (hall : List ℕ) : Type 0 where
  pub good : test (well_formed t (length s)) ≡ true
  pub header : n ≡ header_of (configuration t)
  pub handed : Handed (configuration t) m hall
