-- What each byte of a script does to its reader, to the table that takes the configuration, and to the buffer that takes a call's bytes.
-- (That this is what the rules read is proved in proofs/.)
use Rattle.std.specs.Prelude.{Bool, true, false, cond, ◌&&◌, List, ℕ, ◌+◌, ◌-◌, ltb, leb, eqb, get_or, set, replicate}
use Rattle.rules.specs.Layout.{max_cells, max_subtypes, header_words}
use Rattle.rules.specs.Replay.{header_numbers, numbers_after, call_numbers, max_buffer}
use Rattle.numerals.specs.declared.Part.{Part}
use Rattle.numerals.specs.declared.Fed.{Fed}
use Rattle.numerals.specs.declared.Fed.TheVariants as fed
use Rattle.numerals.specs.Fed.{start, fed_by}
use Rattle.script.specs.declared.Stage.{Stage}
use Rattle.script.specs.declared.Stage.TheVariants.{Header, Body, Numbers, Bytes}
use Rattle.script.specs.declared.Reader.{Reader}
use Rattle.script.specs.declared.What.{What}
use Rattle.script.specs.declared.What.TheVariants.{More, Configuration, Call, Fault}
use Rattle.script.specs.declared.Took.{Took}

abbrev pub is_more : What → Bool
is_more More = true
is_more Configuration = false
is_more Call = false
is_more Fault = false

abbrev pub took : What → Reader → Took
took w r = record { what = w; reader = r }

-- a reader at the first number or byte of a stage
abbrev pub awaiting : Stage → ℕ → List ℕ → Reader
awaiting g last nums = record { stage = g; part = start; field = 0; last = last; nums = nums }

-- at the start of an input, and at the start of a call
abbrev pub new_reader : Reader
new_reader = awaiting Header (header_numbers - 1) (replicate call_numbers 0)

abbrev pub at_call : List ℕ → Reader
at_call nums = awaiting Numbers (call_numbers - 1) nums

-- in a call's buffer
abbrev pub is_bytes : Stage → Bool
is_bytes Header = false
is_bytes Body = false
is_bytes Numbers = false
is_bytes Bytes = true

-- past the configuration
abbrev pub calling_at : Stage → Bool
calling_at Header = false
calling_at Body = false
calling_at Numbers = true
calling_at Bytes = true

abbrev pub is_calling : Reader → Bool
is_calling r = calling_at r.stage

-- no call is read in part
abbrev pub between_at : Stage → Reader → Bool
between_at Header r = false
between_at Body r = false
between_at Numbers r = eqb r.field 0 && eqb r.part.count 0
between_at Bytes r = false

abbrev pub is_between : Reader → Bool
is_between r = between_at r.stage r

-- at the next number or byte of the stage
abbrev pub onward : Reader → List ℕ → Reader
onward r nums = record r { part = start; field = r.field + 1; nums = nums }

-- n bytes further in a call's buffer, of which some are to come: one at the least
abbrev pub further : Reader → ℕ → Reader
further r n = record r { part = start; field = r.field + n }

abbrev pub bytes_left : Reader → ℕ
bytes_left r = r.last - r.field + 1

-- with another part of its number read
abbrev pub with_part : Reader → Part → Reader
with_part r p = record r { part = p }

-- ---- a number is whole: v, number `field` of the stage

-- the configuration's numbers are kept in the table, past the header's last zero where they are the body's
abbrev pub kept_table_at : Stage → ℕ → ℕ → List ℕ → List ℕ
kept_table_at Header f v t = set t f v
kept_table_at Body f v t = set t (header_words + f) v
kept_table_at Numbers f v t = t
kept_table_at Bytes f v t = t

abbrev pub kept_table : Reader → ℕ → List ℕ → List ℕ
kept_table r v t = kept_table_at r.stage r.field v t

-- a call's numbers are kept by the reader
abbrev pub kept_nums_at : Stage → ℕ → ℕ → List ℕ → List ℕ
kept_nums_at Header f v ns = ns
kept_nums_at Body f v ns = ns
kept_nums_at Numbers f v ns = set ns f v
kept_nums_at Bytes f v ns = ns

abbrev pub kept_nums : Reader → ℕ → List ℕ
kept_nums r v = kept_nums_at r.stage r.field v r.nums

-- the numbers of cells and of subtypes that a configuration can have: with others it is bad, whatever follows
unfoldable pub counts_fit : ℕ → ℕ → Bool
counts_fit c u = leb 1 c && (leb c max_cells && leb u max_subtypes)

-- it is the stage's last; nums and table have it already
unfoldable pub header_ended : Reader → List ℕ → List ℕ → Took
header_ended r nums t = cond (counts_fit (get_or t 0 0) (get_or t 6 0)) (took More (awaiting Body (numbers_after t - 1) nums)) (took Fault r)

unfoldable pub numbers_ended : Reader → List ℕ → ℕ → Took
numbers_ended r nums v = cond (ltb max_buffer v) (took Fault r) (cond (eqb v 0) (took Call (at_call nums)) (took More (awaiting Bytes (v - 1) nums)))

abbrev pub ended_at : Stage → Reader → List ℕ → List ℕ → ℕ → Took
ended_at Header r nums t v = header_ended r nums t
ended_at Body r nums t v = took Configuration (at_call nums)
ended_at Numbers r nums t v = numbers_ended r nums v
ended_at Bytes r nums t v = took Fault r

abbrev pub ended : Reader → List ℕ → List ℕ → ℕ → Took
ended r nums t v = ended_at r.stage r nums t v

unfoldable pub numbered : Reader → List ℕ → ℕ → Took
numbered r t v = cond (ltb r.field r.last) (took More (onward r (kept_nums r v))) (ended r (kept_nums r v) (kept_table r v t) v)

-- ---- a byte

-- what the reader, the table and the buffer are after it
pub record Read : Type 0 where
  pub took : Took
  pub table : List ℕ
  pub buffer : List ℕ

abbrev pub read : Took → List ℕ → List ℕ → Read
read x t l = record { took = x; table = t; buffer = l }

-- a byte of a number, by what it makes of the number
unfoldable pub fed_took : Reader → List ℕ → Fed → Took
fed_took r t (fed.More q) = took More (with_part r q)
fed_took r t (fed.Done v) = numbered r t v
fed_took r t fed.Bad = took Fault r

unfoldable pub fed_table : Reader → List ℕ → Fed → List ℕ
fed_table r t (fed.More q) = t
fed_table r t (fed.Done v) = kept_table r v t
fed_table r t fed.Bad = t

abbrev pub number_read : Reader → List ℕ → List ℕ → ℕ → Read
number_read r t l b = read (fed_took r t (fed_by r.part b)) (fed_table r t (fed_by r.part b)) l

-- a byte of a call's buffer
unfoldable pub byte_took : Reader → Took
byte_took r = cond (ltb r.field r.last) (took More (onward r r.nums)) (took Call (at_call r.nums))

abbrev pub take_at : Stage → Reader → List ℕ → List ℕ → ℕ → Read
take_at Header r t l b = number_read r t l b
take_at Body r t l b = number_read r t l b
take_at Numbers r t l b = number_read r t l b
take_at Bytes r t l b = read (byte_took r) t (set l r.field b)

unfoldable pub take : Reader → List ℕ → List ℕ → ℕ → Read
take r t l b = take_at r.stage r t l b
