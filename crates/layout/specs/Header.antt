-- The header's numbers, and where the records lie by them.
use Rattle.std.specs.Prelude.{List, ℕ, ◌+◌, ◌*◌}
use Rattle.rules.specs.Layout.{Kind, process, segment, file, header_words, cell_words, subtype_words, record_words, cells, slots, blocks, guard, subtypes, Addr}
use Rattle.layout.specs.declared.Header.{Header}

-- those of a table, or of its configuration
abbrev pub header_of : List ℕ → Header
header_of h =
    record {
      cells = cells h;
      processes = slots h process;
      segments = slots h segment;
      files = slots h file;
      blocks = blocks h;
      guard = guard h;
      subtypes = subtypes h;
    }

abbrev pub slots_of : Header → Kind → ℕ
slots_of n process = n.processes
slots_of n segment = n.segments
slots_of n file = n.files

-- where a subtype's words begin
abbrev pub subtype_of : Header → ℕ → ℕ
subtype_of n i = header_words + cell_words * n.cells + subtype_words * i

-- how many words the configuration has
abbrev pub configuration_of : Header → ℕ
configuration_of n = subtype_of n n.subtypes

-- where the records of a kind begin, a record begins, and a word of one lies
abbrev pub base_of : Header → Kind → ℕ
base_of n process = configuration_of n
base_of n segment = configuration_of n + record_words process * n.processes
base_of n file = configuration_of n + record_words process * n.processes + record_words segment * n.segments

abbrev pub record_of : Header → Kind → ℕ → ℕ
record_of n k i = base_of n k + record_words k * i

abbrev pub place_of : Header → Addr → ℕ
place_of n a = record_of n a.kind a.slot + a.word
