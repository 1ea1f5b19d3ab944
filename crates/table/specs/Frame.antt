-- A table that is as long as its header says, as contracts name it.
use Rattle.std.specs.Prelude.{◌≡◌, ℕ, ◌+◌, ◌<◌, ◌≤◌, List, length, slice_index}
use Rattle.rules.specs.Layout.{Kind, record_words, configuration, Addr, at, rd}
use Rattle.layout.specs.Header.{record_of}
use Rattle.table.specs.declared.frame.Frame.{Frame}

-- its configuration
abbrev pub conf : Frame → List ℕ
conf f = configuration f.t.now

-- the words of its records
abbrev pub words : Frame → Addr → ℕ
words f = rd (configuration f.t.now) f.t.now

-- where a record begins, that it ends within the table, and that its words are the rules'
pub record RecordAt (f : Frame) (k : Kind) (i place : ℕ) : Type 0 where
  pub at-is : place ≡ record_of f.n k i
  pub whole : 8 ≤ record_words k
  pub within : place + record_words k ≤ length f.t.now
  pub short : length f.t.now < 4294967296
  pub word : (j : ℕ) → slice_index f.t.now (place + j) ≡ words f (at k i j)
