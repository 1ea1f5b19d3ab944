-- Identifiers of the three kinds, each made by its own check, and the word of a seid where its parts fit.
use Rattle.std.specs.Prelude.{Bool, ◌&&◌, cond, Option, Some, None, ℕ, leb, ltb}
use Rattle.rules.specs.Layout.{Kind, process, segment, file, max_serial}
use Rattle.rules.specs.Seid.{class, seid, is_seid}
use Rattle.ids.specs.declared.ProcessId.{ProcessId}
use Rattle.ids.specs.declared.SegmentId.{SegmentId}
use Rattle.ids.specs.declared.FileId.{FileId}

-- the identifier of a kind that a word is, in a table of that size: `of` makes it
abbrev pub identifier : {I : Type 0} → Kind → (ℕ → I) → ℕ → ℕ → Option I
identifier k of size w = cond (is_seid (class k) size w) (Some (of w)) None

abbrev pub process_of : ℕ → ℕ → Option ProcessId
process_of size w = identifier process (λ v. record { 0 = v }) size w

abbrev pub segment_of : ℕ → ℕ → Option SegmentId
segment_of size w = identifier segment (λ v. record { 0 = v }) size w

abbrev pub file_of : ℕ → ℕ → Option FileId
file_of size w = identifier file (λ v. record { 0 = v }) size w

-- a class and an index of a byte, and a serial of two
abbrev pub fits : ℕ → ℕ → ℕ → Bool
fits c i s = ltb c 256 && (ltb i 256 && leb s max_serial)

-- the word of a seid, and 0 where a part is too great for its place
abbrev pub seid_of : ℕ → ℕ → ℕ → ℕ
seid_of c i s = cond (fits c i s) (seid c i s) 0
