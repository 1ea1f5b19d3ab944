-- The configuration's claims, read off the table's own words.
use Rattle.std.proofs.Common.{◌≡◌, ℕ, ◌+◌, ◌*◌, ◌<◌, ◌≤◌, Bool, true, false, ◌&&◌, List, length, get_or, sym, ap, ◌∙◌, arith, ne_eqb}
use mathlib.Core.Bool.{and-true, and-false}
use Rattle.rules.specs.Claim.{test, ◌&◌, each}
use Rattle.rules.specs.Layout.{max_slots, header_words, cell_words, subtype_words, Kind, process, segment, file, record_words, cells, slots, blocks, guard, subtypes, cell_word, subtype_word, configuration, base, table_words, rd, cell_at}
use Rattle.rules.specs.WellFormed.{header_ok, cell_ok, levels_distinct, sums_match, subtype_ok, configured, lengths_exact}
use Rattle.rules.specs.SetUp.{can_set_up}
use Rattle.laws.proofs.Claims.{holds}
use Rattle.laws.proofs.Places.{conf-word}
use Rattle.layout.specs.declared.Header.{Header}
use Rattle.layout.specs.Header.{header_of, slots_of, subtype_of, base_of, record_of}
use Rattle.table.specs.declared.frame.Frame.{Frame}
use Rattle.table.specs.Shape.{IsHeader, Small, Framed}
use Rattle.table.specs.Frame.{conf, RecordAt}

-- a word of the header
pub head-word : (t : List ℕ) (i : ℕ) → i < header_words → get_or (configuration t) i 0 ≡ get_or t i 0
head-word t i l = conf-word t i (omega arith)

-- a word of a cell
pub cell-word : (t : List ℕ) (c k : ℕ) → c < get_or t 0 0 → k < cell_words → cell_word (configuration t) c k ≡ get_or t (cell_at c k) 0
unfolding cell_word cells
cell-word t c k l m = conf-word t (cell_at c k) (omega arith)

-- the header that layout reads has the table's words
pub header_read : (t : List ℕ) (n : Header) → n ≡ header_of t → IsHeader t n
unfolding cells slots blocks guard subtypes
header_read t n e =
    record {
      cells_is = ap (λ (x : Header). x.cells) e;
      processes-is = ap (λ (x : Header). x.processes) e;
      segments-is = ap (λ (x : Header). x.segments) e;
      files-is = ap (λ (x : Header). x.files) e;
      blocks_is = ap (λ (x : Header). x.blocks) e;
      guard-is = ap (λ (x : Header). x.guard) e;
      subtypes-is = ap (λ (x : Header). x.subtypes) e;
    }

-- the header's numbers are the configuration's
module _ (t : List ℕ) (n : Header) (is : IsHeader t n) where
  pub cells-read : cells (configuration t) ≡ n.cells
  unfolding cells
  cells-read = head-word t 0 (omega arith) ∙ sym is.cells_is

  pub slots_read : (k : Kind) → slots (configuration t) k ≡ slots_of n k
  unfolding slots
  slots_read process = head-word t 1 (omega arith) ∙ sym is.processes-is
  slots_read segment = head-word t 2 (omega arith) ∙ sym is.segments-is
  slots_read file = head-word t 3 (omega arith) ∙ sym is.files-is

  pub subtypes-read : subtypes (configuration t) ≡ n.subtypes
  unfolding subtypes
  subtypes-read = head-word t 6 (omega arith) ∙ sym is.subtypes-is

  pub base_read : (k : Kind) → base (configuration t) k ≡ base_of n k
  base_read process = rw (cells-read, subtypes-read)
  base_read segment = rw (cells-read, subtypes-read, slots_read process)
  base_read file = rw (cells-read, subtypes-read, slots_read process, slots_read segment)

  pub blocks-read : blocks (configuration t) ≡ n.blocks
  unfolding blocks
  blocks-read = head-word t 4 (omega arith) ∙ sym is.blocks_is

  pub guard-read : guard (configuration t) ≡ n.guard
  unfolding guard
  guard-read = head-word t 5 (omega arith) ∙ sym is.guard-is

  -- a word of a subtype
  pub subtype-word : (i k : ℕ) → i < n.subtypes → k < subtype_words → subtype_word (configuration t) i k ≡ get_or t (subtype_of n i + k) 0
  unfolding subtype_word cells subtypes
  subtype-word i k l m =
      rw cells-read (conf-word t (subtype_of n i + k) (omega (arith, is.cells_is, is.subtypes-is)))

  -- what a good header and exact lengths say of them
  pub small_of : test (header_ok (configuration t)) ≡ true → Small n
  unfolding header_ok
  small_of e =
      let h = holds (header_ok (configuration t)) e in
      record {
        few-cells = rw cells-read at h.0.1;
        few-processes = rw (slots_read process) at h.1.0.1;
        few-segments = rw (slots_read segment) at h.1.1.0;
        few-files = rw (slots_read file) at h.1.1.1.0;
        few-blocks = rw blocks-read at h.1.1.1.1.0.1;
        few-subtypes = rw subtypes-read at h.1.1.1.1.1.1.0;
      }

  pub framed_of : (m : ℕ) → Small n → test (lengths_exact (configuration t) (length t) m) ≡ true → Framed t n
  unfolding lengths_exact
  framed_of m s e =
      let h = holds (lengths_exact (configuration t) (length t) m) e in
      record { header = is; small = s; exact = rw (base_read file, slots_read file) at h.0 }

-- ---- where a record lies

pub slots_small : (n : Header) → Small n → (k : Kind) → slots_of n k ≤ max_slots
slots_small n s process = s.few-processes
slots_small n s segment = s.few-segments
slots_small n s file = s.few-files

-- no more slots than an index has numbers
pub slots-few : (f : Frame) (k : Kind) → slots (conf f) k ≤ max_slots
slots-few f k = omega (arith, slots_read f.t.now f.n f.framed.header k, slots_small f.n f.framed.small k)

-- the record of a slot, where layout says
pub record_is : (f : Frame) (k : Kind) (i place : ℕ) → i < slots_of f.n k → place ≡ record_of f.n k i → RecordAt f k i place
unfolding rd
record_is f k i place l e =
    record {
      at-is = e;
      whole = whole k;
      within = omega (arith, ends k l, f.framed.exact);
      short = omega (arith, f.framed.exact, f.framed.small.few-files);
      word = λ j. ap (λ (x : ℕ). get_or f.t.now (x + j) 0) (e ∙ ap (λ (b : ℕ). b + record_words k * i) (sym (base_read f.t.now f.n f.framed.header k)));
    }
  where
    whole : (k : Kind) → 8 ≤ record_words k
    whole process = omega arith
    whole segment = omega arith
    whole file = omega arith

    ends : (k : Kind) → i < slots_of f.n k → record_of f.n k i + record_words k ≤ record_of f.n file f.n.files
    ends process l = omega arith
    ends segment l = omega arith
    ends file l = omega arith

-- ---- set-up's claim, test by test

module _ (t : List ℕ) (m : ℕ) where
  pub wrong-lengths : test (lengths_exact (configuration t) (length t) m) ≡ false → test (can_set_up t m) ≡ false
  unfolding can_set_up
  wrong-lengths e = ap (λ (b : Bool). test (configured (configuration t)) && b) e ∙ and-false (test (configured (configuration t)))

  pub too_short : length t < header_words → test (can_set_up t m) ≡ false
  unfolding lengths_exact
  too_short l = wrong-lengths (rw (ne_eqb (length t) (table_words (configuration t)) (omega arith)))

  pub wrong-header : test (header_ok (configuration t)) ≡ false → test (can_set_up t m) ≡ false
  unfolding can_set_up configured
  wrong-header e = rw e

  pub right-frame : test (header_ok (configuration t)) ≡ true → test (lengths_exact (configuration t) (length t) m) ≡ true
      → test (each (cells (configuration t)) (cell_ok (configuration t)) & levels_distinct (configuration t) & sums_match (configuration t)
      & each (subtypes (configuration t)) (subtype_ok (configuration t))) ≡ test (can_set_up t m)
  unfolding can_set_up configured
  right-frame a b = rw (a, b) (sym (and-true _))
