-- The entries of one process: as the rules read them, and counted slot by slot.
use Rattle.std.proofs.Common.{◌≡◌, ℕ, ◌+◌, ◌*◌, ◌<◌, ◌≤◌, Bool, true, false, ◌&&◌, eqb, List, get_or, sym, ap, ◌∙◌, ap₂, add-zero, arith, ne_eqb}
use mathlib.Core.Path.{fun_ext}
use mathlib.Core.Bool.{and-false}
use Rattle.rules.specs.Words.{all_below, count_below}
use Rattle.rules.specs.Claim.{test}
use Rattle.rules.specs.Layout.{entries, Kind, process, segment, record_words, cell_of, Addr, at, rd, live, held_at, used_at}
use Rattle.rules.specs.Seid.{class, class_of, index_of}
use Rattle.rules.specs.WellFormed.{entry_ok, held_once, process_ok, own_entry}
use Rattle.laws.proofs.Below.{count_same, count_none}
use Rattle.laws.proofs.Claims.{holds}
use Rattle.laws.proofs.Seids.{class-some, class-pos}
use Rattle.laws.proofs.Shape.{record_of_lem}
use Rattle.layout.specs.Header.{record_of}
use Rattle.table.specs.declared.frame.Frame.{Frame}
use Rattle.table.specs.Frame.{conf, words}
use Rattle.table.specs.Entries.{held_word, used_word, right_at, names, fresh, Counts, Counted}
use Rattle.table.proofs.Config.{base_read, slots-few}
use Rattle.table.proofs.Holders.{names-own}
use Rattle.table.proofs.Alive.{entries_ok}

-- entries that follow one another, two words each
abbrev pub InRow : Kind → Type 0
InRow k = (d : ℕ) → (held_at k d ≡ held_at k 0 + 2 * d) × (used_at k d ≡ held_at k 0 + (1 + 2 * d))

-- those of a process begin at a place
module _ (f : Frame) (p : ℕ) (k : Kind) (row : InRow k) (from : ℕ) (lies : from ≡ record_of f.n process p + held_at k 0) where
  held-read : (d : ℕ) → held_word f.t.now from d ≡ words f (at process p (held_at k d))
  unfolding rd
  held-read d = ap (λ (x : ℕ). get_or f.t.now x 0) (omega (arith, lies, (row d).0, base_read f.t.now f.n f.framed.header process))

  used-read : (d : ℕ) → used_word f.t.now from d ≡ words f (at process p (used_at k d))
  unfolding rd
  used-read d = ap (λ (x : ℕ). get_or f.t.now x 0) (omega (arith, lies, (row d).1, base_read f.t.now f.n f.framed.header process))

  pub entries-read : all_below entries (right_at (conf f) (words f) k (cell_of (conf f) process p) f.t.now from) ≡ test (entries_ok (conf f) (words f) k p)
  entries-read =
      ap₂ (λ (w v : ℕ → ℕ). all_below entries (λ d. test (entry_ok (conf f) (words f) k (cell_of (conf f) process p) (w d) (v d))))
      (fun_ext held-read) (fun_ext used-read)

  -- an entry counts for the rule where it counted for the code
  same-entry : (d i : ℕ) → names (conf f) k (cell_of (conf f) process p) (held_word f.t.now from d) i ≡ own_entry (conf f) (words f) k i p d
  unfolding own_entry
  same-entry d i =
      names-own (conf f) k (cell_of (conf f) process p) (held_word f.t.now from d) i
      ∙ ap (λ (s : ℕ). eqb (cell_of (conf f) k i) (cell_of (conf f) process p) && (eqb (class_of s) (class k) && eqb (index_of s) i)) (held-read d)

  pub live-counted : (right : Bool) (before after : List ℕ)
      → Counts (λ i. count_below entries (λ d. names (conf f) k (cell_of (conf f) process p) (held_word f.t.now from d) i)) entries right before after
      → right ≡ true → Counted (conf f) (words f) k p before after
  live-counted right before after counts said =
      record {
        own = λ i l.
            counts.exact said i (omega (arith, slots-few f k))
            ∙ ap (λ (x : ℕ). get_or before i 0 + x) (count_same entries _ _ (λ d m. same-entry d i));
        few = counts.few;
      }

-- held once, by the words that the code reads
pub once-read : (f : Frame) (p from : ℕ) → from ≡ record_of f.n process p + held_at segment 0
    → all_below entries (fresh (held_word f.t.now from)) ≡ test (held_once (words f) p)
unfolding held_once
once-read f p from lies =
    ap (λ (w : ℕ → ℕ). all_below entries (fresh w)) (fun_ext (held-read f p segment (λ d. (omega arith, omega arith)) from lies))

-- a process that is not live, and right, holds nothing
module _ (h : List ℕ) (r : Addr → ℕ) (p : ℕ) (free : r (at process p live) ≡ 1 → ⊥) (k : Kind) where
  empty : test (process_ok h r p) ≡ true → (j : ℕ) → 2 ≤ j → j < record_words process → r (at process p j) ≡ 0
  unfolding process_ok
  empty e j a b =
      let x = record_of_lem r process p _ (holds (process_ok h r p) e) in
      x.free (omega (arith, x.flag)) j a b

  holds-none : (i s : ℕ) (same : Bool) → s ≡ 0 → same && (eqb (class_of s) (class k) && eqb (index_of s) i) ≡ false
  holds-none i s same z = rw (ne_eqb (class_of s) (class k) (λ e. class-some s (class k) (class-pos k) e z)) (and-false same)

  pub free-counted : (counts : List ℕ) → test (process_ok h r p) ≡ true → ((d : ℕ) → d < entries → (2 ≤ held_at k d) × (held_at k d < record_words process))
      → Counted h r k p counts counts
  unfolding own_entry
  free-counted counts right held =
      record {
        own = λ i l.
            sym (add-zero (get_or counts i 0))
            ∙ ap (λ (x : ℕ). get_or counts i 0 + x) (sym (count_none entries (own_entry h r k i p) (λ d m.
            holds-none i (r (at process p (held_at k d))) (eqb (cell_of h k i) (cell_of h process p)) (empty right (held_at k d) (held d m).0 (held d m).1))));
        few = λ i l. omega arith;
      }
