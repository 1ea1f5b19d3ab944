-- What is stored in the hall is what the check is to hand on.
use Rattle.std.proofs.Common.{◌≡◌, ℕ, ◌+◌, ◌*◌, ◌/◌, ◌%◌, ◌<◌, ◌≤◌, Bool, false, List, [], length, get_or, set, arith}
use Rattle.rules.specs.Layout.{max_cells, process, segment, file, flows, flow_matrix}
use Rattle.laws.proofs.Tab.{Filled, filled_none, filled_more, filled-all}
use Rattle.laws.proofs.Fill.{tab-same}
use Rattle.layout.specs.Hall.{slot_cells, bit, flow_bytes, stored, told_in}
use Rattle.levels.proofs.Cells.{matrix-entry}
use Rattle.table.specs.Told.{entry_byte, matrix_bytes}

-- ---- a matrix in bytes, made entry by entry

-- l has the first j entries
abbrev pub EntriesTo : List (List Bool) → ℕ → List ℕ → Type 0
EntriesTo m j l = Filled 0 (entry_byte m) (max_cells * max_cells) j l

module _ (m : List (List Bool)) where
  pub entries_none : (l : List ℕ) → length l ≡ max_cells * max_cells → EntriesTo m 0 l
  entries_none l e = filled_none 0 (entry_byte m) (max_cells * max_cells) l e

  pub entries-same : {i j : ℕ} {l : List ℕ} → i ≡ j → EntriesTo m i l → EntriesTo m j l
  entries-same e p = rw e at p

  -- entry d of row c
  pub entries-more : (c d : ℕ) (l : List ℕ) (x : ℕ) → c < max_cells → d < max_cells → EntriesTo m (max_cells * c + d) l → x ≡ bit (get_or (get_or m c []) d false)
      → EntriesTo m (max_cells * c + (d + 1)) (set l (max_cells * c + d) x)
  unfolding entry_byte
  entries-more c d l x lc ld p e =
      let row : (max_cells * c + d) / max_cells ≡ c = omega arith in
      let place : (max_cells * c + d) % max_cells ≡ d = omega arith in
      entries-same (omega arith) (filled_more 0 (entry_byte m) (max_cells * max_cells) (max_cells * c + d) l x (omega arith) p (rw (row, place) e))

  pub entries-all : (i : ℕ) (l : List ℕ) → max_cells * max_cells ≤ i → EntriesTo m i l → l ≡ matrix_bytes m
  unfolding matrix_bytes
  entries-all i l h p = filled-all 0 (entry_byte m) (max_cells * max_cells) i l h p

-- ---- all that is handed on

module _ (h : List ℕ) where
  matrix-bytes : matrix_bytes (flow_matrix h) ≡ flow_bytes h
  unfolding matrix_bytes entry_byte flow_bytes
  matrix-bytes =
      tab-same (max_cells * max_cells) (entry_byte (flow_matrix h)) (λ j. bit (flows h (j / max_cells) (j % max_cells))) 0
      (λ j lt. rw (matrix-entry h (j / max_cells) (j % max_cells) (omega arith) (omega arith)))

  pub told_is : (l processes segments files : List ℕ) (m : List (List Bool)) → processes ≡ slot_cells h process → segments ≡ slot_cells h segment → files ≡ slot_cells h file
      → m ≡ flow_matrix h → stored l processes segments files (matrix_bytes m) ≡ told_in h l
  unfolding told_in
  told_is l processes segments files m p s f e = rw (p, s, f, e, matrix-bytes)
