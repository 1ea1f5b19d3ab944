-- What it is to be well formed is neither nothing nor everything: a table that set-up leaves and one in use are, and most that are one word away are not.
use mathlib.Core.Path.{◌≡◌, refl}
use mathlib.Core.Bool.{Bool, true, false}
use mathlib.Core.List.{List, [], ◌∷◌, ◌++◌}
use Prim.Native.Nat.{ℕ, ◌+◌, ◌-◌, ◌*◌}
use lib.ListN.{set, replicate}
use Rattle.rules.specs.Claim.{test}
use Rattle.rules.specs.Layout.{header_words, cell_words, process, segment, file, record_words, Addr, at, live, serial, owner, group, parent, queue, zero7, held_at, used_at, message_at, page_at, bits, sharable, size, references, opens, subtype}
use Rattle.rules.specs.Seid.{class, subtype_class, seid}
use Rattle.rules.specs.Modes.{clash}
use Rattle.rules.specs.WellFormed.{header_ok, configured, well_formed}
use Rattle.rules.specs.Rule.{Word, ◌≔◌, write}
use Rattle.rules.specs.SetUp.{set_up_table}
use Rattle.promises.proofs.Opened.{open-table, open-set-up}

-- two cells of security 1 and 3, with a process and a file slot each, and a segment slot in the first; B 1; a subtype of each cell, or of the cells c and d
abbrev subtyped : ℕ → ℕ → List ℕ
subtyped c d =
    (2 ∷ 2 ∷ 1 ∷ 2 ∷ 1 ∷ 0 ∷ 2 ∷ 0 ∷ [])
    ++ ((1 ∷ 0 ∷ 0 ∷ 1 ∷ 1 ∷ 1 ∷ 7 ∷ 9 ∷ [])
    ++ ((3 ∷ 0 ∷ 0 ∷ 1 ∷ 0 ∷ 1 ∷ 8 ∷ 9 ∷ [])
    ++ ((c ∷ 7 ∷ 9 ∷ 438 ∷ []) ++ (d ∷ 8 ∷ 9 ∷ 438 ∷ []))))

abbrev conf : List ℕ
conf = subtyped 0 1

-- its store, and words that are to be a table of it
abbrev bytes : ℕ
bytes = 1024

abbrev filled : List ℕ
filled = conf ++ replicate (record_words process * 2 + record_words segment + record_words file * 2) 5

-- the first process, the first segment and the first file; the file is the second in its slot
abbrev sender : ℕ
sender = seid (class process) 0 1

abbrev shared : ℕ
shared = seid (class segment) 0 1

abbrev opened : ℕ
opened = seid (class file) 0 2

-- the subtypes
abbrev low : ℕ
low = seid subtype_class 0 1

abbrev high : ℕ
high = seid subtype_class 1 1

-- in use: the first process holds the segment and, to write, the file and its subtype; the second holds both to read, and has a message from the first
abbrev in_use : List Word
in_use =
    (at file 0 live ≔ 1) ∷ (at file 0 serial ≔ 2) ∷ (at file 0 owner ≔ 7) ∷ (at file 0 group ≔ 9) ∷ (at file 0 (bits file) ≔ 420) ∷ (at file 0 size ≔ 1)
    ∷ (at file 0 opens ≔ 1) ∷ (at file 0 subtype ≔ low) ∷ (at process 0 (held_at file 0) ≔ opened) ∷ (at process 0 (used_at file 0) ≔ 3)
    ∷ (at segment 0 live ≔ 1) ∷ (at segment 0 serial ≔ 1) ∷ (at segment 0 owner ≔ 7) ∷ (at segment 0 group ≔ 9) ∷ (at segment 0 (bits segment) ≔ 384)
    ∷ (at segment 0 sharable ≔ 1) ∷ (at segment 0 size ≔ 512) ∷ (at segment 0 references ≔ 1)
    ∷ (at process 0 (held_at segment 3) ≔ shared) ∷ (at process 0 (used_at segment 3) ≔ 384)
    ∷ (at process 1 (held_at file 5) ≔ opened) ∷ (at process 1 (used_at file 5) ≔ 1)
    ∷ (at process 0 (held_at file 4) ≔ low) ∷ (at process 0 (used_at file 4) ≔ 3) ∷ (at process 1 (held_at file 6) ≔ low) ∷ (at process 1 (used_at file 6) ≔ 1)
    ∷ (at process 1 queue ≔ 1) ∷ (at process 1 (message_at 0 0) ≔ sender) ∷ (at process 1 (message_at 0 1) ≔ 17)
    ∷ []

abbrev used : List ℕ
used = write conf (set_up_table filled bytes) in_use

-- one word of it changed: of a record, or of the second cell
abbrev but : Addr → ℕ → List ℕ
but a v = write conf used ((a ≔ v) ∷ [])

abbrev but_security : ℕ → List ℕ
but_security v = set used (header_words + cell_words * 1) v

abbrev but_guard : ℕ → List ℕ
but_guard v = set used 5 v

-- the first process has the file open once more, alone of all
abbrev twice_open : List ℕ
twice_open = write conf used ((at process 0 (held_at file 1) ≔ opened) ∷ (at process 0 (used_at file 1) ≔ 15) ∷ (at file 0 opens ≔ 2) ∷ [])

abbrev right : List ℕ → Bool
right t = test (well_formed t bytes)

pub record Judgements : Type 0 where
  pub not-set-up : right filled ≡ false
  pub set-up : right (set_up_table filled bytes) ≡ true
  pub is_in_use : right used ≡ true
  -- the second process' entry is of another cell: it does not count
  pub count-of-both : right (but (at file 0 opens) 2) ≡ false
  pub count-one-over : right (but (at segment 0 references) 2) ≡ false
  -- in another cell an entry may be stale, but no slot has had a serial to come; in the own cell it is current
  pub stale-across : right (but (at process 1 (held_at file 5)) (opened - 1)) ≡ true
  pub serial-to-come : right (but (at process 1 (held_at file 5)) (opened + 1)) ≡ false
  pub stale-at-home : right (but (at process 0 (held_at file 0)) (opened - 1)) ≡ false
  -- two opens may clash in a table that is lent: that they never do is so from set-up on (Clash)
  pub clashing : (right twice_open ≡ true) × (clash 3 15 ≡ true)
  -- to write is held in the own cell alone
  pub write-across : right (but (at process 1 (used_at file 5)) 3) ≡ false
  pub parent-across : right (but (at process 1 parent) sender) ≡ false
  -- a record that is not live is zero but for its serial
  pub free-serial : right (but (at file 1 serial) 4) ≡ true
  pub free-not-zero : right (but (at file 1 owner) 1) ≡ false
  pub unused-message : right (but (at process 1 (message_at 7 3)) 1) ≡ false
  -- a process has bits too, and one zero after them
  pub process-bits : right (but (at process 1 (bits process)) 511) ≡ true
  pub process-bits-over : right (but (at process 1 (bits process)) 512) ≡ false
  pub process-zero : right (but (at process 1 zero7) 1) ≡ false
  -- a page holds a filled entry, wherever the entry's other pages lie
  pub mapped : right (but (at process 0 (page_at 7)) 4) ≡ true
  pub mapped-empty : right (but (at process 0 (page_at 7)) 3) ≡ false
  pub mapped-past : right (but (at process 0 (page_at 7)) 17) ≡ false
  -- the second cell at another level, at the first one's, and at one to which the first does not flow
  pub level-moved : right (but_security 2) ≡ true
  pub levels-equal : right (but_security 1) ≡ false
  pub no_flow : right (but_security 0) ≡ false
  -- the guard word names one of the two cells, or none
  pub guard-last : right (but_guard 2) ≡ true
  pub guard-past : right (but_guard 3) ≡ false
  -- a file may have no subtype, and has none but one of its cell that there is; a free record has none
  pub no-subtype : right (but (at file 0 subtype) 0) ≡ true
  pub subtype-across : right (but (at file 0 subtype) high) ≡ false
  pub subtype-past : right (but (at file 0 subtype) (seid subtype_class 2 1)) ≡ false
  pub subtype-serial : right (but (at file 0 subtype) (low + 1)) ≡ false
  pub subtype-file : right (but (at file 0 subtype) opened) ≡ false
  pub free-subtype : right (but (at file 1 subtype) high) ≡ false
  -- a subtype obeys the same levels, and only descriptors hold one
  pub subtype-from-above : right (but (at process 0 (held_at file 4)) high) ≡ false
  pub subtype-write-across : right (but (at process 1 (used_at file 6)) 3) ≡ false
  pub subtype-own : right (but (at process 1 (held_at file 6)) high) ≡ true
  pub subtype-modes : right (but (at process 0 (used_at file 4)) 9) ≡ false
  pub subtype-designated : right (but (at process 0 (held_at segment 3)) low) ≡ false
  -- the subtypes' cells never fall, and are cells
  pub cells-level : test (configured (subtyped 1 1)) ≡ true
  pub cells-fall : test (configured (subtyped 1 0)) ≡ false
  pub cell-past : test (configured (subtyped 0 2)) ≡ false
  -- there are 16 at the most
  pub subtypes : test (header_ok (2 ∷ 2 ∷ 1 ∷ 2 ∷ 1 ∷ 0 ∷ 16 ∷ 0 ∷ [])) ≡ true
  pub subtypes-over : test (header_ok (2 ∷ 2 ∷ 1 ∷ 2 ∷ 1 ∷ 0 ∷ 17 ∷ 0 ∷ [])) ≡ false
  -- a hall has 256 slots of a kind at the most
  pub hall : test (header_ok (16 ∷ 256 ∷ 256 ∷ 256 ∷ 64 ∷ 0 ∷ 0 ∷ 0 ∷ [])) ≡ true
  pub hall-over : test (header_ok (16 ∷ 256 ∷ 256 ∷ 257 ∷ 64 ∷ 0 ∷ 0 ∷ 0 ∷ [])) ≡ false
  pub word-too-many : right (used ++ 0 ∷ []) ≡ false
  pub byte-too-many : test (well_formed used (bytes + 1)) ≡ false

pub judged : Judgements
unfolding open-table open-set-up
judged =
    record {
      not-set-up = refl;
      set-up = refl;
      is_in_use = refl;
      count-of-both = refl;
      count-one-over = refl;
      stale-across = refl;
      serial-to-come = refl;
      stale-at-home = refl;
      clashing = (refl, refl);
      write-across = refl;
      parent-across = refl;
      free-serial = refl;
      free-not-zero = refl;
      unused-message = refl;
      process-bits = refl;
      process-bits-over = refl;
      process-zero = refl;
      mapped = refl;
      mapped-empty = refl;
      mapped-past = refl;
      level-moved = refl;
      levels-equal = refl;
      no_flow = refl;
      guard-last = refl;
      guard-past = refl;
      no-subtype = refl;
      subtype-across = refl;
      subtype-past = refl;
      subtype-serial = refl;
      subtype-file = refl;
      free-subtype = refl;
      subtype-from-above = refl;
      subtype-write-across = refl;
      subtype-own = refl;
      subtype-modes = refl;
      subtype-designated = refl;
      cells-level = refl;
      cells-fall = refl;
      cell-past = refl;
      subtypes = refl;
      subtypes-over = refl;
      hall = refl;
      hall-over = refl;
      word-too-many = refl;
      byte-too-many = refl;
    }
