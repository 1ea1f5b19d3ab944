-- Set-up that does not refuse leaves a well-formed table: `set-up-formed`, at the end. So what is said of runs from well-formed states is said of runs from set-up.
use mathlib.Core.Path.{◌≡◌, refl, sym, ◌∙◌}
use mathlib.Core.Bool.{cond, true≢false}
use mathlib.Core.List.{List, [], ◌∷◌, ◌++◌}
use Prim.Native.Nat.{ℕ, zero, suc, ◌+◌, ◌-◌, ◌≤◌, ◌<◌}
use native.Mathlib.Omega.{arith}
use native.Mathlib.Decide.{ℕ_discrete}
use lib.Dec.{eqb}
use lib.ListN.{length, get_or, replicate, length-replicate, get_or-replicate, length-append, get_or-append}
use lib.Seq.{length-take-le, get_or-append-add, take_at}
use borrow.Author.Tests.{ne_eqb}
use Rattle.rules.specs.Claim.{Holds}
use Rattle.rules.specs.Layout.{max_owner, process, configuration_words, cells, subtypes, slots, cell_owner, cell_group, configuration, first_slot, Addr, at, offset, Valid, rd, table_words, live, serial, owner, group, parent, entries, bits}
use Rattle.rules.specs.WellFormed.{parent_ok, own_entries, own_entry, lengths_exact, records_ok, well_formed}
use Rattle.rules.specs.Rule.{Word, ◌≔◌, over}
use Rattle.rules.specs.SetUp.{first_bits, can_set_up, first_processes, fresh_table, set_up_table}
use Rattle.laws.proofs.Claims.{tested}
use Rattle.laws.proofs.Below.{sum-zero, count_none}
use Rattle.laws.proofs.Places.{conf-cells, conf-subtypes, offset-ge, offset-lt}
use Rattle.laws.proofs.Cells.{first_next, first-grows, run_end}
use Rattle.laws.proofs.Shape.{Shape, shape_of}
use Rattle.laws.proofs.Written.{AllOf, nil, over-append, over-same, rd-write, conf-write, length-write}
use Rattle.kept.proofs.Fine.{Fine, fine-holds}
use Rattle.kept.proofs.Records.{InRecord, word_in, same-record, elsewhere}
use Rattle.kept.proofs.Counting.{empty-named}
use Rattle.kept.proofs.Readings.{same-fine}
use Rattle.kept.proofs.Begun.{keeps-begun}
use Rattle.kept.proofs.Keeps.{Keeps, keeps-none, keeps_then}
use Rattle.kept.proofs.Entries.{empty-entry}

-- ---- a table whose records are all zero

abbrev pub blank : Addr → ℕ
blank a = 0

blank-fine : (h : List ℕ) → Fine h blank
unfolding own_entries
blank-fine h = record {
  own = λ k i l. record {
    flag = omega arith;
    serial-fits = omega arith;
    free = λ e j a b. refl;
    serial-some = λ e. absurd (omega arith);
    owner-fits = omega arith;
    group-fits = omega arith;
    alive = λ e. absurd (omega arith);
  };
  entry = λ k o p d pl dl. empty-entry h blank k _;
  sender = λ p m pl ml. absurd (omega arith);
  counted = λ k o i l. sym (sum-zero (slots h process) _ (λ p pl. count_none entries (own_entry h blank k i p) (λ d dl. empty-named h blank k p d i refl)));
}

-- ---- one process begun in a slot of zeros

abbrev begun : ℕ → ℕ → ℕ → List Word
begun q a b =
    (at process q live ≔ 1) ∷ (at process q serial ≔ 1) ∷ (at process q owner ≔ a) ∷ (at process q group ≔ b) ∷ (at process q (bits process) ≔ first_bits) ∷ []

begun-in : (q a b : ℕ) → AllOf (InRecord process q) (begun q a b)
begun-in q a b =
    word_in process q live 1 (omega arith) (word_in process q serial 1 (omega arith) (word_in process q owner a (omega arith) (word_in process q group b (omega arith)
    (word_in process q (bits process) first_bits (omega arith) nil))))

module _ (h : List ℕ) (r : Addr → ℕ) (w : Fine h r) (q a b : ℕ) (l : q < slots h process) (zeros : (j : ℕ) → r (at process q j) ≡ 0) (a-fits : a ≤ max_owner)
    (b-fits : b ≤ max_owner) where
  word : (j : ℕ) → over r (begun q a b) (at process q j)
      ≡ cond (eqb j 6) first_bits (cond (eqb j 3) b (cond (eqb j 2) a (cond (eqb j 1) 1 (cond (eqb j 0) 1 (r (at process q j))))))
  unfolding over
  word j = simp same-record

  past : (j : ℕ) → 4 ≤ j → (j ≡ bits process → ⊥) → over r (begun q a b) (at process q j) ≡ r (at process q j)
  past j m n = word j ∙ rw (ne_eqb j 6 n, ne_eqb j 3 (λ e. omega arith), ne_eqb j 2 (λ e. omega arith), ne_eqb j 1 (λ e. omega arith), ne_eqb j 0 (λ e. omega arith))

  begins : Keeps h r (begun q a b)
  unfolding parent_ok
  begins = keeps-begun h r w q _ (record {
    in-range = l;
    not-worn = rw (zeros serial) (omega arith);
    zeros = λ j l m. zeros j;
    in-record = begun-in q a b;
    lives = word 0;
    next-serial = rw (word 1, zeros serial);
    owner-fits = rw (word 2) a-fits;
    group-fits = rw (word 3) b-fits;
    parent-ok = rw (past parent (omega arith) (λ e. omega arith), zeros parent) (λ n. absurd (true≢false (sym n)));
    bits_fit = rw (word 6) (omega arith);
    beyond = λ j l n. past j (omega arith) n;
  })

-- ---- the first process of each cell

module _ (h : List ℕ) (sh : Shape h) where
  pub first-in : (c : ℕ) → c < cells h → first_slot h process c < slots h process
  first-in c l = omega (arith, run_end h process c l, sh.own-process c l, sh.sums process)

  -- no slot from the next cell's on is written
  untouched : (n : ℕ) → n ≤ cells h → (i j : ℕ) → first_slot h process n ≤ i → over blank (first_processes h n) (at process i j) ≡ 0
  unfolding first_processes over
  untouched zero l i j m = refl
  untouched (suc c) l i j m =
      rw (over-append blank (first_processes h c) (begun (first_slot h process c) (cell_owner h c) (cell_group h c)))
      (elsewhere process (first_slot h process c) (begun-in (first_slot h process c) (cell_owner h c) (cell_group h c)) (over blank (first_processes h c)) process i j
      (λ x e. omega (arith, first_next h process c, sh.own-process c l))
      ∙ untouched c (omega arith) i j (omega (arith, first_next h process c)))

  first-keeps : (n : ℕ) → n ≤ cells h → Keeps h blank (first_processes h n)
  unfolding first_processes
  first-keeps zero l = keeps-none h blank (blank-fine h)
  first-keeps (suc c) l =
      let before = first-keeps c (omega arith) in
      keeps_then h blank (first_processes h c) _ before
      (begins h (over blank (first_processes h c)) before.fine (first_slot h process c) (cell_owner h c) (cell_group h c) (first-in c l)
      (λ j. untouched c (omega arith) (first_slot h process c) j (omega arith)) (sh.owner-fits c l) (sh.group-fits c l))

  -- each of them has serial 1
  first-serial : (n c : ℕ) → n ≤ cells h → c < n → over blank (first_processes h n) (at process (first_slot h process c) serial) ≡ 1
  unfolding first_processes
  first-serial zero c l m = absurd (omega arith)
  first-serial (suc d) c l m =
      rw (over-append blank (first_processes h d) (begun (first_slot h process d) (cell_owner h d) (cell_group h d)))
      (elim (ℕ_discrete c d) [
        | yes e ↦ rw e (word h (over blank (first_processes h d)) (first-keeps d (omega arith)).fine (first_slot h process d) (cell_owner h d) (cell_group h d) (first-in d l)
            (λ j. untouched d (omega arith) (first_slot h process d) j (omega arith)) (sh.owner-fits d l) (sh.group-fits d l) 1)
        | no n ↦ elsewhere process (first_slot h process d) (begun-in (first_slot h process d) (cell_owner h d) (cell_group h d)) (over blank (first_processes h d)) process
            (first_slot h process c) serial (λ x e. omega (arith, first_next h process c, first-grows h process (suc c) d (omega arith), sh.own-process c (omega arith)))
            ∙ first-serial d c (omega arith) (omega arith)
      ])

-- ---- the table

-- a configuration with zeros behind it
abbrev zeroed : List ℕ → List ℕ
zeroed h = h ++ replicate (table_words h - length h) 0

module _ (h : List ℕ) (exact : length h ≡ configuration_words h) where
  zeroed-length : length (zeroed h) ≡ table_words h
  zeroed-length = omega (arith, length-append h (replicate (table_words h - length h) 0), length-replicate {A = ℕ} (table_words h - length h) 0)

  zeroed-configuration : configuration (zeroed h) ≡ h
  unfolding configuration cells subtypes
  zeroed-configuration =
      let c : get_or (zeroed h) 0 0 ≡ get_or h 0 0 = get_or-append h (replicate (table_words h - length h) 0) 0 0 (omega arith) in
      let n : get_or (zeroed h) 6 0 ≡ get_or h 6 0 = get_or-append h (replicate (table_words h - length h) 0) 0 6 (omega arith) in
      rw (c, n) (take_at h (replicate (table_words h - length h) 0) _ exact)

  -- every word of a record is zero
  zeroed-word : (a : Addr) → Valid h a → rd h (zeroed h) a ≡ 0
  unfolding rd
  zeroed-word a v =
      let n : ℕ = offset h a - length h in
      let e : offset h a ≡ length h + n = omega (arith, offset-ge h a) in
      rw e (get_or-append-add h (replicate (table_words h - length h) 0) n 0 ∙ get_or-replicate (table_words h - length h) n 0 0 (omega (arith, offset-lt h a v, offset-ge h a)))

  module _ (sh : Shape h) where
    begun_all : Keeps h blank (first_processes h (cells h))
    begun_all = first-keeps h sh (cells h) (omega arith)

    fresh-reads : (a : Addr) → Valid h a → rd h (fresh_table h) a ≡ over blank (first_processes h (cells h)) a
    unfolding fresh_table
    fresh-reads a v =
        rd-write h (zeroed h) begun_all.valid zeroed-length a v ∙ over-same h (first_processes h (cells h)) (rd h (zeroed h)) blank zeroed-word a v

    fresh-records : Holds (records_ok h (rd h (fresh_table h)))
    fresh-records = fine-holds h (rd h (fresh_table h)) (same-fine h (over blank (first_processes h (cells h))) (rd h (fresh_table h)) fresh-reads begun_all.fine)

    fresh-configuration : configuration (fresh_table h) ≡ h
    unfolding fresh_table
    fresh-configuration = conf-write h (zeroed h) (first_processes h (cells h)) zeroed-configuration

    fresh-length : length (fresh_table h) ≡ table_words h
    unfolding fresh_table
    fresh-length = length-write h (zeroed h) (first_processes h (cells h)) ∙ zeroed-length

    fresh-serial : (c : ℕ) → c < cells h → rd h (fresh_table h) (at process (first_slot h process c) serial) ≡ 1
    fresh-serial c l = fresh-reads (at process (first_slot h process c) serial) (first-in h sh c l, omega arith) ∙ first-serial h sh (cells h) c (omega arith) l

-- a configuration is whole where the table is as long as it says
taken-length : (t : List ℕ) → configuration_words t ≤ length t → length (configuration t) ≡ configuration_words t
unfolding configuration
taken-length t l = length-take-le (configuration_words t) t l

whole-configuration : (t : List ℕ) → length t ≡ table_words (configuration t) → length (configuration t) ≡ configuration_words (configuration t)
whole-configuration t e = rw (conf-cells t, conf-subtypes t) (taken-length t (omega (arith, conf-cells t, conf-subtypes t)))

pub configured-shape : (t : List ℕ) (m : ℕ) → Holds (can_set_up t m) → Shape (configuration t)
unfolding can_set_up
configured-shape t m w = shape_of (configuration t) w.0

-- set-up that does not refuse leaves the fresh table of the configuration, whatever else stood there
pub set-up-table : (t : List ℕ) (m : ℕ) → Holds (can_set_up t m) → set_up_table t m ≡ fresh_table (configuration t)
unfolding set_up_table
set-up-table t m w = rw (tested (can_set_up t m) w)

-- "Set-up reads the header and cell words in the table and refuses bad ones or wrong lengths" (02, CR 11: and the subtypes' words): otherwise what it leaves is well formed
pub set-up-formed : (t : List ℕ) (m : ℕ) → Holds (can_set_up t m) → Holds (well_formed (set_up_table t m) m)
unfolding can_set_up well_formed lengths_exact
set-up-formed t m w =
    let h = configuration t in
    let sh = shape_of h w.0 in
    let exact = whole-configuration t w.1.0 in
    rw (set-up-table t m w, fresh-configuration h exact sh, fresh-length h exact sh) (w.0, ((refl, w.1.1), fresh-records h exact sh))

-- it leaves the configuration, and gives each cell's first process serial 1
pub set-up-configuration : (t : List ℕ) (m : ℕ) → Holds (can_set_up t m) → configuration (set_up_table t m) ≡ configuration t
unfolding can_set_up lengths_exact
set-up-configuration t m w =
    let h = configuration t in
    rw (set-up-table t m w) (fresh-configuration h (whole-configuration t w.1.0) (shape_of h w.0))

pub set-up-reads : (t : List ℕ) (m : ℕ) → Holds (can_set_up t m) → (a : Addr) → Valid (configuration t) a
    → rd (configuration t) (set_up_table t m) a ≡ over blank (first_processes (configuration t) (cells (configuration t))) a
unfolding can_set_up lengths_exact
set-up-reads t m w a v =
    let h = configuration t in
    rw (set-up-table t m w) (fresh-reads h (whole-configuration t w.1.0) (shape_of h w.0) a v)

pub set-up-serial : (t : List ℕ) (m : ℕ) → Holds (can_set_up t m) → (c : ℕ) → c < cells (configuration t)
    → rd (configuration t) (set_up_table t m) (at process (first_slot (configuration t) process c) serial) ≡ 1
unfolding can_set_up lengths_exact
set-up-serial t m w c l =
    let h = configuration t in
    rw (set-up-table t m w) (fresh-serial h (whole-configuration t w.1.0) (shape_of h w.0) c l)
