-- Set-up: the records cleared, then the first processes begun cell by cell, make the fresh table of the configuration.
use Rattle.std.proofs.Common.{◌≡◌, ℕ, ◌+◌, ◌-◌, ◌*◌, ◌<◌, ◌≤◌, true, false, List, ◌++◌, length, get_or, take, set, replicate, sym, refl, ap, ◌∙◌, ap₂, append_assoc, append-nil, add-one, arith, length-append, length-set, length-take-le, get_or-take, take-suc-set, take_at}
use lib.ListN.{length-replicate, replicate-append-replicate, get_or-append}
use lib.Seq.{take-length}
use Rattle.rules.specs.Words.{sum_below}
use Rattle.rules.specs.Claim.{Holds, test}
use Rattle.rules.specs.Layout.{max_slots, process, segment, file, header_words, cell_words, subtype_words, record_words, cells, subtypes, cell_word, configuration, first_slot, table_words, live, serial, owner, group, bits, cell_at, configuration_words}
use Rattle.rules.specs.Errors.{XOK, XbParam}
use Rattle.rules.specs.Rule.{write}
use Rattle.rules.specs.WellFormed.{configured}
use Rattle.rules.specs.SetUp.{can_set_up, first_bits, first_processes, fresh_table, set_up_answer, set_up_table}
use Rattle.laws.proofs.Claims.{holds}
use Rattle.laws.proofs.Cells.{first_next, run_end}
use Rattle.laws.proofs.Places.{conf-cells, conf-subtypes}
use Rattle.laws.proofs.Shape.{Shape, shape_of}
use Rattle.laws.proofs.Written.{write-append, length-write, conf-write}
use Rattle.layout.specs.declared.Header.{Header}
use Rattle.layout.specs.Header.{base_of}
use Rattle.table.specs.Shape.{Framed}
use Rattle.table.proofs.Config.{cell-word, cells-read, subtypes-read, slots_read, base_read}

-- ---- clearing

-- t with zeros from a place on
abbrev pub cleared : List ℕ → ℕ → List ℕ
cleared t from = take from t ++ replicate (length t - from) 0

-- t is t₀ with zeros from a place on as far as i
pub record Zeroed (t₀ : List ℕ) (from i : ℕ) (t : List ℕ) : Type 0 where
  pub begun : from ≤ i
  pub long : length t ≡ length t₀
  pub here : take i t ≡ take from t₀ ++ replicate (i - from) 0

module _ (t₀ : List ℕ) (from : ℕ) where
  pub zeroed-none : Zeroed t₀ from from t₀
  zeroed-none = record { begun = omega arith; long = refl; here = rw (let e : from - from ≡ 0 = omega arith in e) (sym (append-nil (take from t₀))) }

  module _ (i : ℕ) (t : List ℕ) (z : Zeroed t₀ from i t) where
    pub zeroed-more : i < length t → Zeroed t₀ from (i + 1) (set t i 0)
    zeroed-more l =
        let e : i - from + 1 ≡ i + 1 - from = omega (arith, z.begun) in
        record {
          begun = omega (arith, z.begun);
          long = length-set t i 0 ∙ z.long;
          here =
              ap (λ (k : ℕ). take k (set t i 0)) (add-one i)
              ∙ take-suc-set t i 0 l
              ∙ ap (◌++ replicate 1 0) z.here
              ∙ append_assoc (take from t₀) (replicate (i - from) 0) (replicate 1 0)
              ∙ ap (take from t₀ ++◌) (replicate-append-replicate (i - from) 1 0 ∙ ap (λ (k : ℕ). replicate k 0) e);
        }

    pub zeroed-all : i ≡ length t → t ≡ cleared t₀ from
    zeroed-all e =
        sym (take-length t)
        ∙ ap (λ (k : ℕ). take k t) (sym e)
        ∙ z.here
        ∙ ap (λ (k : ℕ). take from t₀ ++ replicate (k - from) 0) (e ∙ z.long)

-- ---- the first processes

-- t is t₀ with the first process of each of the first c cells, and slot is where the next one goes
pub record Begun (t₀ : List ℕ) (base end : ℕ) (t : List ℕ) (slot c : ℕ) : Type 0 where
  pub right : Holds (configured (configuration t₀))
  pub exact : length t₀ ≡ table_words (configuration t₀)
  pub count : end ≡ cells (configuration t₀)
  pub base-is : base ≡ configuration_words (configuration t₀)
  pub upto : c ≤ end
  pub next : slot ≡ first_slot (configuration t₀) process c
  pub here : t ≡ write (configuration t₀) t₀ (first_processes (configuration t₀) c)

pub begun-none : (t₀ : List ℕ) (n : Header) (base : ℕ) → Framed t₀ n → Holds (configured (configuration t₀)) → base ≡ base_of n process → Begun t₀ base n.cells t₀ 0 0
unfolding first_slot sum_below first_processes
begun-none t₀ n base f w e =
    record {
      right = w;
      exact = rw (base_read t₀ n f.header file, slots_read t₀ n f.header file) f.exact;
      count = sym (cells-read t₀ n f.header);
      base-is = e ∙ sym (base_read t₀ n f.header process);
      upto = omega arith;
      next = refl;
      here = refl;
    }

module _ (t₀ : List ℕ) (base end : ℕ) (t : List ℕ) (slot c : ℕ) (b : Begun t₀ base end t slot c) where
  shape : Shape (configuration t₀)
  shape = shape_of (configuration t₀) b.right

  same-configuration : configuration t ≡ configuration t₀
  same-configuration = ap configuration b.here ∙ conf-write (configuration t₀) t₀ (first_processes (configuration t₀) c) refl

  pub begun-long : length t ≡ length t₀
  begun-long = ap length b.here ∙ length-write (configuration t₀) t₀ (first_processes (configuration t₀) c)

  pub begun-low : length t < 65536
  begun-low = omega (arith, begun-long, b.exact, shape.few-cells, shape.few-subtypes, shape.few process, shape.few segment, shape.few file)

  module _ (l : c < end) where
    pub cell_in : cell_at c cell_words ≤ length t
    cell_in = omega (arith, begun-long, b.exact, b.count)

    pub record-in : base + record_words process * slot + record_words process ≤ length t
    record-in =
        let m : c < cells (configuration t₀) = omega (arith, b.count) in
        omega (arith, begun-long, b.exact, b.count, b.base-is, b.next, run_end (configuration t₀) process c m, shape.own-process c m, shape.sums process)

    word-is : (k x : ℕ) → k < cell_words → x ≡ get_or t (cell_at c k) 0 → x ≡ cell_word (configuration t₀) c k
    unfolding cells
    word-is k x m e =
        let q : cells t ≡ end = sym (conf-cells t) ∙ ap cells same-configuration ∙ sym b.count in
        e ∙ sym (cell-word t c k (omega (arith, q)) m) ∙ ap (λ (h : List ℕ). cell_word h c k) same-configuration

    pub slot-in : (x : ℕ) → x ≡ get_or t (cell_at c 3) 0 → slot + x ≤ max_slots
    slot-in x e =
        let m : c < cells (configuration t₀) = omega (arith, b.count) in
        omega (arith, b.next, word-is 3 x (omega arith) e, run_end (configuration t₀) process c m, shape.sums process, shape.few process)

    pub begun_more : (x first-owner first_group : ℕ) (t' : List ℕ)
        → x ≡ get_or t (cell_at c 3) 0 → first-owner ≡ get_or t (cell_at c 6) 0 → first_group ≡ get_or t (cell_at c 7) 0
        → t' ≡ set (set (set (set (set t (base + record_words process * slot + live) 1) (base + record_words process * slot + serial) 1)
        (base + record_words process * slot + owner) first-owner)
        (base + record_words process * slot + group) first_group) (base + record_words process * slot + bits process) first_bits
        → Begun t₀ base end t' (slot + x) (c + 1)
    unfolding first_processes
    begun_more x first-owner first_group t' ex eu ep e =
        record {
          right = b.right;
          exact = b.exact;
          count = b.count;
          base-is = b.base-is;
          upto = omega arith;
          next = rw (add-one c) (ap₂ ◌+◌ b.next (word-is 3 x (omega arith) ex) ∙ sym (first_next (configuration t₀) process c));
          here =
              rw (add-one c)
              (e ∙ rw (b.base-is, b.next, word-is 6 first-owner (omega arith) eu, word-is 7 first_group (omega arith) ep, b.here)
              (sym (write-append (configuration t₀) t₀ (first_processes (configuration t₀) c) _)));
        }

  pub begun_all : end ≤ c → t ≡ write (configuration t₀) t₀ (first_processes (configuration t₀) (cells (configuration t₀)))
  begun_all m =
      let e : c ≡ cells (configuration t₀) = omega (arith, b.upto, b.count) in
      b.here ∙ ap (λ (k : ℕ). write (configuration t₀) t₀ (first_processes (configuration t₀) k)) e

-- ---- the two together

module _ (t : List ℕ) (n : Header) (f : Framed t n) where
  from_is : configuration_words t ≡ base_of n process
  from_is =
      ap₂ (λ (k m : ℕ). header_words + cell_words * k + subtype_words * m) (sym (conf-cells t) ∙ cells-read t n f.header)
      (sym (conf-subtypes t) ∙ subtypes-read t n f.header)

  from_in : base_of n process ≤ length t
  from_in = omega (arith, f.exact)

  -- where the records begin
  module _ (from : ℕ) (e : from ≡ base_of n process) where
    pub clear-from : from ≤ length t
    clear-from = omega (arith, from_in)

    configuration-is : configuration t ≡ take from t
    unfolding configuration
    configuration-is = ap (λ (k : ℕ). take k t) (from_is ∙ sym e)

    word_kept : (i : ℕ) → i < header_words → get_or (cleared t from) i 0 ≡ get_or t i 0
    word_kept i l =
        get_or-append (take from t) (replicate (length t - from) 0) 0 i (omega (arith, length-take-le from t clear-from))
        ∙ get_or-take from t i 0 (omega arith)

    cleared-configuration : configuration (cleared t from) ≡ configuration t
    unfolding configuration cells subtypes
    cleared-configuration =
        ap₂ (λ (k m : ℕ). take (header_words + cell_words * k + subtype_words * m) (cleared t from)) (word_kept 0 (omega arith)) (word_kept 6 (omega arith))
        ∙ take_at (take from t) (replicate (length t - from) 0) (configuration_words t) (length-take-le from t clear-from ∙ e ∙ sym from_is)
        ∙ sym configuration-is

    cleared-framed : Framed (cleared t from) n
    cleared-framed =
        let h = f.header in
        record {
          header = record {
            cells_is = h.cells_is ∙ sym (word_kept 0 (omega arith));
            processes-is = h.processes-is ∙ sym (word_kept 1 (omega arith));
            segments-is = h.segments-is ∙ sym (word_kept 2 (omega arith));
            files-is = h.files-is ∙ sym (word_kept 3 (omega arith));
            blocks_is = h.blocks_is ∙ sym (word_kept 4 (omega arith));
            guard-is = h.guard-is ∙ sym (word_kept 5 (omega arith));
            subtypes-is = h.subtypes-is ∙ sym (word_kept 6 (omega arith));
          };
          small = f.small;
          exact =
              omega (
                arith,
                f.exact,
                clear-from,
                length-append (take from t) (replicate (length t - from) 0),
                length-take-le from t clear-from,
                length-replicate {A = ℕ} (length t - from) 0,
              );
        }

    -- what is left once z is cleared and the first processes begun
    module _ (z : List ℕ) (done : z ≡ cleared t from) where
      pub begin-from : Holds (configured (configuration t)) → Framed z n × Holds (configured (configuration z))
      begin-from w = rw (done, cleared-configuration) (cleared-framed, w)

      pub fresh-done : write (configuration z) z (first_processes (configuration z) (cells (configuration z))) ≡ fresh_table (configuration t)
      unfolding fresh_table
      fresh-done =
          let long : length t ≡ table_words (configuration t) = rw (base_read t n f.header file, slots_read t n f.header file) f.exact in
          let past : from ≡ length (configuration t) = rw configuration-is (sym (length-take-le from t clear-from)) in
          rw (done, cleared-configuration)
          (ap₂ (λ (a : List ℕ) (k : ℕ). write (configuration t) (a ++ replicate k 0) (first_processes (configuration t) (cells (configuration t))))
          (sym configuration-is) (ap₂ ◌-◌ long past))

-- ---- what set-up answers and leaves

module _ (t : List ℕ) (m : ℕ) where
  pub refused-answer : test (can_set_up t m) ≡ false → XbParam ≡ set_up_answer t m
  unfolding set_up_answer
  refused-answer e = rw e

  pub refused-table : test (can_set_up t m) ≡ false → t ≡ set_up_table t m
  unfolding set_up_table
  refused-table e = rw e

  module _ (e : test (can_set_up t m) ≡ true) where
    pub done-answer : XOK ≡ set_up_answer t m
    unfolding set_up_answer
    done-answer = rw e

    pub done-table : fresh_table (configuration t) ≡ set_up_table t m
    unfolding set_up_table
    done-table = rw e

    pub right-configuration : Holds (configured (configuration t))
    unfolding can_set_up
    right-configuration = (holds (can_set_up t m) e).0
