-- The whole claim: a shape that is wrong refutes it, and once the shape is right the records decide.
use Rattle.std.proofs.Common.{◌≡◌, ℕ, Bool, true, false, ◌&&◌, List, length, refl}
use Rattle.rules.specs.Claim.{test, each}
use Rattle.rules.specs.Layout.{process, segment, file, slots, configuration, Addr, rd}
use Rattle.rules.specs.WellFormed.{header_ok, configured, lengths_exact, process_ok, segment_ok, file_ok, records_ok, well_formed}
use Rattle.rules.specs.SetUp.{can_set_up}
use Rattle.laws.proofs.Tests.{and_left, and_right}
use Rattle.laws.proofs.Claims.{holds}
use Rattle.laws.proofs.Shape.{shape_of}
use Rattle.layout.specs.declared.Header.{Header}
use Rattle.table.specs.Shape.{IsHeader, Shaped}
use Rattle.table.proofs.Config.{small_of, framed_of}

-- ---- the shape

module _ (t : List ℕ) (m : ℕ) (right : test (can_set_up t m) ≡ true) where
  pub shaped_of : (n : Header) → IsHeader t n → Shaped t n
  unfolding can_set_up configured
  shaped_of n is =
      let whole = and_left (test (configured (configuration t))) (test (lengths_exact (configuration t) (length t) m)) right in
      let small = small_of t n is (and_left (test (header_ok (configuration t))) _ whole) in
      let shape = shape_of (configuration t) (holds (configured (configuration t)) whole) in
      record {
        framed = framed_of t n is m small (and_right (test (configured (configuration t))) (test (lengths_exact (configuration t) (length t) m)) right);
        sums = shape.sums;
        subtype-cells = shape.subtype-cell;
      }

-- ---- the table

either-false : (a b c : Bool) → a && b ≡ false → a && (b && c) ≡ false
either-false true b c e = rw e
either-false false b c e = refl

both_true : (a b c : Bool) → a && b ≡ true → c ≡ a && (b && c)
both_true a b c e = rw (and_left a b e, and_right a b e)

module _ (t : List ℕ) (m : ℕ) where
  pub misshapen : test (can_set_up t m) ≡ false → test (well_formed t m) ≡ false
  unfolding can_set_up well_formed
  misshapen e = either-false (test (configured (configuration t))) (test (lengths_exact (configuration t) (length t) m)) _ e

  pub shapen : test (can_set_up t m) ≡ true → test (records_ok (configuration t) (rd (configuration t) t)) ≡ test (well_formed t m)
  unfolding can_set_up well_formed
  shapen e = both_true (test (configured (configuration t))) (test (lengths_exact (configuration t) (length t) m)) _ e

-- ---- the records

module _ (h : List ℕ) (r : Addr → ℕ) where
  pub wrong-process : test (each (slots h process) (process_ok h r)) ≡ false → test (records_ok h r) ≡ false
  unfolding records_ok
  wrong-process e = rw e

  pub right-processes : test (each (slots h process) (process_ok h r)) ≡ true
      → test (each (slots h segment) (segment_ok h r)) && test (each (slots h file) (file_ok h r)) ≡ test (records_ok h r)
  unfolding records_ok
  right-processes e = rw e
