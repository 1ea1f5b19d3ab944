-- The word of a seid and its parts.
use mathlib.Core.Bool.{true}
use mathlib.Core.Path.{◌≡◌, sym, ◌∙◌}
use Prim.Native.Nat.{ℕ, ◌<◌, ◌≤◌}
use native.Mathlib.Omega.{arith}
use lib.Dec.{ltb}
use borrow.Author.Tests.{lt-ltb, le-leb}
use Rattle.rules.specs.Layout.{max_serial}
use Rattle.rules.specs.Seid.{seid, class_of, index_of, serial_of, is_seid}
use Rattle.laws.proofs.Tests.{and_both}
use Rattle.laws.proofs.Seids.{class-seid, index-seid, serial-seid, is-formed, same_word}
use Rattle.ids.specs.Seid.{fits, seid_of}

-- ---- the parts of a word that is made

pub fits-when : (c i s : ℕ) → c < 256 → i < 256 → s ≤ max_serial → fits c i s ≡ true
fits-when c i s p q r = and_both (ltb c 256) _ (lt-ltb _ _ p) (and_both (ltb i 256) _ (lt-ltb _ _ q) (le-leb _ _ r))

-- where they fit, the code's word is the rule's
pub seid-fits : (c i s : ℕ) → c < 256 → i < 256 → s ≤ max_serial → seid_of c i s ≡ seid c i s
seid-fits c i s p q r = rw (fits-when c i s p q r)

-- the word of a seid whose parts fit has them
module _ (c i s : ℕ) (class : c < 256) (index : i < 256) (serial : s ≤ max_serial) where
  pub class_back : class_of (seid_of c i s) ≡ c
  class_back = rw (seid-fits c i s class index serial) (class-seid c i s index (omega arith))

  pub index_back : index_of (seid_of c i s) ≡ i
  index_back = rw (seid-fits c i s class index serial) (index-seid c i s index (omega arith))

  pub serial-back : serial_of (seid_of c i s) ≡ s
  serial-back = rw (seid-fits c i s class index serial) (serial-seid c i s index (omega arith))

-- two identifiers of one class with one index and one serial are one word
pub one_word : (c m n v w : ℕ) → is_seid c m v ≡ true → is_seid c n w ≡ true → index_of v ≡ index_of w → serial_of v ≡ serial_of w → v ≡ w
one_word c m n v w p q e f = same_word v w ((is-formed c m v p).class-is ∙ sym (is-formed c n w q).class-is) e f
