-- A record's claim: of a free record, and of any other; and of the record that lies where a slot's does.
use Rattle.std.proofs.Common.{◌≡◌, ℕ, ◌+◌, ◌-◌, Bool, ◌&&◌, eqb, leb, sym, ap, arith, ne_eqb, eqb-true}
use mathlib.Core.Bool.{and-true}
use borrow.Author.Tests.{eqb-false, lt-leb}
use Rattle.rules.specs.Words.{all_below}
use Rattle.rules.specs.Claim.{Claim, is, test}
use Rattle.rules.specs.Layout.{max_serial, max_owner, Kind, record_words, Addr, at, rd, live, serial, owner, group}
use Rattle.rules.specs.WellFormed.{record_ok}
use Rattle.laws.proofs.Tests.{split}
use Rattle.table.specs.declared.frame.Frame.{Frame}
use Rattle.table.specs.Frame.{words, RecordAt}
use Rattle.table.specs.Entries.{record_at}
use Rattle.table.proofs.Config.{base_read}

module _ (r : Addr → ℕ) (k : Kind) (i : ℕ) (alive : Claim) where
  pub free-record : r (at k i live) ≡ 0
      → leb (r (at k i serial)) max_serial && all_below (record_words k - 2) (λ j. eqb (r (at k i (2 + j))) 0) ≡ test (record_ok r k i alive)
  unfolding record_ok
  free-record e = rw e (ap (λ (b : Bool). leb (r (at k i serial)) max_serial && b) (sym (and-true _)))

  pub other-record : (r (at k i live) ≡ 0 → ⊥)
      → eqb (r (at k i live)) 1 && (leb (r (at k i serial)) max_serial && (leb 1 (r (at k i serial)) &&
      (leb (r (at k i owner)) max_owner && (leb (r (at k i group)) max_owner && test alive))))
      ≡ test (record_ok r k i alive)
  unfolding record_ok
  other-record n =
      split _ (eqb (r (at k i live)) 1)
      (λ q. rw (eqb-true (r (at k i live)) 1 q))
      (λ q. rw (q, lt-leb (r (at k i live)) 1 (omega (arith, eqb-false (r (at k i live)) 1 q))))

-- the record of a slot is the one that lies at its place
pub record-claim : (f : Frame) (k : Kind) (i place : ℕ) (alive : Claim) → RecordAt f k i place
    → test (record_ok (record_at f.t.now place) k 0 (is (test alive))) ≡ test (record_ok (words f) k i alive)
unfolding record_ok rd
record-claim f k i place alive at = rw (at.at-is, base_read f.t.now f.n f.framed.header k)

-- of a record that is not live the claim says nothing of what a live one must be
pub dead-record : (r : Addr → ℕ) (k : Kind) (i : ℕ) (a b : Claim) → (r (at k i live) ≡ 1 → ⊥) → test (record_ok r k i a) ≡ test (record_ok r k i b)
unfolding record_ok
dead-record r k i a b n = rw (ne_eqb (r (at k i live)) 1 n)
