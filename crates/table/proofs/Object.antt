-- A segment's and a file's claim, read off the words of its record; and the counts, once every process has been counted.
use Rattle.std.proofs.Common.{◌≡◌, ℕ, ◌+◌, ◌%◌, ◌<◌, Bool, false, ◌&&◌, eqb, leb, List, length, get_or, replicate, sym, refl, ap, ◌∙◌, true≢false, arith}
use Rattle.rules.specs.Words.{all_below, sum_below, count_below}
use Rattle.rules.specs.Claim.{test, is}
use Rattle.rules.specs.Layout.{max_slots, max_bits, max_links, entries, Kind, segment, file, Addr, at, bits, sharable, size, references, links, opens, subtype}
use Rattle.rules.specs.WellFormed.{record_ok, segment_size, segment_ok, file_subtype_ok, file_ok, own_entry, own_entries}
use Rattle.laws.proofs.Tests.{refuted}
use Rattle.laws.proofs.Below.{all-at, sum_more}
use Rattle.laws.proofs.Fill.{zeros-at}
use Rattle.table.specs.declared.frame.Frame.{Frame}
use Rattle.table.specs.Frame.{conf, words, RecordAt}
use Rattle.table.specs.Entries.{record_at, Countable, Counted, Tally}
use Rattle.table.proofs.Config.{blocks-read}
use Rattle.table.proofs.Record.{record-claim}

module _ (f : Frame) (i place held : ℕ) where
  pub segment-claim : RecordAt f segment i place → held ≡ own_entries (conf f) (words f) segment i
      → test (record_ok (record_at f.t.now place) segment 0 (is (leb (get_or f.t.now (place + bits segment) 0) max_bits &&
      (leb (get_or f.t.now (place + sharable) 0) 1 && ((eqb (get_or f.t.now (place + size) 0 % 512) 0 &&
      (leb 512 (get_or f.t.now (place + size) 0) && leb (get_or f.t.now (place + size) 0) 65024)) && leb 1 (get_or f.t.now (place + references) 0))))))
      && eqb (get_or f.t.now (place + references) 0) held
      ≡ test (segment_ok (conf f) (words f) i)
  unfolding segment_ok segment_size
  segment-claim lies e =
      rw (lies.word (bits segment), lies.word sharable, lies.word size, lies.word references, e)
      (ap (λ (b : Bool). b && eqb (words f (at segment i references)) (own_entries (conf f) (words f) segment i))
      (record-claim f segment i place _ lies))

  pub file-claim : RecordAt f file i place → (typed : Bool) → typed ≡ test (file_subtype_ok (conf f) i (get_or f.t.now (place + subtype) 0))
      → held ≡ own_entries (conf f) (words f) file i
      → test (record_ok (record_at f.t.now place) file 0 (is (leb (get_or f.t.now (place + bits file) 0) max_bits &&
      (leb (get_or f.t.now (place + links) 0) max_links && (leb (get_or f.t.now (place + size) 0) f.n.blocks &&
      (leb 1 (get_or f.t.now (place + links) 0 + get_or f.t.now (place + opens) 0) && typed))))))
      && eqb (get_or f.t.now (place + opens) 0) held
      ≡ test (file_ok (conf f) (words f) i)
  unfolding file_ok
  file-claim lies typed fits e =
      rw (
        fits,
        lies.word (bits file),
        lies.word links,
        lies.word size,
        lies.word opens,
        lies.word subtype,
        ← blocks-read f.t.now f.n f.framed.header,
        e,
      )
      (ap (λ (b : Bool). b && eqb (words f (at file i opens)) (own_entries (conf f) (words f) file i))
      (record-claim f file i place _ lies))

-- ---- the counts

module _ (h : List ℕ) (r : Addr → ℕ) (k : Kind) where
  -- before the first process
  pub tally-none : Tally h r k 0 (replicate max_slots 0)
  unfolding sum_below
  tally-none = record { long = refl; exact = λ i l. zeros-at max_slots i; few = λ i l. omega (arith, zeros-at max_slots i) }

  -- one process more
  pub tally-next : (p : ℕ) (before after : List ℕ) → Tally h r k p before → Counted h r k p before after → length after ≡ length before → Tally h r k (p + 1) after
  tally-next p before after a c e =
      record {
        long = e ∙ a.long;
        exact = λ i l. omega (arith, c.own i l, a.exact i l, sum_more p (λ p. count_below entries (own_entry h r k i p)));
        few = λ i l. omega (arith, c.few i l, a.few i l);
      }

  -- room for the entries of one process more
  pub tally-room : (p : ℕ) (counts : List ℕ) → Tally h r k p counts → p < max_slots → Countable counts
  tally-room p counts a few = record { long = a.long; room = λ i l. omega (arith, a.few i l) }

-- one number that fails
pub all-not : (n : ℕ) (f : ℕ → Bool) (k : ℕ) → k < n → f k ≡ false → all_below n f ≡ false
all-not n f k l e = refuted (all_below n f) (λ a. true≢false (sym (all-at n f a k l) ∙ e))
