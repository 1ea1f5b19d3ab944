-- A live process: its parent, its designators, its messages, its pages.
use Rattle.std.proofs.Common.{◌≡◌, ℕ, zero, suc, ◌+◌, ◌-◌, ◌*◌, ◌<◌, ◌≤◌, Bool, true, false, not, ◌&&◌, ◌||◌, eqb, ltb, leb, List, sym, refl, ap, ◌∙◌, arith, le-ltb, lt-ltb, eq-eqb, ne_eqb, le-leb}
use mathlib.Core.Bool.{and_assoc, and-true}
use borrow.Author.Tests.{lt-leb}
use Rattle.rules.specs.Words.{all_below}
use Rattle.rules.specs.Claim.{Claim, test, is, each}
use Rattle.rules.specs.Layout.{max_bits, Kind, process, segment, file, slots, cell_of, Addr, at, rd, live, parent, queue, bits, zero7, entries, held_at, used_at, messages, message_at, message_words, pages, page_at}
use Rattle.rules.specs.Seid.{class, serial_of}
use Rattle.rules.specs.WellFormed.{record_ok, held_ok, entry_ok, parent_ok, held_once, message_ok, page_ok, process_ok}
use Rattle.laws.proofs.Below.{all_of}
use Rattle.laws.proofs.Claims.{holds, tested}
use Rattle.laws.proofs.Shape.{record_of_lem}
use Rattle.table.specs.declared.frame.Frame.{Frame}
use Rattle.table.specs.Frame.{conf, words, RecordAt}
use Rattle.table.specs.Entries.{record_at, Indexed, fresh}
use Rattle.table.proofs.Config.{base_read}
use Rattle.table.proofs.Loops.{all-sum}
use Rattle.table.proofs.Holders.{index-out, index_in}
use Rattle.table.proofs.Record.{record-claim, dead-record}

-- ---- its parent

module _ (h : List ℕ) (c s : ℕ) where
  pub parent-none : s ≡ 0 → test (parent_ok h c s) ≡ true
  unfolding parent_ok
  parent-none e = rw (eq-eqb s 0 e)

  module _ (i : ℕ) (index : Indexed (class process) s i) (few : slots h process ≤ 256) (some : s ≡ 0 → ⊥) where
    pub parent-out : slots h process ≤ i → test (parent_ok h c s) ≡ false
    unfolding parent_ok
    parent-out l = rw (ne_eqb s 0 some, index-out (class process) (slots h process) s i index few l)

    pub parent_in : i < slots h process → ltb 0 (serial_of s) && eqb (cell_of h process i) c ≡ test (parent_ok h c s)
    unfolding parent_ok
    parent_in l = rw (ne_eqb s 0 some, index_in (class process) (slots h process) s i index few l, (index.right (omega arith)).1)

-- ---- its designators, each by what it holds

module _ (w : ℕ → ℕ) (e : ℕ) where
  pub fresh-empty : w e ≡ 0 → true ≡ fresh w e
  fresh-empty z = sym (all_of e (λ d. not (not (eqb (w e) 0)) || not (eqb (w d) (w e))) (λ d l. rw (eq-eqb (w e) 0 z)))

  pub fresh-next : (w e ≡ 0 → ⊥) → (d : ℕ) → not (eqb (w d) (w e)) ≡ not (not (eqb (w e) 0)) || not (eqb (w d) (w e))
  fresh-next n d = rw (ne_eqb (w e) 0 n)

-- ---- its messages

module _ (h : List ℕ) (r : Addr → ℕ) (p m : ℕ) where
  pub message-held : m < r (at process p queue) → test (held_ok h r process (cell_of h process p) (r (at process p (message_at m 0)))) ≡ test (message_ok h r p m)
  unfolding message_ok
  message-held l = rw (lt-ltb m (r (at process p queue)) l, lt-leb (r (at process p queue)) m l) (sym (and-true _))

  pub message-unused : r (at process p queue) ≤ m → all_below message_words (λ j. eqb (r (at process p (message_at m j))) 0) ≡ test (message_ok h r p m)
  unfolding message_ok
  message-unused l = rw (le-ltb m (r (at process p queue)) l, le-leb (r (at process p queue)) m l)

-- the words of n messages, one after the other
by-message : (n : ℕ) (f : ℕ → Bool) → all_below (n * message_words) f ≡ all_below n (λ m. all_below message_words (λ j. f (m * message_words + j)))
unfolding all_below
by-message zero f = refl
by-message (suc n) f =
    let more : suc n * message_words ≡ n * message_words + message_words = omega arith in
    ap (λ (k : ℕ). all_below k f) more ∙ all-sum (n * message_words) message_words f
    ∙ ap (λ (b : Bool). b && all_below message_words (λ j. f (n * message_words + j))) (by-message n f)

module _ (h : List ℕ) (r : Addr → ℕ) (p : ℕ) where
  place_is : (m j : ℕ) → message_at 0 (m * message_words + j) ≡ message_at m j
  place_is m j = omega arith

  -- of an empty queue every word is zero
  pub messages-unused : r (at process p queue) ≡ 0
      → all_below (messages * message_words) (λ j. eqb (r (at process p (message_at 0 j))) 0) ≡ test (each messages (message_ok h r p))
  messages-unused e =
      by-message messages (λ j. eqb (r (at process p (message_at 0 j))) 0)
      ∙ (λ i. all_below messages (λ m. all_below message_words (λ j. eqb (r (at process p (place_is m j i))) 0)))
      ∙ (λ i. all_below messages (λ m. message-unused h r p m (omega (arith, e)) i))

-- ---- its pages

module _ (r : Addr → ℕ) (p g : ℕ) where
  pub page-free : r (at process p (page_at g)) ≡ 0 → test (page_ok r p g) ≡ true
  unfolding page_ok
  page-free e = rw (eq-eqb (r (at process p (page_at g))) 0 e)

  module _ (some : r (at process p (page_at g)) ≡ 0 → ⊥) where
    pub page-beyond : entries < r (at process p (page_at g)) → test (page_ok r p g) ≡ false
    unfolding page_ok
    page-beyond l = rw (ne_eqb (r (at process p (page_at g))) 0 some, lt-leb (r (at process p (page_at g))) entries l)

    pub page-held : r (at process p (page_at g)) ≤ entries
        → not (eqb (r (at process p (held_at segment (r (at process p (page_at g)) - 1)))) 0) ≡ test (page_ok r p g)
    unfolding page_ok
    page-held l = rw (ne_eqb (r (at process p (page_at g))) 0 some, le-leb (r (at process p (page_at g))) entries l)

-- ---- the whole

-- the entries of process p for objects of kind k
abbrev pub entries_ok : List ℕ → (Addr → ℕ) → Kind → ℕ → Claim
entries_ok h r k p = each entries (λ d. entry_ok h r k (cell_of h process p) (r (at process p (held_at k d))) (r (at process p (used_at k d))))

module _ (f : Frame) (p place : ℕ) (lies : RecordAt f process p place) where
  pages-read : test (each pages (page_ok (record_at f.t.now place) 0)) ≡ test (each pages (page_ok (words f) p))
  unfolding page_ok rd
  pages-read = rw (lies.at-is, base_read f.t.now f.n f.framed.header process)

  -- of a live process, from what each of its tests says
  pub live-process : (b₀ b₁ b₂ b₃ b₄ b₅ b₆ b₇ : Bool)
      → b₀ ≡ test (parent_ok (conf f) (cell_of (conf f) process p) (words f (at process p parent)))
      → b₁ ≡ leb (words f (at process p queue)) messages
      → b₂ ≡ leb (words f (at process p (bits process))) max_bits
      → b₃ ≡ eqb (words f (at process p zero7)) 0
      → b₄ ≡ test (entries_ok (conf f) (words f) file p)
      → b₅ ≡ test (entries_ok (conf f) (words f) segment p) && test (held_once (words f) p)
      → b₆ ≡ test (each messages (message_ok (conf f) (words f) p))
      → b₇ ≡ test (each pages (page_ok (record_at f.t.now place) 0))
      → test (record_ok (record_at f.t.now place) process 0 (is (b₀ && (b₁ && (b₂ && (b₃ && (b₄ && (b₅ && (b₆ && b₇)))))))))
      ≡ test (process_ok (conf f) (words f) p)
  unfolding process_ok
  live-process b₀ b₁ b₂ b₃ b₄ b₅ b₆ b₇ e₀ e₁ e₂ e₃ e₄ e₅ e₆ e₇ =
      rw (e₀, e₁, e₂, e₃, e₄, e₅, e₆, e₇ ∙ pages-read, and_assoc) (record-claim f process p place _ lies)

  -- of any other, whatever is said of a live one
  pub dead-process : (words f (at process p live) ≡ 1 → ⊥) → (b : Bool)
      → test (record_ok (record_at f.t.now place) process 0 (is b)) ≡ test (process_ok (conf f) (words f) p)
  unfolding process_ok
  dead-process free b = record-claim f process p place (is b) lies ∙ dead-record (words f) process p (is b) _ free

-- what a live process that is right holds is right
module _ (h : List ℕ) (r : Addr → ℕ) (p : ℕ) (alive : r (at process p live) ≡ 1) (right : test (process_ok h r p) ≡ true) where
  pub right-files : test (entries_ok h r file p) ≡ true
  unfolding process_ok
  right-files = tested (entries_ok h r file p) ((record_of_lem r process p _ (holds (process_ok h r p) right)).alive alive).1.1.1.1.0

  pub right-segments : test (entries_ok h r segment p) ≡ true
  unfolding process_ok
  right-segments = tested (entries_ok h r segment p) ((record_of_lem r process p _ (holds (process_ok h r p) right)).alive alive).1.1.1.1.1.0

  pub right-once : test (held_once r p) ≡ true
  unfolding process_ok
  right-once = tested (held_once r p) ((record_of_lem r process p _ (holds (process_ok h r p) right)).alive alive).1.1.1.1.1.1.0
