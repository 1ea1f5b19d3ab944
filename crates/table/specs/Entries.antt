-- A record's words, and the entries of a process, as the code reads, lists and counts them.
use Rattle.std.specs.Prelude.{◌≡◌, ℕ, ◌+◌, ◌*◌, ◌%◌, ◌<◌, ◌≤◌, Bool, true, false, not, ◌&&◌, ◌||◌, List, length, ◌==◌, ◌≢◌, slice_index, slice_index_or}
use Rattle.rules.specs.Words.{all_below, sum_below, count_below}
use Rattle.rules.specs.Claim.{Claim, is, test}
use Rattle.rules.specs.Layout.{max_slots, entries, Kind, process, segment, file, slots, cell_of, Addr}
use Rattle.rules.specs.Seid.{class, class_of, index_of, serial_of}
use Rattle.rules.specs.WellFormed.{entry_ok, own_entry, segment_ok, file_ok}
use Rattle.table.specs.declared.entry.Entry.{Entry}

-- the record at a place of the table
abbrev pub record_at : List ℕ → ℕ → Addr → ℕ
record_at t place a = slice_index t (place + a.word)

-- r is the index of s where s is of class c, and past every index where it is not
pub record Indexed (c s r : ℕ) : Type 0 where
  pub right : r < 256 → (class_of s ≡ c) × (index_of s ≡ r)
  pub wrong : 256 ≤ r → class_of s ≢ c

-- ---- the entries that begin at a place

-- the two words of entry d
abbrev pub held_word : List ℕ → ℕ → ℕ → ℕ
held_word t from d = slice_index t (from + 2 * d)

abbrev pub used_word : List ℕ → ℕ → ℕ → ℕ
used_word t from d = slice_index t (from + (1 + 2 * d))

-- both
abbrev pub entry_at : List ℕ → ℕ → ℕ → Entry
entry_at t from d = record { held = held_word t from d; used = used_word t from d }

abbrev pub unused : List ℕ → ℕ → ℕ → Bool
unused t from d = held_word t from d == 0 && used_word t from d == 0

-- the first n of the list are the numbers below m that are not idle, in order: what is asked of each is asked of every number below m that is not idle
pub record Lists (idle : ℕ → Bool) (l : List ℕ) (n m : ℕ) : Type 0 where
  pub few : n ≤ m
  pub low : (j : ℕ) → j < n → slice_index l j < m
  pub busy : (j : ℕ) → j < n → idle (slice_index l j) ≡ false
  pub all : (f : ℕ → Bool) → all_below n (λ j. f (slice_index l j)) ≡ all_below m (λ d. idle d || f d)
  pub before : (j : ℕ) → j < n → (f : ℕ → Bool) → all_below j (λ i. f (slice_index l i)) ≡ all_below (slice_index l j) (λ d. idle d || f d)
  pub count : (f : ℕ → Bool) → count_below n (λ j. f (slice_index l j)) ≡ count_below m (λ d. not (idle d) && f d)

-- the list begins with the first n entries whose numbers are below m and which are used, in order
pub record Squeezed (t : List ℕ) (from : ℕ) (l : List Entry) (n m : ℕ) : Type 0 where
  pub numbers : List ℕ
  pub long : length numbers ≡ entries
  pub lists : Lists (unused t from) numbers n m
  pub entry-is : (j : ℕ) → j < n → (none : Entry) → slice_index_or l j none ≡ entry_at t from (slice_index numbers j)

-- entry d of those that begin at a place is right for a holder of the cell mine
abbrev pub right_at : List ℕ → (Addr → ℕ) → Kind → ℕ → List ℕ → ℕ → ℕ → Bool
right_at h r k mine t from d = test (entry_ok h r k mine (held_word t from d) (used_word t from d))

-- s names an object of kind k (and no subtype, which a descriptor may hold too), and one of the cell mine
abbrev pub holds_own : List ℕ → Kind → ℕ → ℕ → Bool
holds_own h k mine s = class_of s == class k && cell_of h k (index_of s) == mine

-- and it is the one in slot i
abbrev pub names : List ℕ → Kind → ℕ → ℕ → ℕ → Bool
names h k mine s i = holds_own h k mine s && index_of s == i

-- ---- held once

-- entry e holds nothing, or nothing that an entry before it holds
abbrev pub fresh : (ℕ → ℕ) → ℕ → Bool
fresh w e = all_below e (λ d. not (not (w e == 0)) || not (w d == w e))

-- no segment is held twice; of other kinds nothing is asked
abbrev pub held_once_at : Kind → List ℕ → ℕ → Bool
held_once_at process t from = true
held_once_at segment t from = all_below entries (fresh (held_word t from))
held_once_at file t from = true

-- no two of the first n hold the same
abbrev pub Apart : (ℕ → ℕ) → ℕ → Type 0
Apart w n = (j : ℕ) → j < n → (i : ℕ) → i < j → w i ≢ w j

abbrev pub keys : ℕ
keys = 256

abbrev pub key_of : ℕ → ℕ
key_of s = (index_of s + 67 * serial_of s) % keys

-- ---- counts, slot by slot

-- a count for every slot, with room for the entries of a process
pub record Countable (counts : List ℕ) : Type 0 where
  pub long : length counts ≡ max_slots
  pub room : (i : ℕ) → i < max_slots → slice_index counts i ≤ 65519

-- counts before and after: each rose by f where all was right, and by at most m whatever was
pub record Counts (f : ℕ → ℕ) (m : ℕ) (right : Bool) (before after : List ℕ) : Type 0 where
  pub exact : right ≡ true → (i : ℕ) → i < max_slots → slice_index after i ≡ slice_index before i + f i
  pub few : (i : ℕ) → i < max_slots → slice_index after i ≤ slice_index before i + m

-- counts of entries for objects of kind k, slot by slot, before and after those of process p have been counted
pub record Counted (h : List ℕ) (r : Addr → ℕ) (k : Kind) (p : ℕ) (before after : List ℕ) : Type 0 where
  pub own : (i : ℕ) → i < slots h k → slice_index after i ≡ slice_index before i + count_below entries (own_entry h r k i p)
  pub few : (i : ℕ) → i < max_slots → slice_index after i ≤ slice_index before i + entries

-- the counts of entries for objects of kind k, once those of the first p processes have been counted
pub record Tally (h : List ℕ) (r : Addr → ℕ) (k : Kind) (p : ℕ) (counts : List ℕ) : Type 0 where
  pub long : length counts ≡ max_slots
  pub exact : (i : ℕ) → i < slots h k → slice_index counts i ≡ sum_below p (λ p. count_below entries (own_entry h r k i p))
  pub few : (i : ℕ) → i < max_slots → slice_index counts i ≤ entries * p

-- the claim of a record that has a count: a segment or a file
abbrev pub object_ok : List ℕ → (Addr → ℕ) → Kind → ℕ → Claim
object_ok h r process i = is true
object_ok h r segment i = segment_ok h r i
object_ok h r file i = file_ok h r i
