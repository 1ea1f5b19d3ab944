-- 02, CR 9, the regrading desk: what an accepted call 21 leaves. The new file of the named cell, word by word and byte by byte; of the store nothing else; the source as it was.
use mathlib.Core.Path.{◌≡◌, ap, ◌∙◌}
use mathlib.Core.Bool.{false}
use mathlib.Core.List.{List}
use Prim.Native.Nat.{ℕ, ◌+◌, ◌*◌, ◌≤◌, ◌<◌}
use native.Mathlib.Omega.{arith}
use native.Mathlib.Nat.{mul-le-mul_right}
use lib.Dec.{ltb, leb}
use lib.ListN.{length, get_or, drop, length-take, length-drop}
use lib.Seq.{sets, get_or-take, get_or-drop}
use borrow.Author.Tests.{leb-false, lt-leb, eq-eqb}
use Rattle.rules.specs.Words.{part, word2}
use Rattle.rules.specs.Layout.{max_bits, process, file, record_words, block_bytes, cells, slots, blocks, configuration, cell_of, stretch, store_bytes, Addr, at, rd, live, serial, owner, group, held_at, bits, links, size, opens, subtype}
use Rattle.rules.specs.Seid.{class, seid, index_of}
use Rattle.rules.specs.WellFormed.{well_formed}
use Rattle.rules.specs.Errors.{XOK, XnoSPriv}
use Rattle.rules.specs.Rule.{Rule, over, store}
use Rattle.rules.specs.Find.{free_slot}
use Rattle.rules.specs.Copy.{Copy}
use Rattle.rules.specs.Call21.{in_guard, contents, carried, regraded, regrade}
use Rattle.rules.specs.Step.{State, Call, step, next, regrade_code, bad_caller, bad_code, rule_of, whole_rule}
use Rattle.laws.proofs.Tests.{or_left}
use Rattle.laws.proofs.Claims.{tested}
use Rattle.laws.proofs.Shape.{good_of, file-record}
use Rattle.laws.proofs.Slots.{FreeSlot, free-slot}
use Rattle.laws.proofs.Stored.{sets-out, sets-in, stretch-apart}
use Rattle.laws.proofs.Refusals.{Clear}
use Rattle.kept.proofs.Records.{elsewhere}
use Rattle.kept.proofs.Found.{Found, found-held}
use Rattle.kept.proofs.Keep21.{regraded-in, regraded-word}
use Rattle.kept.proofs.Kept.{Well, conf-kept}
use Rattle.promises.proofs.Refusals.{answered, own, own-clear, done}
use Rattle.promises.proofs.After.{read-after}

abbrev pub word_of : State → ℕ → ℕ → ℕ
word_of s f n = rd (configuration s.table) s.table (at file f n)

abbrev pub byte_of : State → ℕ → ℕ → ℕ
byte_of s f i = get_or s.store (f * stretch (configuration s.table) + i) 0

-- "34 XnoSPriv when the caller isn't in the guard cell": that, and nothing else, whatever the arguments and the buffer
pub only-the-guard : (s : State) (k : Call) → Well s → k.caller < slots (configuration s.table) process
    → rd (configuration s.table) s.table (at process k.caller live) ≡ 1 → k.code ≡ regrade_code → in_guard (configuration s.table) k.caller ≡ false
    → (step s k).answered.error ≡ XnoSPriv
unfolding whole_rule bad_caller bad_code rule_of regrade
only-the-guard s k w in-range alive code out =
    answered s k ∙ rw (tested (well_formed s.table (length s.store)) w, lt-leb _ _ in-range, eq-eqb _ 1 alive, code, out)

module _ (s : State) (k : Call) (w : Well s) (code : k.code ≡ regrade_code) (ok : (step s k).answered.error ≡ XOK) where
  abbrev h : List ℕ
  h = configuration s.table

  abbrev r : Addr → ℕ
  r = rd h s.table

  -- the slot that the copy takes, and the slot of its source
  abbrev pub copied : ℕ
  copied = free_slot (configuration s.table) (rd (configuration s.table) s.table) file k.b

  abbrev pub source : ℕ
  source = index_of (rd (configuration s.table) s.table (at process k.caller (held_at file k.a)))

  abbrev brought : Copy
  brought = carried h r s.store k.caller k.a k.b k.c k.buffer

  its-rule : own s k ≡ regrade h r s.store k.caller k.a k.b k.c k.buffer
  unfolding rule_of
  its-rule = rw code

  clear : Clear (regrade h r s.store k.caller k.a k.b k.c k.buffer).refusals
  clear = rw its-rule at (own-clear s k ok)

  -- a free slot of the named cell
  room : FreeSlot h r file k.b copied
  unfolding regrade
  room =
      let cell = leb-false (cells h) k.b (or_left (leb (cells h) k.b) (ltb max_bits k.c) clear.1.1.0) in
      free-slot h r (good_of s.table (length s.store) w).shape k.b cell file clear.1.1.1.1.1.1.1.1.0

  pub named-cell : cell_of (configuration s.table) file copied ≡ k.b
  named-cell = room.in_cell

  -- "It answers the new seid."
  pub answers : (step s k).answered.first ≡ seid (class file) copied (word_of s copied serial + 1)
  unfolding whole_rule regrade
  answers = (done s k ok).first ∙ ap (λ (x : Rule). x.effects.first) its-rule

  -- ---- the table

  after : (f n : ℕ) → f < slots h file → n < record_words file → word_of (next s k) f n ≡ over r (regraded brought copied (r (at file copied serial) + 1)) (at file f n)
  unfolding regrade
  after f n l m = rw (conf-kept s k w) (read-after s k w ok (at file f n) (l, m) ∙ ap (λ (x : Rule). over r x.effects.words (at file f n)) its-rule)

  -- "owner and group from a 4-byte buffer, high bytes first, links 1, opens 0"; "Size and blocks come across"; CR 11: "a regraded copy has none", no subtype
  pub record Copied : Type 0 where
    pub lives : word_of (next s k) copied live ≡ 1
    pub used : word_of (next s k) copied serial ≡ word_of s copied serial + 1
    pub its-owner : word_of (next s k) copied owner ≡ word2 k.buffer 0
    pub its-group : word_of (next s k) copied group ≡ word2 k.buffer 2
    pub its-bits : word_of (next s k) copied (bits file) ≡ k.c
    pub its-links : word_of (next s k) copied links ≡ 1
    pub its-size : word_of (next s k) copied size ≡ word_of s source size
    pub its-opens : word_of (next s k) copied opens ≡ 0
    pub its-subtype : word_of (next s k) copied subtype ≡ 0

  pub words_copied : Copied
  unfolding carried
  words_copied =
      let word : (n : ℕ) → n < record_words file → word_of (next s k) copied n ≡ _ = λ n l. after copied n room.in-range l
      ∙ regraded-word r brought copied (r (at file copied serial) + 1) n in
      let unused = (file-record h r (good_of s.table (length s.store) w).records copied room.in-range).free room.is_free in
      record {
        lives = word live (omega arith);
        used = word serial (omega arith);
        its-owner = word owner (omega arith);
        its-group = word group (omega arith);
        its-bits = word (bits file) (omega arith);
        its-links = word links (omega arith);
        its-size = word size (omega arith);
        its-opens = word opens (omega arith);
        its-subtype = word subtype (omega arith) ∙ unused subtype (omega arith) (omega arith);
      }

  -- every other file's record is as it was
  pub others-stay : (f n : ℕ) → f < slots (configuration s.table) file → n < record_words file → (f ≡ copied → ⊥) → word_of (next s k) f n ≡ word_of s f n
  others-stay f n l m d = after f n l m ∙ elsewhere file copied (regraded-in brought copied (r (at file copied serial) + 1)) r file f n (λ e. d)

  -- the source lives, so it is another
  source-found : Found h r file (r (at process k.caller (held_at file k.a)))
  unfolding regrade
  source-found = found-held h r file _ clear.1.1.1.1.1.1.0

  source-lives : word_of s source live ≡ 1
  source-lives = source-found.here.is_live

  pub source-apart : source ≡ copied → ⊥
  source-apart e = omega (arith, source-lives, room.is_free, ap (λ (f : ℕ). r (at file f live)) e)

  -- ---- the store

  stored : (next s k).store ≡ sets s.store (copied * stretch h + 0) (contents h s.store source (r (at file source size)))
  unfolding whole_rule regrade carried
  stored = (done s k ok).store ∙ ap (λ (x : Rule). store h s.store x.effects.bytes) its-rule

  source_in : source < slots h file
  source_in = source-found.parts.index_in

  size_fits : word_of s source size ≤ blocks h
  size_fits = ((file-record h r (good_of s.table (length s.store) w).records source source_in).alive source-lives).size_fits

  long : length s.store ≡ store_bytes h
  long = (good_of s.table (length s.store) w).bytes

  -- a file's stretch lies in the store
  stretch-in : (f : ℕ) → f < slots h file → f * stretch h + stretch h ≤ length s.store
  stretch-in f l = omega (arith, long, mul-le-mul_right (stretch h) l)

  contents-long : length (contents h s.store source (r (at file source size))) ≡ r (at file source size) * block_bytes
  unfolding contents part
  contents-long =
      let n : ℕ = r (at file source size) * block_bytes in
      let fits : n ≤ stretch h = omega (arith, size_fits) in
      length-take n (drop (source * stretch h) s.store) ∙ omega (arith, length-drop (source * stretch h) s.store, stretch-in source source_in)

  contents-at : (i : ℕ) → i < r (at file source size) * block_bytes → get_or (contents h s.store source (r (at file source size))) i 0 ≡ byte_of s source i
  unfolding contents part
  contents-at i l = get_or-take _ (drop (source * stretch h) s.store) i 0 l ∙ get_or-drop (source * stretch h) s.store i 0

  -- the blocks of the source's size come across
  pub bytes-copied : (i : ℕ) → i < word_of s source size * block_bytes → byte_of (next s k) copied i ≡ byte_of s source i
  bytes-copied i l =
      let fits : r (at file source size) * block_bytes ≤ stretch h = omega (arith, size_fits) in
      let zero : copied * stretch h + 0 ≡ copied * stretch h = omega arith in
      rw (conf-kept s k w, stored, zero)
      (sets-in (contents h s.store source (r (at file source size))) s.store (copied * stretch h) i (omega (arith, contents-long))
      (omega (arith, contents-long, stretch-in copied room.in-range))
      ∙ contents-at i l)

  -- "blocks past the size in the new place stay": nothing past the source's size comes across
  pub bytes_past : (i : ℕ) → word_of s source size * block_bytes ≤ i → i < stretch (configuration s.table) → byte_of (next s k) copied i ≡ byte_of s copied i
  bytes_past i l m =
      let zero : copied * stretch h + 0 ≡ copied * stretch h = omega arith in
      rw (conf-kept s k w, stored, zero)
      (sets-out (contents h s.store source (r (at file source size))) s.store (copied * stretch h) (copied * stretch h + i) (λ x y. omega (arith, contents-long)))

  -- and no other file's bytes change
  pub bytes-stay : (f i : ℕ) → i < stretch (configuration s.table) → (f ≡ copied → ⊥) → byte_of (next s k) f i ≡ byte_of s f i
  bytes-stay f i l d =
      let fits : r (at file source size) * block_bytes ≤ stretch h = omega (arith, size_fits) in
      rw (conf-kept s k w, stored)
      (stretch-apart (stretch h) copied f 0 i (contents h s.store source (r (at file source size))) s.store (omega (arith, contents-long)) l d)
