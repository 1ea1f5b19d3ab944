-- What the block calls find, copy and write, in the rules' terms.
use mathlib.Core.Path.{◌≡◌, refl, sym, ap, ◌∙◌}
use mathlib.Core.Bool.{Bool, true, false, cond, not}
use mathlib.Core.List.{List, [], ◌∷◌, ◌++◌}
use Prim.Native.Nat.{ℕ, suc, ◌+◌, ◌*◌, ◌-◌, ◌≤◌, ◌<◌, ◌^◌, max}
use native.Mathlib.Omega.{arith}
use native.Mathlib.Decide.{ℕ_discrete}
use native.Mathlib.Nat.{mul-le-mul_right}
use lib.Dec.{eqb, leb}
use lib.ListN.{length, set, take, drop, replicate, length-replicate, length-take, length-drop}
use lib.Seq.{take-set-le, take-set-lt, drop-set-lt, drop-set-add, sets}
use borrow.Author.Tests.{eqb-true, leb-false}
use borrow.Rule.Slice.PartMut.{mid_of, put_mid, put_same}
use Rattle.std.specs.Prelude.{Result, Ok, Err, IsErr, IsErrAnd}
use Rattle.words.proofs.Copies.{sets-all}
use Rattle.rules.specs.Words.{part}
use Rattle.rules.specs.Layout.{block_bytes, process, file, configuration, slots, blocks, store_bytes, Addr, at, live, entries, held_at, used_at, size}
use Rattle.rules.specs.Seid.{index_of, formed, present}
use Rattle.rules.specs.Modes.{reads, writes}
use Rattle.rules.specs.Rights.{lacks}
use Rattle.rules.specs.Errors.{XbSz, XbadOd, XnotReadable, XnotWritable, XnoObj, XdapViol, XbadBlockNo, XendOfFile}
use Rattle.rules.specs.Rule.{Refusal, ◌⇒◌, first_refusal, write, store}
use Rattle.rules.specs.Find.{stale, rights_at}
use Rattle.rules.specs.Call13.{block, unbuffered, read_block}
use Rattle.rules.specs.Call14.{block_written, write_block}
use Rattle.rules.specs.View.{block_place}
use Rattle.laws.proofs.Tests.{passed, both_ways, split}
use Rattle.laws.proofs.Shape.{file-record}
use Rattle.layout.specs.declared.Header.{Header}
use Rattle.layout.specs.Header.{place_of}
use Rattle.calls.specs.declared.error.Error.{Error}
use Rattle.calls.specs.declared.Caller.{Caller}
use Rattle.calls.specs.declared.entries.Entry.{Entry}
use Rattle.calls.specs.declared.objects.Seen.{Seen}
use Rattle.calls.specs.World.{Known, Sound, words_of}
use Rattle.calls.specs.Seen.{named_of, seen_of}
use Rattle.calls.specs.Entries.{entry_of}
use Rattle.calls.specs.Calls.{use_tests}
use Rattle.calls.specs.Refusing.{number_of}
use Rattle.calls.specs.Left.{told, rule_at}
use Rattle.calls.specs.Blocks.{ReadLeft, WriteLeft}
use Rattle.calls.specs.View.{ShownBy}
use Rattle.calls.proofs.Worlds.{spot, shape, blocks_is}
use Rattle.laws.proofs.Refusals.{Clear, clear}
use Rattle.calls.proofs.Refused.{stopped, later}
use Rattle.calls.proofs.Looks.{seen-formed, unseen-is, slot_is, slot-in}
use Rattle.calls.proofs.Leaves.{refusal-some, left-stopped, left-told, store-refused, store-done, buffer-refused, buffer-done}

-- ---- a part that is lent: bytes stored in it are stored in the whole

module _ {A : Type 0} (a k : ℕ) where
  mid-set : (l : List A) (i : ℕ) (v : A) → i < k → set (mid_of a k l) i v ≡ mid_of a k (set l (a + i) v)
  mid-set l i v h = sym (ap (take k) (drop-set-add a l i v) ∙ take-set-lt k (drop a l) i v h)

  put-set : (l ys : List A) (i : ℕ) (v : A) → i < k → put_mid a k (set l (a + i) v) ys ≡ put_mid a k l ys
  put-set l ys i v h =
      let before : a ≤ a + i = omega arith in
      rw (take-set-le a l (a + i) v before, drop-set-add a l i v, drop-set-lt k (drop a l) i v h)

  pub mid-sets : (vs l : List A) (i : ℕ) → i + length vs ≤ k → put_mid a k l (sets (mid_of a k l) i vs) ≡ sets l (a + i) vs
  mid-sets [] l i h = put_same a k l
  mid-sets (v ∷ vs) l i h =
      let here : i < k = omega arith in
      ap (λ (x : List A). put_mid a k l (sets x (suc i) vs)) (mid-set l i v here)
      ∙ sym (put-set l (sets (mid_of a k (set l (a + i) v)) (suc i) vs) i v here)
      ∙ mid-sets vs (set l (a + i) v) (suc i) (omega arith)
      ∙ ap (λ (x : ℕ). sets (set l (a + i) v) x vs) (omega arith)

-- the stretch is lent twice: to the hole filler, which leaves l₁, and to the block writer, which leaves l₂
pub stretch-written : (s d l₁ l₂ : List ℕ) (x n k size b : ℕ) → k ≡ n → size * block_bytes ≤ n → b * block_bytes + length d ≤ n
    → l₁ ≡ sets (mid_of x k s) (size * block_bytes) (replicate ((b - size) * block_bytes) 0) → l₂ ≡ sets (mid_of x k (put_mid x k s l₁)) (b * block_bytes) d
    → put_mid x k (put_mid x k s l₁) l₂ ≡ sets (sets s (x + size * block_bytes) (replicate ((b - size) * block_bytes) 0)) (x + b * block_bytes) d
stretch-written s d l₁ l₂ x n k size b e hs hb q₁ q₂ =
    let z : length (replicate {A = ℕ} ((b - size) * block_bytes) 0) ≡ (b - size) * block_bytes = length-replicate ((b - size) * block_bytes) 0 in
    let e₁ : put_mid x k s l₁ ≡ sets s (x + size * block_bytes) (replicate ((b - size) * block_bytes) 0) = ap (put_mid x k s) q₁
    ∙ mid-sets x k (replicate ((b - size) * block_bytes) 0) s (size * block_bytes) (omega arith) in
    ap (put_mid x k (put_mid x k s l₁)) q₂ ∙ mid-sets x k d (put_mid x k s l₁) (b * block_bytes) (omega arith) ∙ ap (λ (y : List ℕ). sets y (x + b * block_bytes) d) e₁

pub part_length : (s : List ℕ) (i n : ℕ) → i + n ≤ length s → length (take n (drop i s)) ≡ n
part_length s i n h = omega (arith, length-take n (drop i s), length-drop i s)

-- the stretch of a file that the table has is within the store
pub stretch-in : {t : List ℕ} {n : Header} → Known t n → {i : ℕ} → i < slots (configuration t) file → (m : ℕ) → m ≡ store_bytes (configuration t) → {v x : ℕ}
    → x ≡ n.blocks → v ≡ i → v * (x * block_bytes) + x * block_bytes ≤ m
stretch-in {t} known {i} l m long xe ve =
    let span = blocks (configuration t) * block_bytes in
    let k = mul-le-mul_right span l in
    let s : suc i * span ≡ i * span + span = native.Mathlib.Nat.suc-mul i span in
    rw (xe, ve, blocks_is known) (omega arith)

-- ---- the refusals: entry d is read, its file is seen as f, and held says whether the entry has the mode

-- the rules' tests of the entry, with what follows them
abbrev pub rule_tests : List ℕ → (Addr → ℕ) → ℕ → ℕ → ℕ → Bool → ℕ → Bool → Bool → List Refusal → List Refusal
rule_tests h r p a s held number read write rest =
    (leb entries a ⇒ XbadOd) ∷ (eqb s 0 ⇒ XbadOd) ∷ (not held ⇒ number) ∷ (stale h r file s ⇒ XnoObj)
    ∷ (lacks (rights_at r p file (index_of s)) read write ⇒ XdapViol) ∷ rest

-- what the code has found of entry a and of its file, past all tests
pub record Used (t : List ℕ) (n : Header) (c : Caller) (a : ℕ) (d : Entry) (f : Seen) (z : ℕ) : Type 0 where
  pub sound : Sound t n c
  pub entry : d ≡ entry_of (words_of t) file c.slot a
  pub seen : f ≡ seen_of (configuration t) (words_of t) c.slot file (named_of n file d.held)
  pub sized : z ≡ words_of t (at file f.slot size)

module _ {t : List ℕ} {n : Header} {c : Caller} {a : ℕ} {d : Entry} {f : Seen} {z : ℕ} (u : Used t n c a d f z) where
  pub held-is : d.held ≡ words_of t (at process c.slot (held_at file a))
  held-is = ap (λ (x : Entry). x.held) u.entry

  pub used-is : d.used ≡ words_of t (at process c.slot (used_at file a))
  used-is = ap (λ (x : Entry). x.used) u.entry

  -- what is seen of the entry is present only where that has the form of a file's seid
  pub form : not f.present ≡ false → formed (configuration t) file d.held ≡ true
  form there = split _ (formed (configuration t) file d.held) (λ e. e)
      (λ e. let gone : f.present ≡ false = ap (λ (x : Seen). x.present) (unseen-is u.sound.known c.slot file d.held u.seen e) in
      both_ways f.present (passed f.present there) gone)

  -- the code's number is the rules'; what follows may be known by the form
  module _ (held : Bool) (number : ℕ) (read write : Bool) (xs ys : List Refusal)
      (rest : formed (configuration t) file d.held ≡ true → first_refusal xs ≡ first_refusal ys) where
    by-entry : (l some : Bool) → leb entries a ≡ l → eqb d.held 0 ≡ some → first_refusal (use_tests a d.held held number f read write ++ xs)
        ≡ first_refusal (rule_tests (configuration t) (words_of t) c.slot a d.held held number read write ys)
    unfolding present
    by-entry true some l q = rw l
    by-entry false true l q = rw (l, q)
    by-entry false false l q = split _ (formed (configuration t) file d.held)
        (λ g. rw (l, q, g, rest g, seen-formed u.sound.known c.slot file d.held u.seen g))
        (λ g. rw (l, q, g, unseen-is u.sound.known c.slot file d.held u.seen g))

    pub same_number : first_refusal (use_tests a d.held held number f read write ++ xs)
        ≡ first_refusal (rule_tests (configuration t) (words_of t) c.slot a d.held held number read write ys)
    same_number = by-entry (leb entries a) (eqb d.held 0) refl refl

  module _ (formed-so : formed (configuration t) file d.held ≡ true) where
    pub at_slot : f.slot ≡ index_of d.held
    at_slot = slot_is u.sound.known c.slot file d.held u.seen formed-so

    -- the file's stretch is within the store, and its size within the stretch, also where the record is free
    stretch-of : (m : ℕ) → m ≡ store_bytes (configuration t) → {v x : ℕ} → x ≡ n.blocks → v ≡ f.slot → v * (x * block_bytes) + x * block_bytes ≤ m
    stretch-of m long xe ve = stretch-in u.sound.known (slot-in u.sound.known c.slot file d.held u.seen formed-so) m long xe ve

    pub size_of : z ≤ blocks (configuration t)
    size_of =
        let x = file-record (configuration t) (words_of t) u.sound.records f.slot (slot-in u.sound.known c.slot file d.held u.seen formed-so) in
        elim (ℕ_discrete (words_of t (at file f.slot live)) 1) [
          | yes y ↦ omega (arith, u.sized, (x.alive y).size_fits)
          | no q ↦ omega (arith, u.sized, x.free (omega (arith, x.flag)) size (omega arith) (omega arith))
        ]

-- ---- reading, with a buffer or by a view

-- the steps of the code: the entry, and the block
abbrev entry_read : ℕ → Entry → Seen → List Refusal
entry_read a d f = use_tests a d.held (reads d.used) XnotReadable f true false

abbrev block_read : ℕ → ℕ → ℕ → List Refusal
block_read z blocks b = (leb blocks b ⇒ XbadBlockNo) ∷ (leb z b ⇒ XendOfFile) ∷ []

abbrev read_tests : ℕ → Entry → Seen → ℕ → ℕ → ℕ → List Refusal
read_tests a d f z blocks b = entry_read a d f ++ block_read z blocks b

-- the slot, the block and the file's blocks as the code has them: v, y and x
module _ {t : List ℕ} {n : Header} {c : Caller} {a : ℕ} {d : Entry} {f : Seen} {z : ℕ} (u : Used t n c a d f z) (st : List ℕ) (b : ℕ) where
  pub entry-stops : (e : Error) → number_of e ≡ first_refusal (entry_read a d f) → number_of e ≡ first_refusal (read_tests a d f z n.blocks b)
  entry-stops = stopped (entry_read a d f) (block_read z n.blocks b)

  pub entry-passes : 0 ≡ first_refusal (entry_read a d f) → {e : ℕ} → e ≡ first_refusal (block_read z n.blocks b)
      → e ≡ first_refusal (read_tests a d f z n.blocks b)
  entry-passes = later (entry_read a d f) (block_read z n.blocks b) refl

  block-test : formed (configuration t) file d.held ≡ true → first_refusal (block_read z n.blocks b)
      ≡ first_refusal (block_read (words_of t (at file (index_of d.held) size)) (blocks (configuration t)) b)
  block-test g = rw (blocks_is u.sound.known, u.sized, at_slot u g)

  same-list : first_refusal (read_tests a d f z n.blocks b) ≡ first_refusal (unbuffered (configuration t) (words_of t) c.slot a b)
  same-list =
      same_number u (reads d.used) XnotReadable true false (block_read z n.blocks b)
      (block_read (words_of t (at file (index_of d.held) size)) (blocks (configuration t)) b) block-test
      ∙ rw (held-is u, used-is u)

  pub block-hidden : (e : Error) (r : Result ℕ Error) → number_of e ≡ first_refusal (read_tests a d f z n.blocks b) → IsErr r → IsErrAnd r (λ x. x ≡ e)
      → ShownBy t st c.slot a b r
  block-hidden e (Ok i) found is same = absurd same
  block-hidden e (Err x) found is same = record { refused = ap number_of same ∙ found ∙ same-list; place = tt }

  module _ (none : 0 ≡ first_refusal (read_tests a d f z n.blocks b)) where
    read-clear : Clear (read_tests a d f z n.blocks b)
    read-clear = clear (read_tests a d f z n.blocks b) refl (sym none)

    read-formed : formed (configuration t) file d.held ≡ true
    read-formed = form u read-clear.1.1.1.0

    pub block_within : {x : ℕ} → length st ≡ store_bytes (configuration t) → x ≡ n.blocks * block_bytes
        → (f.slot * x + x ≤ length st) × (b * block_bytes + block_bytes ≤ x)
    block_within long xe = rw xe (
      stretch-of u read-formed (length st) long refl refl,
      omega (arith, leb-false n.blocks b read-clear.1.1.1.1.1.0),
    )

    place_is : {x i : ℕ} → x ≡ n.blocks * block_bytes → i ≡ f.slot * x + b * block_bytes → i ≡ block_place (configuration t) (words_of t) c.slot a b
    unfolding block_place
    place_is xe ie = ie ∙ rw (xe, at_slot u read-formed, held-is u, blocks_is u.sound.known)

    pub block-shown : {x i : ℕ} → x ≡ n.blocks * block_bytes → (i ≡ f.slot * x + b * block_bytes) × (i + block_bytes ≤ length st)
        → ShownBy t st c.slot a b (Ok i)
    block-shown xe ie = record { refused = none ∙ same-list; place = (place_is xe ie.0, ie.1) }

-- the first step of both calls
abbrev length_test : List ℕ → List Refusal
length_test buf = (not (eqb (length buf) block_bytes) ⇒ XbSz) ∷ []

right-length : (buf : List ℕ) → 0 ≡ first_refusal (length_test buf) → length buf ≡ block_bytes
right-length buf long = eqb-true (length buf) block_bytes (passed (eqb (length buf) block_bytes) (clear (length_test buf) refl (sym long)).0)

-- a read: past the test of the buffer's length, what refuses the block or its place
module _ (t st : List ℕ) (p a b : ℕ) (buf : List ℕ) where
  pub read-stops : (e : Error) → number_of e ≡ first_refusal (length_test buf)
      → number_of e ≡ first_refusal (rule_at t (λ h q. read_block h q st p a b buf)).refusals
  unfolding read_block
  read-stops = stopped (length_test buf) (unbuffered (configuration t) (words_of t) p a b)

  module _ (long : 0 ≡ first_refusal (length_test buf)) where
    pub read-passes : {e : ℕ} → e ≡ first_refusal (unbuffered (configuration t) (words_of t) p a b)
        → e ≡ first_refusal (rule_at t (λ h q. read_block h q st p a b buf)).refusals
    unfolding read_block
    read-passes = later (length_test buf) (unbuffered (configuration t) (words_of t) p a b) refl long

    -- the block fills the buffer
    pub read-buffer : {i k : ℕ} {buf' : List ℕ} → (i ≡ block_place (configuration t) (words_of t) p a b) × (i + block_bytes ≤ length st) → k ≡ block_bytes
        → buf' ≡ sets buf 0 (take k (drop i st)) → buf' ≡ (rule_at t (λ h q. read_block h q st p a b buf)).effects.buffer
    unfolding read_block block block_place part
    read-buffer {i} {k} at ke be =
        let whole : length (take k (drop i st)) ≡ length buf
        = length-take k (drop i st) ∙ omega (arith, length-drop i st, ke, at.1, right-length buf long) in
        be ∙ sets-all buf (take k (drop i st)) whole ∙ rw (ke, at.0) refl

-- ---- writing

-- the steps of the code past that: the entry and the block
abbrev entry_written : ℕ → Entry → Seen → List Refusal
entry_written a d f = use_tests a d.held (writes d.used) XnotWritable f false true

abbrev block_written_to : ℕ → ℕ → List Refusal
block_written_to blocks b = (leb blocks b ⇒ XbadBlockNo) ∷ []

abbrev write_tests : List ℕ → ℕ → Entry → Seen → ℕ → ℕ → List Refusal
write_tests buf a d f blocks b = length_test buf ++ (entry_written a d f ++ block_written_to blocks b)

module _ {t : List ℕ} {n : Header} {c : Caller} {a : ℕ} {d : Entry} {f : Seen} {z : ℕ} (u : Used t n c a d f z) (st : List ℕ) (b : ℕ) (buf : List ℕ) where
  write-number : {e : ℕ} → e ≡ first_refusal (write_tests buf a d f n.blocks b)
      → e ≡ first_refusal (rule_at t (λ h q. write_block h q c.slot a b buf)).refusals
  unfolding write_block
  write-number told =
      told
      ∙ ap (cond (not (eqb (length buf) block_bytes)) XbSz) (same_number u (writes d.used) XnotWritable false true (block_written_to n.blocks b)
      (block_written_to (blocks (configuration t)) b) (λ _. rw (blocks_is u.sound.known)))
      ∙ rw (held-is u, used-is u)

  pub length-stops : (e : Error) → number_of e ≡ first_refusal (length_test buf)
      → number_of e ≡ first_refusal (rule_at t (λ h q. write_block h q c.slot a b buf)).refusals
  length-stops e told = write-number (stopped (length_test buf) (entry_written a d f ++ block_written_to n.blocks b) e told)

  module _ (long : 0 ≡ first_refusal (length_test buf)) where
    past-length : {e : ℕ} → e ≡ first_refusal (entry_written a d f ++ block_written_to n.blocks b) → e ≡ first_refusal (write_tests buf a d f n.blocks b)
    past-length = later (length_test buf) (entry_written a d f ++ block_written_to n.blocks b) refl long

    pub use-stops : (e : Error) → number_of e ≡ first_refusal (entry_written a d f)
        → number_of e ≡ first_refusal (rule_at t (λ h q. write_block h q c.slot a b buf)).refusals
    use-stops e told = write-number (past-length (stopped (entry_written a d f) (block_written_to n.blocks b) e told))

    module _ (held : 0 ≡ first_refusal (entry_written a d f)) where
      past-use : {e : ℕ} → e ≡ first_refusal (block_written_to n.blocks b) → e ≡ first_refusal (write_tests buf a d f n.blocks b)
      past-use told = past-length (later (entry_written a d f) (block_written_to n.blocks b) refl held told)

      pub use-passes : {e : ℕ} → e ≡ first_refusal (block_written_to n.blocks b)
          → e ≡ first_refusal (rule_at t (λ h q. write_block h q c.slot a b buf)).refusals
      use-passes told = write-number (past-use told)

      -- past the last step
      module _ (none : 0 ≡ first_refusal (block_written_to n.blocks b)) where
        write-clear : Clear (write_tests buf a d f n.blocks b)
        write-clear = clear (write_tests buf a d f n.blocks b) refl (sym (past-use none))

        write-formed : formed (configuration t) file d.held ≡ true
        write-formed = form u write-clear.1.1.1.1.0

        block_in : b < n.blocks
        block_in = leb-false n.blocks b write-clear.1.1.1.1.1.1.0

        pub next_small : b + 1 < 2 ^ 32
        next_small = omega (arith, block_in, blocks_is u.sound.known, (shape u.sound.known).few-blocks)

        size_is : z ≡ words_of t (at file (index_of (words_of t (at process c.slot (held_at file a)))) size)
        size_is = rw (← (held-is u), ← (at_slot u write-formed)) u.sized

        pub write-within : {x : ℕ} → length st ≡ store_bytes (configuration t) → x ≡ n.blocks * block_bytes
            → (f.slot * x + x ≤ length st) × (z * block_bytes ≤ x) × (b * block_bytes + length buf ≤ x) × (b < 2 ^ 32)
        write-within stored xe = rw xe (
          stretch-of u write-formed (length st) stored refl refl,
          omega (arith, size_of u write-formed, blocks_is u.sound.known),
          omega (arith, block_in, right-length buf long),
          omega (arith, next_small),
        )

        -- the bytes and the size written
        pub write_bytes : {x : ℕ} {st' : List ℕ} → x ≡ n.blocks * block_bytes
            → st' ≡ sets (sets st (f.slot * x + z * block_bytes) (replicate ((b - z) * block_bytes) 0)) (f.slot * x + b * block_bytes) buf
            → st' ≡ store (configuration t) st (rule_at t (λ h q. write_block h q c.slot a b buf)).effects.bytes
        unfolding write_block block_written
        write_bytes xe be = be ∙ rw (xe, size_is, at_slot u write-formed, held-is u, blocks_is u.sound.known)

        pub write-words : {l : ℕ} {t' : List ℕ} → l ≡ max z (b + 1) → t' ≡ set t (place_of n (at file f.slot size)) l
            → t' ≡ write (configuration t) t (rule_at t (λ h q. write_block h q c.slot a b buf)).effects.words
        unfolding write_block
        write-words le te = te ∙ rw (le, spot u.sound.known (at file f.slot size), size_is, at_slot u write-formed, held-is u)

-- ---- what the calls leave

module _ (t st : List ℕ) (p a b : ℕ) (buf : List ℕ) where
  module _ (e : Error) (r : Result (ℕ × ℕ) Error) (is : IsErr r) (same : IsErrAnd r (λ x. x ≡ e)) where
    pub read-refused : number_of e ≡ first_refusal (rule_at t (λ h q. read_block h q st p a b buf)).refusals → ReadLeft t st p a b buf (told r) buf
    read-refused found = record {
      left = left-stopped t (λ h q. read_block h q st p a b buf) e r found is same;
      store = store-refused (rule_at t (λ h q. read_block h q st p a b buf)) found (configuration t) st (refusal-some e);
      buffer = buffer-refused (rule_at t (λ h q. read_block h q st p a b buf)) found buf (refusal-some e);
    }

    pub write-refused : number_of e ≡ first_refusal (rule_at t (λ h q. write_block h q p a b buf)).refusals → WriteLeft t st p a b buf (told r) t st
    write-refused found = record {
      left = left-stopped t (λ h q. write_block h q p a b buf) e r found is same;
      store = store-refused (rule_at t (λ h q. write_block h q p a b buf)) found (configuration t) st (refusal-some e);
      buffer = buffer-refused (rule_at t (λ h q. write_block h q p a b buf)) found buf (refusal-some e);
    }

  pub read_done : {buf' : List ℕ} → 0 ≡ first_refusal (rule_at t (λ h q. read_block h q st p a b buf)).refusals
      → buf' ≡ (rule_at t (λ h q. read_block h q st p a b buf)).effects.buffer → ReadLeft t st p a b buf (told (Ok (0, 0))) buf'
  unfolding read_block
  read_done found be = record {
    left = left-told t (λ h q. read_block h q st p a b buf) found refl refl refl;
    store = store-done (rule_at t (λ h q. read_block h q st p a b buf)) found (configuration t) st refl;
    buffer = be ∙ buffer-done (rule_at t (λ h q. read_block h q st p a b buf)) found buf refl;
  }

  pub write_done : {t' st' : List ℕ} → 0 ≡ first_refusal (rule_at t (λ h q. write_block h q p a b buf)).refusals
      → t' ≡ write (configuration t) t (rule_at t (λ h q. write_block h q p a b buf)).effects.words
      → st' ≡ store (configuration t) st (rule_at t (λ h q. write_block h q p a b buf)).effects.bytes → WriteLeft t st p a b buf (told (Ok (0, 0))) t' st'
  unfolding write_block
  write_done found te be = record {
    left = left-told t (λ h q. write_block h q p a b buf) found refl refl te;
    store = be ∙ store-done (rule_at t (λ h q. write_block h q p a b buf)) found (configuration t) st refl;
    buffer = buffer-done (rule_at t (λ h q. write_block h q p a b buf)) found buf refl;
  }
