-- What a regrade finds, copies and writes, in the rules' terms.
use mathlib.Core.Path.{◌≡◌, refl, sym, ap, ◌∙◌}
use Rattle.std.specs.Prelude.{Option, Some, None, Result, Ok, IsErr, IsErrAnd}
use mathlib.Core.Bool.{true, false, cond, ◌&&◌, ◌||◌, not}
use mathlib.Core.List.{List, [], ◌∷◌, ◌++◌}
use Prim.Native.Nat.{ℕ, ◌+◌, ◌*◌, ◌≤◌, ◌<◌, ◌^◌}
use native.Mathlib.Omega.{arith}
use native.Mathlib.Nat.{mul-le-mul_right}
use lib.Dec.{eqb, leb, ltb}
use lib.ListN.{length, take, drop}
use lib.Seq.{sets, sets-eq, paste}
use borrow.Author.Tests.{eqb-true, leb-false}
use Rattle.rules.specs.Words.{part, word2}
use Rattle.rules.specs.Layout.{max_slots, max_blocks, max_serial, max_bits, block_bytes, process, file, configuration, cells, store_bytes, at, live, serial, held_at, size}
use Rattle.rules.specs.Seid.{class, seid, index_of, serial_of, formed}
use Rattle.rules.specs.Modes.{reads}
use Rattle.rules.specs.Errors.{XnoSPriv, XbSz, XbParam, XnotReadable, XnoSpace}
use Rattle.rules.specs.Rule.{Refusal, ◌⇒◌, first_refusal, write, store}
use Rattle.rules.specs.Find.{free_slot, no_slot}
use Rattle.rules.specs.Call21.{in_guard, contents, carried, regrade}
use Rattle.laws.proofs.Tests.{passed, or_left, and_left}
use Rattle.laws.proofs.Slots.{FreeSlot}
use Rattle.std.specs.List.{copy_within}
use Rattle.layout.specs.declared.Header.{Header}
use Rattle.layout.specs.Header.{record_of}
use Rattle.calls.specs.declared.Caller.{Caller}
use Rattle.calls.specs.declared.entries.Entry.{Entry}
use Rattle.calls.specs.declared.objects.Seen.{Seen}
use Rattle.calls.specs.declared.error.Error.{Error}
use Rattle.calls.specs.World.{Known, Sound, words_of}
use Rattle.calls.specs.Entries.{made_at}
use Rattle.calls.specs.Calls.{use_tests}
use Rattle.calls.specs.Refusing.{number_of}
use Rattle.calls.specs.Left.{told, rule_at}
use Rattle.calls.specs.Regrade.{Copyable, FoundIn, RegradeLeft}
use Rattle.calls.proofs.Worlds.{shape, cells_is, blocks_is, guard-is}
use Rattle.laws.proofs.Refusals.{Clear, clear}
use Rattle.calls.proofs.Refusals.{past}
use Rattle.calls.proofs.Refused.{stopped, later}
use Rattle.calls.proofs.Looks.{seen-formed, slot-in}
use Rattle.calls.proofs.Given.{begins}
use Rattle.calls.proofs.Holders.{made-is}
use Rattle.calls.proofs.Searches.{home-in, slot-none, slot-some, taken_in}
use Rattle.calls.proofs.Leaves.{refusal-some, left-stopped, left-told, store-refused, store-done, buffer-refused, buffer-done}
use Rattle.calls.proofs.BlocksLaws.{part_length, stretch-in, rule_tests, Used, held-is, used-is, form, same_number, at_slot, size_of}

-- ---- the copy

-- where a file's stretch begins
pub start_fits : (i x : ℕ) {v w : ℕ} → i < max_slots → x ≤ max_blocks → v ≡ i → w ≡ x → v * (w * block_bytes) < 2 ^ 64
start_fits i x {v} {w} l m ve we =
    let k : v ≤ max_slots = omega arith in
    omega (arith, mul-le-mul_right (w * block_bytes) k)

-- what is copied at once is stored byte after byte
pasted : (l : List ℕ) (from to n : ℕ) {k : ℕ} → k ≡ n → from + n ≤ length l → to + n ≤ length l → paste l to (drop from l) k ≡ sets l to (part l from n)
unfolding part
pasted l from to n ke source target =
    let long : length (take n (drop from l)) ≡ n = part_length l from n source in
    rw ke
    (sym (sets-eq (take n (drop from l)) l to (omega arith) ∙ ap (λ (x : ℕ). take to l ++ take n (drop from l) ++ drop (to + x) l) long))

module _ {st : List ℕ} {blocks f g size : ℕ} (r : Copyable st blocks f g size) where
  -- both stretches are within the store
  copy-ready : (f * (blocks * block_bytes) + size * block_bytes ≤ length st) × (g * (blocks * block_bytes) + size * block_bytes ≤ length st)
  copy-ready = (omega (arith, r.source, r.within), omega (arith, r.target, r.within))

  pub blocks-copied : {st' : List ℕ}
      → st' ≡ copy_within st (f * (blocks * block_bytes)) (f * (blocks * block_bytes) + size * block_bytes) (g * (blocks * block_bytes))
      → st' ≡ sets st (g * (blocks * block_bytes)) (part st (f * (blocks * block_bytes)) (size * block_bytes))
  blocks-copied e = e ∙ pasted st (f * (blocks * block_bytes)) (g * (blocks * block_bytes)) (size * block_bytes) (omega arith) copy-ready.0 copy-ready.1

-- ---- the refusals: entry d is read, and its file is seen as f, of size z

abbrev desk_tests : Header → Caller → ℕ → ℕ → ℕ → List Refusal
desk_tests n c b bits bytes =
    (not (eqb n.guard (c.cell + 1)) ⇒ XnoSPriv) ∷ (not (eqb bytes 4) ⇒ XbSz) ∷ (leb n.cells b || ltb max_bits bits ⇒ XbParam) ∷ []

abbrev source_tests : ℕ → Entry → Seen → List Refusal
source_tests a d f = use_tests a d.held (reads d.used) XnotReadable f true false

abbrev pub regrade_tests : Header → Caller → ℕ → Entry → Seen → ℕ → ℕ → ℕ → List Refusal
regrade_tests n c a d f b bits bytes = desk_tests n c b bits bytes ++ source_tests a d f

-- past both nothing of them refuses
pub regrade-unrefused : (n : Header) (c : Caller) (a : ℕ) (d : Entry) (f : Seen) (b bits bytes : ℕ) → 0 ≡ first_refusal (desk_tests n c b bits bytes)
    → 0 ≡ first_refusal (source_tests a d f) → 0 ≡ first_refusal (regrade_tests n c a d f b bits bytes)
regrade-unrefused n c a d f b bits bytes x y = later (desk_tests n c b bits bytes) (source_tests a d f) refl x y

-- past the test of the arguments b is a cell
in_cells : {t : List ℕ} {n : Header} → Known t n → (b bits : ℕ) → leb n.cells b || ltb max_bits bits ≡ false → b < cells (configuration t)
in_cells {t} {n} known b bits q = omega (arith, leb-false n.cells b (or_left (leb n.cells b) (ltb max_bits bits) q), cells_is known)

pub desk-fits : {t : List ℕ} {n : Header} {c : Caller} → Sound t n c → c.cell + 1 < 2 ^ 32
desk-fits sound = omega (arith, home-in sound, cells_is sound.known, (shape sound.known).few-cells)

module _ {t : List ℕ} {n : Header} {c : Caller} {a : ℕ} {d : Entry} {f : Seen} {z : ℕ} (u : Used t n c a d f z) (st : List ℕ) (b bits : ℕ) (buf : List ℕ) where
  abbrev slot_tests : List Refusal
  slot_tests = (no_slot (configuration t) (words_of t) file b ⇒ XnoSpace) ∷ []

  regrade-number : first_refusal (regrade_tests n c a d f b bits (length buf) ++ slot_tests) ≡ first_refusal (rule_at t (λ h q. regrade h q st c.slot a b bits buf)).refusals
  unfolding regrade in_guard
  regrade-number =
      ap (λ (x : ℕ). cond (not (eqb n.guard (c.cell + 1))) XnoSPriv (cond (not (eqb (length buf) 4)) XbSz x))
      (past (leb n.cells b || ltb max_bits bits) XbParam (use_tests a d.held (reads d.used) XnotReadable f true false ++ slot_tests)
      (rule_tests (configuration t) (words_of t) c.slot a d.held (reads d.used) XnotReadable true false slot_tests)
      (λ q. same_number u (reads d.used) XnotReadable true false slot_tests slot_tests (λ _. refl)))
      ∙ rw (guard-is u.sound.known, u.sound.home, cells_is u.sound.known, held-is u, used-is u)

  -- stage by stage
  pub regrade-desk : (e : Error) → number_of e ≡ first_refusal (desk_tests n c b bits (length buf))
      → number_of e ≡ first_refusal (rule_at t (λ h q. regrade h q st c.slot a b bits buf)).refusals
  regrade-desk e found = stopped (desk_tests n c b bits (length buf)) (source_tests a d f ++ slot_tests) e found ∙ regrade-number

  pub regrade-source : (e : Error) → 0 ≡ first_refusal (desk_tests n c b bits (length buf)) → number_of e ≡ first_refusal (source_tests a d f)
      → number_of e ≡ first_refusal (rule_at t (λ h q. regrade h q st c.slot a b bits buf)).refusals
  regrade-source e desk found =
      later (desk_tests n c b bits (length buf)) (source_tests a d f ++ slot_tests) refl desk (stopped (source_tests a d f) slot_tests e found) ∙ regrade-number

  module _ (none : 0 ≡ first_refusal (regrade_tests n c a d f b bits (length buf))) where
    unrefused : Clear (regrade_tests n c a d f b bits (length buf))
    unrefused = clear (regrade_tests n c a d f b bits (length buf)) refl (sym none)

    formed-so : formed (configuration t) file d.held ≡ true
    formed-so = form u unrefused.1.1.1.1.1.1.0

    cell_in : b < cells (configuration t)
    cell_in = in_cells u.sound.known b bits unrefused.1.1.0

    -- the slot was looked for in that cell
    module _ {g : Option ℕ} (slot : FoundIn t b g) where
      pub regrade-full : g ≡ None → XnoSpace ≡ first_refusal (rule_at t (λ h q. regrade h q st c.slot a b bits buf)).refusals
      regrade-full e =
          later (regrade_tests n c a d f b bits (length buf)) slot_tests refl none
          (slot-none (configuration t) (words_of t) file b XnoSpace (sym e ∙ slot cell_in)) ∙ regrade-number

      pub regrade-passed : {i : ℕ} → g ≡ Some i → 0 ≡ first_refusal (rule_at t (λ h q. regrade h q st c.slot a b bits buf)).refusals
      regrade-passed {i} e =
          later (regrade_tests n c a d f b bits (length buf)) slot_tests refl none
          (slot-some (configuration t) (words_of t) file b i XnoSpace (sym e ∙ slot cell_in)).1 ∙ regrade-number

    module _ {g : Option ℕ} (slot : FoundIn t b g) {i : ℕ} (some : g ≡ Some i) where
      slot-found : i ≡ free_slot (configuration t) (words_of t) file b
      slot-found = (slot-some (configuration t) (words_of t) file b i XnoSpace (sym some ∙ slot cell_in)).0

      -- the slot found is free, and the file that is copied is not: they are two
      free : FreeSlot (configuration t) (words_of t) file b i
      free = taken_in u.sound.known file b cell_in (sym some ∙ slot cell_in)

      is_live : words_of t (at file f.slot live) ≡ 1
      is_live =
          let seen = seen-formed u.sound.known c.slot file d.held u.seen formed-so in
          let there : eqb (words_of t (at file (index_of d.held) live)) 1 && eqb (words_of t (at file (index_of d.held) serial)) (serial_of d.held) ≡ true
          = sym (ap (λ (x : Seen). x.present) seen) ∙ passed f.present unrefused.1.1.1.1.1.1.0 in
          rw (at_slot u formed-so) (eqb-true _ 1 (and_left _ _ there))

      other : f.slot ≡ i → ⊥
      other q = omega (arith, ap (λ (j : ℕ). words_of t (at file j live)) q, is_live, free.is_free)

      -- what the writers count on
      pub record-ready : (i < max_slots) × (words_of t (at file i serial) < max_serial)
      record-ready = (omega (arith, free.in-range, (shape u.sound.known).few file), free.not-worn)

      pub store-ready : length st ≡ store_bytes (configuration t) → Copyable st n.blocks f.slot i z
      store-ready long =
          let here = slot-in u.sound.known c.slot file d.held u.seen formed-so in
          record {
            source = stretch-in u.sound.known here (length st) long refl refl;
            target = stretch-in u.sound.known free.in-range (length st) long refl refl;
            within = omega (arith, size_of u formed-so, blocks_is u.sound.known);
            few-blocks = omega (arith, blocks_is u.sound.known, (shape u.sound.known).few-blocks);
            few-files = (omega (arith, here, (shape u.sound.known).few file), record-ready.0);
            other = other;
          }

      size_is : z ≡ words_of t (at file (index_of (words_of t (at process c.slot (held_at file a)))) size)
      size_is = rw (← (held-is u), ← (at_slot u formed-so)) u.sized

      -- the seid, the words and the bytes
      pub regrade-seid : {s : ℕ} → s ≡ seid (class file) i (words_of t (at file i serial) + 1)
          → s ≡ (rule_at t (λ h q. regrade h q st c.slot a b bits buf)).effects.first
      unfolding regrade
      regrade-seid se = se ∙ rw slot-found

      pub regrade-words : {x y : ℕ} {t' : List ℕ} → x ≡ word2 buf 0 → y ≡ word2 buf 2
          → t' ≡ made_at t (record_of n file i) (words_of t (at file i serial) + 1) x y bits 1 z 0
          → t' ≡ write (configuration t) t (rule_at t (λ h q. regrade h q st c.slot a b bits buf)).effects.words
      unfolding regrade carried
      regrade-words xe ye te =
          let j = free_slot (configuration t) (words_of t) file b in
          te
          ∙ rw (xe, ye, begins u.sound.known file i, slot-found, size_is)
          (sym (made-is (configuration t) t file j (words_of t (at file j serial) + 1) (word2 buf 0) (word2 buf 2) bits 1
          (words_of t (at file (index_of (words_of t (at process c.slot (held_at file a)))) size)) 0 []))

      pub regrade-bytes : {st' : List ℕ} → st' ≡ sets st (i * (n.blocks * block_bytes)) (part st (f.slot * (n.blocks * block_bytes)) (z * block_bytes))
          → st' ≡ store (configuration t) st (rule_at t (λ h q. regrade h q st c.slot a b bits buf)).effects.bytes
      unfolding regrade carried contents
      regrade-bytes se =
          let front : (j : ℕ) → j + 0 ≡ j = λ j. omega arith in
          se ∙ rw (slot-found, size_is, at_slot u formed-so, held-is u, blocks_is u.sound.known, front)

-- ---- what the call leaves

module _ (t st : List ℕ) (p a b c : ℕ) (buf : List ℕ) where
  pub regrade-stopped : (e : Error) (r : Result (ℕ × ℕ) Error) → number_of e ≡ first_refusal (rule_at t (λ h q. regrade h q st p a b c buf)).refusals
      → IsErr r → IsErrAnd r (λ x. x ≡ e) → RegradeLeft t st p a b c buf (told r) t st
  regrade-stopped e r found is same = record {
    left = left-stopped t (λ h q. regrade h q st p a b c buf) e r found is same;
    store = store-refused (rule_at t (λ h q. regrade h q st p a b c buf)) found (configuration t) st (refusal-some e);
    buffer = buffer-refused (rule_at t (λ h q. regrade h q st p a b c buf)) found buf (refusal-some e);
  }

  pub regrade-done : {s : ℕ} {t' st' : List ℕ} → 0 ≡ first_refusal (rule_at t (λ h q. regrade h q st p a b c buf)).refusals
      → s ≡ (rule_at t (λ h q. regrade h q st p a b c buf)).effects.first
      → t' ≡ write (configuration t) t (rule_at t (λ h q. regrade h q st p a b c buf)).effects.words
      → st' ≡ store (configuration t) st (rule_at t (λ h q. regrade h q st p a b c buf)).effects.bytes → RegradeLeft t st p a b c buf (told (Ok (s, 0))) t' st'
  unfolding regrade
  regrade-done found se te be = record {
    left = left-told t (λ h q. regrade h q st p a b c buf) found se refl te;
    store = be ∙ store-done (rule_at t (λ h q. regrade h q st p a b c buf)) found (configuration t) st refl;
    buffer = buffer-done (rule_at t (λ h q. regrade h q st p a b c buf)) found buf refl;
  }
