-- 02, CR 9. 21. Regrade: "By call 21 a process of that cell copies the file open for reading at descriptor a into a new file of cell b, bits c, owner and group from a
-- 4-byte buffer, high bytes first, links 1, opens 0. Refusals in order: 34 XnoSPriv when the caller isn't in the guard cell; 5; 4 for a bad cell or bits; 10; 20; stale 12;
-- 16; no slot in the named cell 26. It answers the new seid. Size and blocks come across; blocks past the size in the new place stay."
use Rattle.std.specs.Prelude.{Bool, true, false, ◌||◌, not, List, [], ◌∷◌, ℕ, ◌+◌, ◌*◌, ltb, leb, eqb, length}
use Rattle.rules.specs.Words.{part, word2}
use Rattle.rules.specs.Layout.{block_bytes, max_bits, process, file, cells, guard, cell_of, stretch, Addr, at, live, serial, owner, group, entries, held_at, used_at, bits, links, size, opens}
use Rattle.rules.specs.Seid.{class, seid, index_of}
use Rattle.rules.specs.Modes.{reads}
use Rattle.rules.specs.Rights.{lacks}
use Rattle.rules.specs.Errors.{XnoSPriv, XbSz, XbParam, XbadOd, XnotReadable, XnoObj, XdapViol, XnoSpace}
use Rattle.rules.specs.Rule.{◌⇒◌, Word, ◌≔◌, Bytes, bytes_at, effect, Rule, rule}
use Rattle.rules.specs.Find.{stale, rights_at, free_slot, no_slot}
use Rattle.rules.specs.Copy.{Copy, copy}

-- process p is of the guard cell
unfoldable pub in_guard : List ℕ → ℕ → Bool
in_guard h p = eqb (guard h) (cell_of h process p + 1)

-- the first n blocks of file f, as the store st holds them
unfoldable pub contents : List ℕ → List ℕ → ℕ → ℕ → List ℕ
contents h st f n = part st (f * stretch h) (n * block_bytes)

-- what is carried into cell b: the size and blocks of the file at descriptor a, bits c, owner and group as the buffer says
unfoldable pub carried : List ℕ → (Addr → ℕ) → List ℕ → ℕ → ℕ → ℕ → ℕ → List ℕ → Copy
carried h r st p a b c buffer =
    let f : ℕ = index_of (r (at process p (held_at file a))) in
    copy b (r (at file f size)) (contents h st f (r (at file f size))) (word2 buffer 0) (word2 buffer 2) c

-- the file slot f, with serial s: "links 1, opens 0"; 02, CR 11: "a regraded copy has none", for its word is 0 in every record that isn't live
abbrev pub regraded : Copy → ℕ → ℕ → List Word
regraded x f s =
    (at file f live ≔ 1) ∷ (at file f serial ≔ s) ∷ (at file f owner ≔ x.owner) ∷ (at file f group ≔ x.group) ∷ (at file f (bits file) ≔ x.bits)
    ∷ (at file f links ≔ 1) ∷ (at file f size ≔ x.size) ∷ (at file f opens ≔ 0) ∷ []

abbrev pub blocks_copied : Copy → ℕ → List Bytes
blocks_copied x f = bytes_at f 0 x.bytes ∷ []

unfoldable pub regrade : List ℕ → (Addr → ℕ) → List ℕ → ℕ → ℕ → ℕ → ℕ → List ℕ → Rule
regrade h r st p a b c buffer =
    let s : ℕ = r (at process p (held_at file a)) in
    let x : Copy = carried h r st p a b c buffer in
    let f : ℕ = free_slot h r file b in
    let n : ℕ = r (at file f serial) + 1 in
    rule
    ((not (in_guard h p) ⇒ XnoSPriv) ∷ (not (eqb (length buffer) 4) ⇒ XbSz) ∷ (leb (cells h) b || ltb max_bits c ⇒ XbParam)
    ∷ (leb entries a ⇒ XbadOd) ∷ (eqb s 0 ⇒ XbadOd) ∷ (not (reads (r (at process p (used_at file a)))) ⇒ XnotReadable)
    ∷ (stale h r file s ⇒ XnoObj) ∷ (lacks (rights_at r p file (index_of s)) true false ⇒ XdapViol) ∷ (no_slot h r file b ⇒ XnoSpace) ∷ [])
    (effect (seid (class file) f n) 0 buffer (regraded x f n) (blocks_copied x f))
