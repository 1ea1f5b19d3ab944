-- 02, "Evening image and morning reload": the image of a table and its store, its length, what is refused, and what is left.
use Rattle.std.specs.Prelude.{cond, ◌&&◌, not, List, [], ◌∷◌, ◌++◌, ℕ, ◌+◌, ltb, eqb, length, drop}
use Rattle.rules.specs.Claim.{test}
use Rattle.rules.specs.WellFormed.{well_formed}
use Rattle.rules.specs.Errors.{XOK, XbTab, XbParam, XbSz}
use Rattle.rules.specs.Rule.{◌⇒◌, first_refusal}
use Rattle.rules.specs.Replay.{encoded, Taken, took, bad, numbers}

-- ---- the evening

-- "every word in the seven-bit groups of the replay input"
unfoldable pub word_bytes : List ℕ → List ℕ
word_bytes [] = []
word_bytes (v ∷ t) = encoded v ++ word_bytes t

-- "Write the table and store to a byte image: every word .., then the store's bytes as they are." There is no heading and no count.
unfoldable pub image_of : List ℕ → List ℕ → List ℕ
image_of t s = word_bytes t ++ s

-- "Give the exact length needed": for a store of m bytes. A bad table has no image, and the length of that is 0.
unfoldable pub image_length : List ℕ → ℕ → ℕ
image_length t m = cond (test (well_formed t m)) (length (word_bytes t) + m) 0

-- "A bad table is refused with 1, then a short output buffer with 5"
unfoldable pub image_answer : List ℕ → List ℕ → List ℕ → ℕ
image_answer t s out =
    first_refusal ((not (test (well_formed t (length s))) ⇒ XbTab) ∷ (ltb (length out) (length (image_of t s)) ⇒ XbSz) ∷ [])

-- ", and the buffer stays as it was; in a longer one the rest stays."
unfoldable pub image_out : List ℕ → List ℕ → List ℕ → List ℕ
image_out t s out = cond (eqb (image_answer t s out) XOK) (image_of t s ++ drop (length (image_of t s)) out) out

-- ---- the morning. "A reload is no call": it has no code, and stands in no run.

-- The table and the store that an image holds for a host that lends n words and m bytes: n numbers, then m bytes and no more, which are
-- well formed. "Reading back refuses .. any image that is cut, has bytes over, breaks the replay number form, isn't well formed, or calls
-- for another length than the lent table or store has". (What the image calls for stands in its header; a well-formed table is as long as
-- its header says, and so is its store.)
unfoldable pub read_back : ℕ → ℕ → List ℕ → Taken (List ℕ)
read_back n m image =
    elim (numbers n image) [
      | took t s ↦ cond (eqb (length s) m && test (well_formed t m)) (took t s) bad
      | bad ↦ bad
    ]

-- "with 4"
unfoldable pub reload_answer : List ℕ → List ℕ → List ℕ → ℕ
reload_answer t s image = elim (read_back (length t) (length s) image) [ took t' s' ↦ XOK | bad ↦ XbParam ]

-- ", and then touches nothing."
unfoldable pub reload_table : List ℕ → List ℕ → List ℕ → List ℕ
reload_table t s image = elim (read_back (length t) (length s) image) [ took t' s' ↦ t' | bad ↦ t ]

unfoldable pub reload_store : List ℕ → List ℕ → List ℕ → List ℕ
reload_store t s image = elim (read_back (length t) (length s) image) [ took t' s' ↦ s' | bad ↦ s ]
