-- The reading of an image, by its two ways: what is known of one that is taken, and what is left by each.
use mathlib.Core.Path.{◌≡◌, refl, sym, ap, ◌∙◌}
use mathlib.Core.Bool.{◌&&◌}
use mathlib.Core.List.{List, [], ◌∷◌, ◌++◌}
use Prim.Native.Nat.{ℕ, zero, suc, ◌+◌, ◌≤◌}
use native.Mathlib.Omega.{arith}
use lib.Dec.{ltb, eqb}
use lib.ListN.{length, length-append}
use borrow.Author.Tests.{eq-eqb, eqb-true}
use Rattle.rules.specs.Claim.{Holds, test}
use Rattle.rules.specs.WellFormed.{lengths_exact, well_formed}
use Rattle.rules.specs.Errors.{XOK, XbParam}
use Rattle.rules.specs.Replay.{groups, encoded, Taken, took, bad, number, numbers_from, numbers}
use Rattle.rules.specs.Image.{word_bytes, image_length, read_back, reload_answer, reload_table, reload_store}
use Rattle.laws.proofs.Tests.{split, cond-true, and_left, and_right, and_both}
use Rattle.laws.proofs.Claims.{holds, tested}

-- ---- numbers, one after the other

pub next-number : (vs : List ℕ) (n : ℕ) (s : List ℕ) (v : ℕ) (r : List ℕ) → number s ≡ took v r
    → numbers_from vs (suc n) s ≡ numbers_from (vs ++ (v ∷ [])) n r
unfolding numbers_from
next-number vs n s v r e = rw (e, numbers_from)

pub no_number : (vs : List ℕ) (n : ℕ) (s : List ℕ) → number s ≡ bad → numbers_from vs (suc n) s ≡ bad
unfolding numbers_from
no_number vs n s e = rw (e, numbers_from)

pub not_taken : {A : Type 0} (ts rest : List ℕ) → ◌≡◌ {A = Taken (List ℕ)} bad (took ts rest) → A
not_taken ts rest e = let z : ◌≡◌ {A = ℕ} 0 1 = cc in absurd (omega arith)

-- so many are read as are asked for
many-next : (n : ℕ) (vs s ts rest : List ℕ)
    → ((v : ℕ) (r : List ℕ) → numbers_from (vs ++ (v ∷ [])) n r ≡ took ts rest → length ts ≡ length (vs ++ (v ∷ [])) + n)
    → (x : Taken ℕ) → number s ≡ x → numbers_from vs (suc n) s ≡ took ts rest → length ts ≡ length vs + suc n
many-next n vs s ts rest again (took v r) e f = omega (arith, again v r (sym (next-number vs n s v r e) ∙ f), length-append vs (v ∷ []))
many-next n vs s ts rest again bad e f = not_taken ts rest (sym (no_number vs n s e) ∙ f)

pub so-many : (n : ℕ) (vs s ts rest : List ℕ) → numbers_from vs n s ≡ took ts rest → length ts ≡ length vs + n
unfolding numbers_from
so-many zero vs s ts rest e = let f : vs ≡ ts = cc in omega (arith, ap length f)
so-many (suc n) vs s ts rest e = many-next n vs s ts rest (λ v r f. so-many n (vs ++ (v ∷ [])) r ts rest f) (number s) refl e

-- ---- the length of an image

-- a word takes a byte or more
some-group : (v : ℕ) → 1 ≤ length (encoded v)
unfolding groups
some-group v = split _ (ltb v 128) (λ e. rw e (omega arith)) (λ e. rw e (omega arith))

as-many-bytes : (t : List ℕ) → length t ≤ length (word_bytes t)
unfolding word_bytes
as-many-bytes [] = omega arith
as-many-bytes (v ∷ t) = omega (arith, length-append (encoded v) (word_bytes t), some-group v, as-many-bytes t)

some_words : (t : List ℕ) (m : ℕ) → Holds (well_formed t m) → 1 ≤ length t
unfolding well_formed lengths_exact
some_words t m w = omega (arith, w.1.0.0)

-- the length is 0 for a bad table, and for no other
pub no_length : (t : List ℕ) (m : ℕ) → image_length t m ≡ 0 → Holds (well_formed t m) → ⊥
unfolding image_length
no_length t m e w =
    let f : length (word_bytes t) + m ≡ 0 = sym (cond-true _ _ _ (tested (well_formed t m) w)) ∙ e in
    omega (arith, as-many-bytes t, some_words t m w)

-- ---- an image that is taken

-- what is known of an image that is taken
pub record Held (n m : ℕ) (image t s : List ℕ) : Type 0 where
  pub stands : numbers n image ≡ took t s
  pub rest : length s ≡ m
  pub well : Holds (well_formed t m)

pub held-where : (n m : ℕ) (image t s : List ℕ) → Held n m image t s → read_back n m image ≡ took t s
unfolding read_back
held-where n m image t s h =
    rw (h.stands, read_back) (cond-true _ _ _ (and_both _ _ (eq-eqb (length s) m h.rest) (tested (well_formed t m) h.well)))

taken-by : (n m : ℕ) (image : List ℕ) (x : Taken (List ℕ)) → numbers n image ≡ x → (t s : List ℕ) → read_back n m image ≡ took t s → Held n m image t s
unfolding read_back
taken-by n m image (took u v) e t s f =
    split _ (eqb (length v) m && test (well_formed u m))
    (λ b. let g : took u v ≡ took t s = rw (e, read_back, b) at f in
    let i : u ≡ t = cc in
    let j : v ≡ s = cc in
    rw (i, j) at (let h : Held n m image u v = record {
      stands = e;
      rest = eqb-true (length v) m (and_left (eqb (length v) m) (test (well_formed u m)) b);
      well = holds (well_formed u m) (and_right (eqb (length v) m) (test (well_formed u m)) b);
    } in h))
    (λ b. let g : bad ≡ took t s = rw (e, read_back, b) at f in not_taken t s g)
taken-by n m image bad e t s f = let g : bad ≡ took t s = rw (e, read_back) at f in not_taken t s g

pub held : (n m : ℕ) (image t s : List ℕ) → read_back n m image ≡ took t s → Held n m image t s
held n m image t s e = taken-by n m image (numbers n image) refl t s e

-- table and store are those that the image holds
pub record Reloaded (t s image t' s' : List ℕ) : Type 0 where
  pub answered : reload_answer t s image ≡ XOK
  pub table : reload_table t s image ≡ t'
  pub store : reload_store t s image ≡ s'

-- the answer is XOK where the image is taken, and 4 else
module _ (t s image : List ℕ) where
  pub reloaded-by : (t' s' : List ℕ) → read_back (length t) (length s) image ≡ took t' s' → Reloaded t s image t' s'
  unfolding reload_answer reload_table reload_store
  reloaded-by t' s' e = record { answered = rw (e, reload_answer); table = rw (e, reload_table); store = rw (e, reload_store) }

  pub refused-by : read_back (length t) (length s) image ≡ bad
      → (reload_answer t s image ≡ XbParam) × (reload_table t s image ≡ t) × (reload_store t s image ≡ s)
  unfolding reload_answer reload_table reload_store
  refused-by e = (rw (e, reload_answer), rw (e, reload_table), rw (e, reload_store))

  -- the two ways of a reload
  pub by-reading : (P : Type 0) → ((t' s' : List ℕ) → read_back (length t) (length s) image ≡ took t' s' → P)
      → (read_back (length t) (length s) image ≡ bad → P) → P
  by-reading P f g = by (read_back (length t) (length s) image) refl
    where
      by : (x : Taken (List ℕ)) → read_back (length t) (length s) image ≡ x → P
      by (took t' s') e = f t' s' e
      by bad e = g e
