-- The reload by the ways of its code: a table that is too long, and what is read back and what is not.
use mathlib.Core.Bool.{true, false, cond, ◌&&◌}
use mathlib.Core.List.{List, []}
use mathlib.Core.Path.{◌≡◌, refl, sym, ◌∙◌}
use Prim.Native.Nat.{ℕ, ◌<◌, ◌≤◌}
use native.Mathlib.Omega.{arith}
use lib.Dec.{eqb}
use lib.ListN.{length, take, replicate, length-replicate}
use lib.Seq.{length-take-le}
use borrow.Author.Tests.{eq-eqb, ne_eqb}
use Rattle.rules.specs.Claim.{test}
use Rattle.rules.specs.WellFormed.{well_formed}
use Rattle.rules.specs.Errors.{XOK, XbParam}
use Rattle.rules.specs.Replay.{took, bad, numbers}
use Rattle.rules.specs.Image.{read_back, reload_answer, reload_table, reload_store}
use Rattle.laws.proofs.Claims.{tested}
use Rattle.laws.proofs.Images.{held, so-many, reloaded-by, refused-by, by-reading}
use Rattle.image.specs.Largest.{most_words}
use Rattle.image.proofs.Largest.{few_words}

-- what is answered and left
abbrev pub Left : List ℕ → List ℕ → List ℕ → ℕ → List ℕ → List ℕ → Type 0
Left t s image r t' s' = (r ≡ reload_answer t s image) × ((t' ≡ reload_table t s image) × (s' ≡ reload_store t s image))

left-refused : (t s image : List ℕ) → read_back (length t) (length s) image ≡ bad → Left t s image XbParam t s
left-refused t s image e = let x = refused-by t s image e in (sym x.0, (sym x.1, sym x.2))

left-taken : (t s image t' s' : List ℕ) → read_back (length t) (length s) image ≡ took t' s' → Left t s image XOK t' s'
left-taken t s image t' s' e = let x = reloaded-by t s image t' s' e in (sym x.answered, (sym x.table, sym x.store))

-- a table longer than the largest
pub too_long : (t s image : List ℕ) → most_words < length t → Left t s image XbParam t s
too_long t s image l =
    left-refused t s image
    (by-reading t s image _
    (λ t' s' e. let h = held (length t) (length s) image t' s' e in
    absurd (omega (arith, so-many (length t) [] image t' s' h.stands, few_words t' (length s) (tested (well_formed t' (length s)) h.well))))
    (λ e. e))

-- the front of the local array
pub front_length : (n m : ℕ) → n ≤ m → length {A = ℕ} (take n (replicate m 0)) ≡ n
front_length n m h = length-take-le n (replicate m 0) (let e = length-replicate {A = ℕ} m 0 in omega arith)

-- ---- the two ways of a reading
module _ (n m : ℕ) (image : List ℕ) where
  pub unread : numbers n image ≡ bad → read_back n m image ≡ bad
  unfolding read_back
  unread e = rw (e, read_back)

  module _ (u v : List ℕ) (e : numbers n image ≡ took u v) where
    judged : read_back n m image ≡ cond (eqb (length v) m && test (well_formed u m)) (took u v) bad
    unfolding read_back
    judged = rw (e, read_back)

    pub read-well : length v ≡ m → test (well_formed u m) ≡ true → read_back n m image ≡ took u v
    read-well l w = judged ∙ rw (eq-eqb (length v) m l, w) refl

    pub other_length : (length v ≡ m → ⊥) → read_back n m image ≡ bad
    other_length d = judged ∙ rw (ne_eqb (length v) m d) refl

    pub ill-formed : length v ≡ m → test (well_formed u m) ≡ false → read_back n m image ≡ bad
    ill-formed l w = judged ∙ rw (eq-eqb (length v) m l, w) refl

-- ---- what a reading into n words leaves, as many as the table's
module _ (t s image : List ℕ) (n : ℕ) (as_long : n ≡ length t) where
  pub refused : read_back n (length s) image ≡ bad → Left t s image XbParam t s
  refused e = left-refused t s image (rw as_long at e)

  module _ (t' s' : List ℕ) (e : read_back n (length s) image ≡ took t' s') where
    pub taken : Left t s image XOK t' s'
    taken = left-taken t s image t' s' (rw as_long at e)

    pub fits-store : length s ≡ length s'
    fits-store = sym (held n (length s) image t' s' e).rest
