-- Text written into a buffer at a place: what is left there, and the place past it.
use Rattle.std.specs.Prelude.{List, ◌≡◌, ℕ, ◌+◌, max, min, length}
use Rattle.std.proofs.lemmas.List.Edits.{sets}

-- the buffer d, with the bytes s written from place `at` on, is d'; r is the place past them, and no further than d's end
pub record Wrote (d : List ℕ) (at : ℕ) (s : List ℕ) (r : ℕ) (d' : List ℕ) : Type 0 where
  pub next : r ≡ max at (min (at + length s) (length d))
  pub left : d' ≡ sets d at s
