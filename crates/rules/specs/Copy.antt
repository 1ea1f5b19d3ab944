-- 02, CR 9: what a regrade carries across.
use Rattle.std.specs.Prelude.{List, ℕ}

-- "accept with the same cell, size, bytes, owner, group and bits"
pub record Copy : Type 0 where
  pub cell : ℕ
  pub size : ℕ
  pub bytes : List ℕ
  pub owner : ℕ
  pub group : ℕ
  pub bits : ℕ

abbrev pub copy : ℕ → ℕ → List ℕ → ℕ → ℕ → ℕ → Copy
copy c n bs u g b = record { cell = c; size = n; bytes = bs; owner = u; group = g; bits = b }
