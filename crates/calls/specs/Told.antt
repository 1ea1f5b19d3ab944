-- The sixteen bytes of a status, of what the code has found.
use Rattle.std.specs.Prelude.{List, [], ◌∷◌, ◌++◌, ℕ}
use Rattle.rules.specs.Words.{bytes2, bytes4}
use Rattle.rules.specs.Level.{Level}
use Rattle.rules.specs.Layout.{level_of}

unfoldable pub told_at : List ℕ → ℕ → ℕ → ℕ → ℕ → ℕ → List ℕ
told_at h class cell owner group bits =
    let l : Level = level_of h cell in
    (class ∷ cell ∷ []) ++ (bytes2 owner ++ (bytes2 group ++ (bytes2 bits ++ ((l.security ∷ l.integrity ∷ []) ++ (bytes4 l.compartments ++ (0 ∷ 0 ∷ []))))))
