-- What the check hands on to a call.
use Rattle.std.specs.Prelude.{Bool, List, ◌≡◌, ℕ}
use Rattle.rules.specs.Layout.{flow_matrix}
use Rattle.layout.specs.Hall.{hall_of}

-- m is the flow matrix of a configuration, and hall has the cell of each of its slots
pub record Handed (h : List ℕ) (m : List (List Bool)) (hall : List ℕ) : Type 0 where
  pub matrix : m ≡ flow_matrix h
  pub told : hall ≡ hall_of h
