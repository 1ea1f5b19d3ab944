-- The public functions of crates/levels.
use mathlib.Core.Path.{◌≡◌, refl}
use Rattle.levels.specs.declared.Level.{Level}
use Rattle.levels.specs.Rule.{rule_level}
use Rattle.levels.proofs as code
use Rattle.outcomes.proofs.Exact.{Exact, one}

-- a level is its three words
one-level : {z z' : Level} → rule_level z ≡ rule_level z' → z ≡ z'
one-level e i = record { security = (e i).security; integrity = (e i).integrity; compartments = (e i).compartments }

pub Level-equals : Exact code.Level.equals.Kinds.ps code.Level.equals.Kinds.r code.Level.equals.Reads.Asked code.Level.equals.Reads.Learnt
Level-equals = (λ κs a. tt, λ κs a z z' w w' p q. (one p q, refl))

pub Level-flows-to : Exact code.Level.flows_to.Kinds.ps code.Level.flows_to.Kinds.r code.Level.flows_to.Reads.Asked code.Level.flows_to.Reads.Learnt
Level-flows-to = (λ κs a. tt, λ κs a z z' w w' p q. (one p q, refl))

pub Level-flows-from : Exact code.Level.flows_from.Kinds.ps code.Level.flows_from.Kinds.r code.Level.flows_from.Reads.Asked code.Level.flows_from.Reads.Learnt
Level-flows-from = (λ κs a. tt, λ κs a z z' w w' p q. (one p q, refl))

pub level-at : Exact code.level_at.Kinds.ps code.level_at.Kinds.r code.level_at.Reads.Asked code.level_at.Reads.Learnt
level-at = (λ κs a. tt, λ κs a z z' w w' p q. (one-level (one p q), refl))

pub levels : Exact code.levels.Kinds.ps code.levels.Kinds.r code.levels.Reads.Asked code.levels.Reads.Learnt
levels = (λ κs a. tt, λ κs a z z' w w' p q. (one p q, refl))

pub flow-matrix : Exact code.flow_matrix.Kinds.ps code.flow_matrix.Kinds.r code.flow_matrix.Reads.Asked code.flow_matrix.Reads.Learnt
flow-matrix = (λ κs a. tt, λ κs a z z' w w' p q. (one p q, refl))
