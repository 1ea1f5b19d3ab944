-- A level of the code as a level of the rules: the same three words.
use Rattle.std.specs.Prelude.{cond, List, ℕ, ltb}
use Rattle.rules.specs.Layout.{cells, level_of}
use Rattle.rules.specs.Level as rules
use Rattle.levels.specs.declared.Level.{Level}

abbrev pub rule_level : Level → rules.Level
rule_level l = rules.level l.security l.integrity l.compartments

-- and back
abbrev pub code_level : rules.Level → Level
code_level l = record { security = l.security; integrity = l.integrity; compartments = l.compartments }

-- the level of a number's cell; of one that is no cell's, zeros
abbrev pub level_at : List ℕ → ℕ → rules.Level
level_at h c = cond (ltb c (cells h)) (level_of h c) (rules.level 0 0 0)
