-- 02, CR 11, subtyped files: what create and open share. "In create and open c is now a descriptor + 1, or 0 for none."
use Rattle.std.specs.Prelude.{Bool, ◌||◌, not, ℕ, ◌-◌, ltb, eqb}
use Rattle.rules.specs.Layout.{process, file, Addr, at, entries, held_at, used_at}
use Rattle.rules.specs.Seid.{is_subtype}

-- what the descriptor that c names holds, and the modes that it is held with
abbrev pub held_by : (Addr → ℕ) → ℕ → ℕ → ℕ
held_by r p c = r (at process p (held_at file (c - 1)))

abbrev pub modes_by : (Addr → ℕ) → ℕ → ℕ → ℕ
modes_by r p c = r (at process p (used_at file (c - 1)))

-- "c names no held subtype": it is 0, or over 16, or its entry is empty or holds a file
unfoldable pub no_subtype : (Addr → ℕ) → ℕ → ℕ → Bool
no_subtype r p c = eqb c 0 || (ltb entries c || not (is_subtype (held_by r p c)))
