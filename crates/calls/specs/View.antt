-- What a view ensures: its number, and the part of the store that it shows.
use Rattle.std.specs.Prelude.{◌≡◌, List, ℕ, ◌+◌, ◌≤◌, length, Result, IfOk}
use Rattle.rules.specs.Layout.{block_bytes, configuration}
use Rattle.rules.specs.Rule.{first_refusal}
use Rattle.rules.specs.Call13.{unbuffered}
use Rattle.rules.specs.Step.{State}
use Rattle.rules.specs.View.{view_number, block_place, view_from, view_count}
use Rattle.calls.specs.declared.Part.{Part}
use Rattle.calls.specs.World.{words_of}
use Rattle.calls.specs.declared.error.Error.{Error}
use Rattle.calls.specs.Refusing.{found}

abbrev pub part_of : ℕ → ℕ → ℕ → Part
part_of e i n = record { error = e; from = i; count = n }

-- the rules' number, first byte and count
abbrev pub view_part : State → ℕ → ℕ → ℕ → Part
view_part s p a b = part_of (view_number s p a b) (view_from s p a b) (view_count s p a b)

-- a block that is to be read, where table and caller are good: what refuses it, or where it stands, which lies inside the store
pub record ShownBy (t st : List ℕ) (p a b : ℕ) (r : Result ℕ Error) : Type 0 where
  pub refused : found r ≡ first_refusal (unbuffered (configuration t) (words_of t) p a b)
  pub place : IfOk r (λ i. (i ≡ block_place (configuration t) (words_of t) p a b) × (i + block_bytes ≤ length st))
