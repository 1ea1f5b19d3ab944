-- What the rules read from where a reader stands.
use mathlib.Core.Bool.{Bool, true, false}
use mathlib.Core.List.{List, [], ◌∷◌, ◌++◌}
use mathlib.Core.Path.{◌≡◌}
use Prim.Native.Nat.{ℕ, suc, ◌+◌, ◌-◌, ◌*◌, ◌≤◌}
use lib.ListN.{length, get_or, take, drop}
use Rattle.rules.specs.Layout.{max_cells, max_subtypes, header_words, cell_words, subtype_words, configuration}
use Rattle.rules.specs.Step.{Call}
use Rattle.rules.specs.Replay.{Taken, took, bad, header_numbers, numbers_after, call_numbers, max_buffer, call_from}
use Rattle.numerals.proofs.Read.{Small}
use Rattle.script.specs.declared.Stage.{Stage}
use Rattle.script.specs.declared.Stage.TheVariants.{Header, Body, Numbers, Bytes}
use Rattle.script.specs.declared.Reader.{Reader}
use Rattle.script.specs.declared.What.{What}
use Rattle.script.specs.declared.What.TheVariants as what
use Rattle.script.specs.Take.{calling_at, is_between, at_call}
use Rattle.script.proofs.Going.{going, body_then, header_then, accepted, call_then, bytes_then}

-- the configuration that is being read, or the call
pub data Meaning : Type 0 where
  configured : Taken (List ℕ) → Meaning
  called : Taken Call → Meaning

-- what the numbers of a stage come to
abbrev pub outer : Stage → List ℕ → Taken (List ℕ) → Meaning
outer Header t x = configured (accepted (header_then x))
outer Body t x = configured (accepted (body_then (take header_numbers t) x))
outer Numbers t x = called (call_then x)
outer Bytes t x = called bad

-- those that are read
abbrev pub so_far : Stage → ℕ → List ℕ → List ℕ → List ℕ
so_far Header f nums t = take f t
so_far Body f nums t = take f (drop header_words t)
so_far Numbers f nums t = take f nums
so_far Bytes f nums t = []

abbrev pub of_numbers : Stage → Reader → List ℕ → List ℕ → Meaning
of_numbers g r t s = outer g t (going r.part (so_far g r.field r.nums t) (r.last - r.field) s)

abbrev pub meaning_at : Stage → Reader → List ℕ → List ℕ → List ℕ → Meaning
meaning_at Header r t l s = of_numbers Header r t s
meaning_at Body r t l s = of_numbers Body r t s
meaning_at Numbers r t l s = of_numbers Numbers r t s
meaning_at Bytes r t l s = called (bytes_then r.nums (take r.field l) (suc (r.last - r.field)) s)

-- with the table t and the buffer l, where s is left of the input
unfoldable pub meaning : Reader → List ℕ → List ℕ → List ℕ → Meaning
meaning r t l s = meaning_at r.stage r t l s

-- a fault
abbrev pub fault_of : Bool → Meaning
fault_of true = called bad
fault_of false = configured bad

abbrev pub fault_at : Stage → Meaning
fault_at g = fault_of (calling_at g)

-- ---- a reader that can come up

-- room for every configuration, and the header's last zero
pub record Roomy (t : List ℕ) : Type 0 where
  pub room : header_words + cell_words * max_cells + subtype_words * max_subtypes ≤ length t
  pub zero7 : get_or t 7 0 ≡ 0

-- c cells and u subtypes, as a configuration can have them
pub record Fits (c u : ℕ) : Type 0 where
  pub some-cells : 1 ≤ c
  pub few-cells : c ≤ max_cells
  pub few-subtypes : u ≤ max_subtypes

abbrev pub GoodAt : Stage → Reader → List ℕ → Type 0
GoodAt Header r t = (r.last ≡ 6) × Roomy t
GoodAt Body r t = (suc r.last ≡ numbers_after t) × Fits (get_or t 0 0) (get_or t 6 0) × Roomy t
GoodAt Numbers r t = r.last ≡ 5
GoodAt Bytes r t = (suc r.last ≡ get_or r.nums 5 0) × (get_or r.nums 5 0 ≤ max_buffer)

pub record Good (r : Reader) (t l : List ℕ) : Type 0 where
  pub small : Small r.part
  pub within : r.field ≤ r.last
  pub six : length r.nums ≡ call_numbers
  pub buffer : max_buffer ≤ length l
  pub here : GoodAt r.stage r t

-- ---- what the bytes s made of the reader r: it became r', the table t', the buffer l', and `rest` was not read

-- nothing of a call is read, and no byte
abbrev pub fresh : Reader → List ℕ → Bool
fresh r [] = is_between r
fresh r (b ∷ s) = false

-- they go on
pub record Onward (r : Reader) (t l s : List ℕ) (r' : Reader) (t' l' : List ℕ) : Type 0 where
  pub good : Good r' t' l'
  pub stage : calling_at r'.stage ≡ calling_at r.stage
  pub table : calling_at r.stage ≡ true → t' ≡ t
  pub size : length t' ≡ length t
  pub begun : fresh r s ≡ false → is_between r' ≡ false
  pub same : (ys : List ℕ) → meaning r t l (s ++ ys) ≡ meaning r' t' l' ys

-- the configuration is whole
pub record Configured (r : Reader) (t l s : List ℕ) (r' : Reader) (t' l' rest : List ℕ) : Type 0 where
  pub stage : calling_at r.stage ≡ false
  pub reader : r' ≡ at_call r'.nums
  pub good : Good r' t' l'
  pub size : length t' ≡ length t
  pub roomy : Roomy t'
  pub counts : Fits (get_or t' 0 0) (get_or t' 6 0)
  pub same : (ys : List ℕ) → meaning r t l (s ++ ys) ≡ configured (accepted (took (configuration t') (rest ++ ys)))

-- a call is whole
pub record Called (r : Reader) (t l s : List ℕ) (r' : Reader) (t' l' rest : List ℕ) : Type 0 where
  pub stage : calling_at r.stage ≡ true
  pub reader : r' ≡ at_call r'.nums
  pub good : Good r' t' l'
  pub table : t' ≡ t
  pub short : get_or r'.nums 5 0 ≤ max_buffer
  pub same : (ys : List ℕ) → meaning r t l (s ++ ys) ≡ called (took (call_from r'.nums (take (get_or r'.nums 5 0) l')) (rest ++ ys))

-- a fault
pub record Faulty (r : Reader) (t l s : List ℕ) : Type 0 where
  pub same : (ys : List ℕ) → meaning r t l (s ++ ys) ≡ fault_at r.stage

abbrev pub Told : What → Reader → List ℕ → List ℕ → List ℕ → Reader → List ℕ → List ℕ → List ℕ → Type 0
Told what.More r t l s r' t' l' rest = (rest ≡ []) × Onward r t l s r' t' l'
Told what.Configuration r t l s r' t' l' rest = Configured r t l s r' t' l' rest
Told what.Call r t l s r' t' l' rest = Called r t l s r' t' l' rest
Told what.Fault r t l s r' t' l' rest = Faulty r t l s
