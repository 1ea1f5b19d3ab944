-- The calls' numbers name them: calls of one number are one.
use mathlib.Core.Path.{◌≡◌, refl, sym, ap, ◌∙◌}
use mathlib.Core.Bool.{false}
use mathlib.Core.List.{List, [], ◌∷◌}
use Prim.Native.Nat.{ℕ, ◌-◌, ◌≤◌}
use native.Mathlib.Omega.{arith}
use lib.Dec.{eqb}
use lib.ListN.{get_or}
use borrow.Author.Tests.{ne_eqb}
use Rattle.calls.specs.declared.code.Code.{Code}
use Rattle.calls.specs.declared.code.Code.TheVariants.{Spawn, ReleaseProcess, BuildSegment, Rendezvous, ReleaseSegment, SetAccess, Create, Open, Close, Link, Unlink, SetBits, ReadBlock, WriteBlock, Post, Receive, Status, Access, Remap, PageAccess, Regrade}
use Rattle.rules.specs.Step.{last_code}
use Rattle.calls.specs.Codes.{code_number}

-- the calls in the order of their numbers
in-order : List Code
in-order =
    Spawn ∷ ReleaseProcess ∷ BuildSegment ∷ Rendezvous ∷ ReleaseSegment ∷ SetAccess ∷ Create ∷ Open ∷ Close ∷ Link ∷ Unlink ∷ SetBits
    ∷ ReadBlock ∷ WriteBlock ∷ Post ∷ Receive ∷ Status ∷ Access ∷ Remap ∷ PageAccess ∷ Regrade ∷ []

named : ℕ → Code
named n = get_or in-order (n - 1) Spawn

named-back : (k : Code) → named (code_number k) ≡ k
unfolding named in-order
named-back = elim [
  | Spawn ↦ refl
  | ReleaseProcess ↦ refl
  | BuildSegment ↦ refl
  | Rendezvous ↦ refl
  | ReleaseSegment ↦ refl
  | SetAccess ↦ refl
  | Create ↦ refl
  | Open ↦ refl
  | Close ↦ refl
  | Link ↦ refl
  | Unlink ↦ refl
  | SetBits ↦ refl
  | ReadBlock ↦ refl
  | WriteBlock ↦ refl
  | Post ↦ refl
  | Receive ↦ refl
  | Status ↦ refl
  | Access ↦ refl
  | Remap ↦ refl
  | PageAccess ↦ refl
  | Regrade ↦ refl
]

pub same-call : (k j : Code) → code_number k ≡ code_number j → k ≡ j
same-call k j e = sym (named-back k) ∙ ap named e ∙ named-back j

-- so a call that is not j has not its number
pub other-call : (k j : Code) → (k ≡ j → ⊥) → eqb (code_number k) (code_number j) ≡ false
other-call k j n = ne_eqb (code_number k) (code_number j) (λ e. n (same-call k j e))

-- they run from 1 to the last
pub number-low : (k : Code) → 1 ≤ code_number k
number-low = elim [
  | Spawn ↦ omega arith
  | ReleaseProcess ↦ omega arith
  | BuildSegment ↦ omega arith
  | Rendezvous ↦ omega arith
  | ReleaseSegment ↦ omega arith
  | SetAccess ↦ omega arith
  | Create ↦ omega arith
  | Open ↦ omega arith
  | Close ↦ omega arith
  | Link ↦ omega arith
  | Unlink ↦ omega arith
  | SetBits ↦ omega arith
  | ReadBlock ↦ omega arith
  | WriteBlock ↦ omega arith
  | Post ↦ omega arith
  | Receive ↦ omega arith
  | Status ↦ omega arith
  | Access ↦ omega arith
  | Remap ↦ omega arith
  | PageAccess ↦ omega arith
  | Regrade ↦ omega arith
]

pub number-high : (k : Code) → code_number k ≤ last_code
number-high = elim [
  | Spawn ↦ omega arith
  | ReleaseProcess ↦ omega arith
  | BuildSegment ↦ omega arith
  | Rendezvous ↦ omega arith
  | ReleaseSegment ↦ omega arith
  | SetAccess ↦ omega arith
  | Create ↦ omega arith
  | Open ↦ omega arith
  | Close ↦ omega arith
  | Link ↦ omega arith
  | Unlink ↦ omega arith
  | SetBits ↦ omega arith
  | ReadBlock ↦ omega arith
  | WriteBlock ↦ omega arith
  | Post ↦ omega arith
  | Receive ↦ omega arith
  | Status ↦ omega arith
  | Access ↦ omega arith
  | Remap ↦ omega arith
  | PageAccess ↦ omega arith
  | Regrade ↦ omega arith
]
