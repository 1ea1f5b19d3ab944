-- What is shown of each call's rule: it writes up, and two rules are alike. With the laws that take a rule apart.
use mathlib.Core.Path.{◌≡◌, refl}
use mathlib.Core.Bool.{Bool, true, false, cond}
use mathlib.Core.List.{List, [], ◌∷◌}
use Prim.Native.Nat.{ℕ, ◌+◌, ◌≤◌, ◌<◌}
use lib.Dec.{eqb}
use lib.ListN.{length}
use Rattle.rules.specs.Layout.{segment, file, slots, cell_of, flows, Addr, Valid, stretch}
use Rattle.rules.specs.Rule.{Refusal, ◌⇒◌, Word, Bytes, Effect, Rule, rule}
use Rattle.laws.proofs.Object.{Object}
use Rattle.laws.proofs.Written.{AllOf, nil, also, all-if}

-- an entry's kind, as `search` meets it
pub object-file : Object file
object-file = tt

pub object-segment : Object segment
object-segment = tt

-- ---- up

-- a word that a caller of cell c may write: the table has it, and c flows to its cell
pub record Up (h : List ℕ) (c : ℕ) (a : Addr) : Type 0 where
  pub valid : Valid h a
  pub up : flows h c (cell_of h a.kind a.slot) ≡ true

abbrev pub Ups : List ℕ → ℕ → List Word → Type 0
Ups h c ws = AllOf (λ x. Up h c x.at) ws

-- bytes that it may write: inside the stretch of a file of such a cell
pub record UpBytes (h : List ℕ) (c : ℕ) (x : Bytes) : Type 0 where
  pub there : x.file < slots h file
  pub inside : x.from + length x.bytes ≤ stretch h
  pub up : flows h c (cell_of h file x.file) ≡ true

-- a rule that writes nothing but such words and bytes, where it does not refuse
pub data WritesUp (h : List ℕ) (c : ℕ) : Rule → Type 0 where
  up-effect : {e : Effect} → Ups h c e.words → AllOf (UpBytes h c) e.bytes → WritesUp h c (rule [] e)
  up-test : {b : Bool} {n : ℕ} {rs : List Refusal} {e : Effect} → eqb n 0 ≡ false → (b ≡ false → WritesUp h c (rule rs e)) → WritesUp h c (rule ((b ⇒ n) ∷ rs) e)

pub up_if : (h : List ℕ) (c : ℕ) (b : Bool) (k l : Rule) → (b ≡ true → WritesUp h c k) → (b ≡ false → WritesUp h c l) → WritesUp h c (cond b k l)
up_if h c true k l g j = g refl
up_if h c false k l g j = j refl

-- what `search` walks a rule with, up to the single writes
pub ruleset up-rules = (up_if, up-test, up-effect, nil, also, all-if, object-file, object-segment)

-- ---- alike

-- a write that the set of cells does not see
abbrev pub Hidden : List ℕ → (ℕ → Bool) → Word → Type 0
Hidden h C x = C (cell_of h x.at.kind x.at.slot) ≡ false

-- two effects that the set cannot tell apart: the same one, or one answer and buffer with writes that it does not see
pub data Alike-effects (h : List ℕ) (C : ℕ → Bool) : Effect → Effect → Type 0 where
  same_effect : {e f : Effect} → e ≡ f → Alike-effects h C e f
  hidden : {x y : ℕ} {b : List ℕ} {ws vs : List Word} → AllOf (Hidden h C) ws → AllOf (Hidden h C) vs
      → Alike-effects h C (record { first = x; second = y; buffer = b; words = ws; bytes = [] }) (record { first = x; second = y; buffer = b; words = vs; bytes = [] })

-- two rules that it cannot tell apart: the same refusals, tested alike as long as none before holds, and alike effects
pub data Alike (h : List ℕ) (C : ℕ → Bool) : Rule → Rule → Type 0 where
  alike-effect : {e f : Effect} → Alike-effects h C e f → Alike h C (rule [] e) (rule [] f)
  alike-test : {b d : Bool} {n : ℕ} {rs qs : List Refusal} {e f : Effect} → eqb n 0 ≡ false → b ≡ d
      → (b ≡ false → Alike h C (rule rs e) (rule qs f))
      → Alike h C (rule ((b ⇒ n) ∷ rs) e) (rule ((d ⇒ n) ∷ qs) f)

pub alike-if : (h : List ℕ) (C : ℕ → Bool) (b : Bool) (k l m n : Rule) → (b ≡ true → Alike h C k m) → (b ≡ false → Alike h C l n)
    → Alike h C (cond b k l) (cond b m n)
alike-if h C true k l m n g j = g refl
alike-if h C false k l m n g j = j refl

-- what `search` walks two rules with, up to the single tests and effects
pub ruleset alike-rules = (alike-if, alike-test, alike-effect, same_effect, object-file, object-segment)
