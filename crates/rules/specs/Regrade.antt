-- 02, CR 9: what demand 3 asks of regrades, call 21. C is a set of cells, h the configuration. (CR 14: "With regrades the premise of CR 9 applies to the whole set.")
use Rattle.std.specs.Prelude.{◌≡◌, Bool, true, cond, ◌&&◌, ◌||◌, not, List, [], ◌∷◌, ◌++◌, ℕ, ◌-◌, ◌<◌, ltb, eqb}
use Rattle.rules.specs.Layout.{cells, guard, rd}
use Rattle.rules.specs.Errors.{XOK, XnoSpace}
use Rattle.rules.specs.Copy.{Copy}
use Rattle.rules.specs.Call21.{carried}
use Rattle.rules.specs.Step.{State, Call, regrade_code, step, next}
use Rattle.rules.specs.Observer.{stays}

-- ---- regrades by struck-out callers

-- a regrade "into a cell that flows to the observer": call 21, and b is a cell of the set
unfoldable pub into : List ℕ → (ℕ → Bool) → Call → Bool
into h C k = eqb k.code regrade_code && (ltb k.b (cells h) && C k.b)

-- the call is accepted in state s
unfoldable pub accepted : State → Call → Bool
accepted s k = eqb (step s k).answered.error XOK

-- what the set is told of a run: what remains of it (calls, or the records of a tray), and each struck-out regrade into the set, which is refused or brings a copy
pub data Event (K : Type 0) : Type 0 where
  remains : K → Event K
  refused : Event K
  brings : Copy → Event K

unfoldable pub event : List ℕ → (ℕ → Bool) → State → Call → List (Event Call)
event h C s k =
    cond (stays h C k) (remains k ∷ [])
    (cond (into h C k)
    (cond (accepted s k) (brings (carried h (rd h s.table) s.store k.caller k.a k.b k.c k.buffer)) refused ∷ [])
    [])

-- "at each regrade by a struck-out caller into a cell that flows to the observer, both runs carry a regrade after the same remaining calls and in the same order, and
-- either both refuse or both accept with the same cell, size, bytes, owner, group and bits": two runs have the same events
unfoldable pub events : List ℕ → (ℕ → Bool) → State → List Call → List (Event Call)
events h C s [] = []
events h C s (k ∷ ks) = event h C s k ++ events h C (next s k) ks

-- less is enough: regrades that are refused need no partner
unfoldable pub without_refused : {K : Type 0} → List (Event K) → List (Event K)
without_refused [] = []
without_refused (remains k ∷ es) = remains k ∷ without_refused es
without_refused (refused ∷ es) = without_refused es
without_refused (brings x ∷ es) = brings x ∷ without_refused es

-- ---- regrades by remaining callers

-- the guard cell is one of the set's: "Observers above or equal to the guard"
unfoldable pub guard_within : List ℕ → (ℕ → Bool) → Bool
guard_within h C = not (eqb (guard h) 0) && C (guard h - 1)

-- "no regrade asks about a cell that doesn't flow to them": no remaining call 21 names a cell outside the set
unfoldable pub NamesNone : List ℕ → (ℕ → Bool) → List Call → Type 0
NamesNone h C [] = Unit {0}
NamesNone h C (k ∷ ks) = (stays h C k ≡ true → k.code ≡ regrade_code → k.b < cells h → C k.b ≡ true) × NamesNone h C ks

-- less is enough: a regrade asks about a cell only where it comes as far as the search for a slot there, so that it is accepted or refused with 26
unfoldable pub asks : State → Call → Bool
asks s k = eqb k.code regrade_code && (eqb (step s k).answered.error XOK || eqb (step s k).answered.error XnoSpace)

unfoldable pub AsksNone : List ℕ → (ℕ → Bool) → State → List Call → Type 0
AsksNone h C s [] = Unit {0}
AsksNone h C s (k ∷ ks) = (stays h C k ≡ true → asks s k ≡ true → C k.b ≡ true) × AsksNone h C (next s k) ks
