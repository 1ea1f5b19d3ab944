-- The premise of CR 9 is met by something: a guard in the high cell regrades a file into the low one, in two runs that differ in all that the low cell may not see, and the
-- low caller reads the copy. And the premise is not idle: without it the two runs are told apart.
use mathlib.Core.Path.{◌≡◌, refl, ap, ◌∙◌}
use mathlib.Core.Bool.{false}
use mathlib.Core.List.{List, [], ◌∷◌, ◌++◌}
use Prim.Native.Nat.{ℕ}
use lib.ListN.{replicate}
use Rattle.rules.specs.Words.{word2}
use Rattle.rules.specs.Call14.{block_written, write_block}
use Rattle.rules.specs.Call21.{in_guard, contents, carried, regrade}
use Rattle.rules.specs.Step.{Call, Reply, run}
use Rattle.rules.specs.Observer.{observer, Agree, remaining, replies}
use Rattle.rules.specs.Regrade.{into, accepted, Event, remains, refused, brings, event, events, without_refused, guard_within}
use Rattle.rules.specs.Copy.{copy}
use Rattle.secrecy.proofs.Demand3.{below-guard}
use Rattle.instances.proofs.Carried.{judged, replies_judged, replies-judged, events_judged, events-judged}
use Rattle.instances.proofs.Instance.{open-rules, guarded, fresh, other, secret, fresh-formed, other-formed, fresh-configuration, low-closed, agreed}

-- the rules' definitions that the examples compute with
unfoldable pub open_more : Unit {0}
unfolding open-rules word2 block_written write_block in_guard contents carried regrade into accepted event events without_refused guard_within
open_more = tt

-- the hall of Instance with the high cell for the guard's: processes 0 and 1 are low, 2 and 3 high
abbrev pub desk : List ℕ
desk = guarded 2

-- ---- two runs

abbrev call : ℕ → ℕ → ℕ → ℕ → ℕ → List ℕ → Call
call p k a b c buffer = record { caller = p; code = k; a = a; b = b; c = c; buffer = buffer }

abbrev page : List ℕ
page = replicate 512 7

-- the guard, process 2, makes a file and writes it; the low process 0 makes one; the guard regrades its own into cell 0; process 0 opens the copy and reads it
unfoldable pub one-run : List Call
one-run =
    call 2 7 420 3 0 [] ∷ call 2 14 0 0 0 page ∷ call 0 7 420 3 0 [] ∷ call 2 21 0 0 420 (0 ∷ 3 ∷ 1 ∷ 0 ∷ []) ∷ call 0 8 2164326401 1 0 []
    ∷ call 0 13 1 0 0 (replicate 512 0) ∷ []

-- the other high process does it here, with a file in another slot, and first tries a regrade that is refused
unfoldable pub other-run : List Call
other-run =
    call 3 7 438 11 0 [] ∷ call 3 14 0 0 0 page ∷ call 3 21 0 0 420 [] ∷ call 0 7 420 3 0 [] ∷ call 3 21 0 0 420 (0 ∷ 3 ∷ 1 ∷ 0 ∷ [])
    ∷ call 0 8 2164326401 1 0 [] ∷ call 0 13 1 0 0 (replicate 512 0) ∷ []

pub guard-above : guard_within desk (observer desk 0) ≡ false
unfolding guarded open_more
guard-above = refl

-- what the low cell is told: a call of its own, the copy, and two calls of its own
abbrev before : List (Event Call)
before = remains (call 0 7 420 3 0 []) ∷ []

abbrev after : List (Event Call)
after = brings (copy 0 1 page 3 256 420) ∷ remains (call 0 8 2164326401 1 0 []) ∷ remains (call 0 13 1 0 0 (replicate 512 0)) ∷ []

pub told : events desk (observer desk 0) (fresh 2) one-run ≡ before ++ after
unfolding guarded fresh one-run judged events_judged open_more
told = events-judged desk (observer desk 0) (fresh 2) one-run (fresh-formed 2 refl) ∙ refl

pub other-told : events desk (observer desk 0) (other 2) other-run ≡ refused ∷ before ++ after
unfolding guarded fresh other secret other-run judged events_judged open_more
other-told = events-judged desk (observer desk 0) (other 2) other-run (other-formed 2 refl) ∙ refl

same-told : without_refused (events desk (observer desk 0) (fresh 2) one-run) ≡ without_refused (events desk (observer desk 0) (other 2) other-run)
unfolding without_refused
same-told = rw (told, other-told)

-- Demand 3 at work: whatever stands and happens in the high cell, the copy is all that comes down
pub at-work : (replies desk (observer desk 0) (fresh 2) one-run ≡ replies desk (observer desk 0) (other 2) other-run) × Agree (observer desk 0) (run (fresh 2) one-run)
    (run (other 2) other-run)
at-work = (rw (fresh-configuration 2) at (below-guard (observer desk 0) (fresh 2) (other 2) (fresh-formed 2 refl) (other-formed 2 refl)))
    (low-closed 2) (agreed 2) guard-above one-run other-run same-told

-- ---- the premise is not idle: with equal remaining calls alone the low caller tells a run with a regrade from one without

unfoldable pub copied : List Call
copied = call 2 7 420 3 0 [] ∷ call 2 21 0 0 420 (0 ∷ 0 ∷ 0 ∷ 0 ∷ []) ∷ call 0 8 2164260865 1 0 [] ∷ []

unfoldable pub uncopied : List Call
uncopied = call 0 8 2164260865 1 0 [] ∷ []

pub same-remaining : remaining desk (observer desk 0) copied ≡ remaining desk (observer desk 0) uncopied
unfolding guarded copied uncopied open_more
same-remaining = refl

abbrev numbers : List Reply → List ℕ
numbers [] = []
numbers (v ∷ vs) = v.answered.error ∷ numbers vs

numbered : (ks : List Call) → numbers (replies desk (observer desk 0) (fresh 2) ks) ≡ numbers (replies_judged desk (observer desk 0) (fresh 2) ks)
numbered ks = ap (λ (x : List Reply). numbers x) (replies-judged desk (observer desk 0) (fresh 2) ks (fresh-formed 2 refl))

pub told-apart : (numbers (replies desk (observer desk 0) (fresh 2) copied) ≡ 0 ∷ []) × (numbers (replies desk (observer desk 0) (fresh 2) uncopied) ≡ 12 ∷ [])
unfolding guarded fresh copied uncopied judged replies_judged open_more
told-apart = (numbered copied ∙ refl, numbered uncopied ∙ refl)

-- nor is its other half: where the guard cell is the low one, a low regrade into the high cell is told of the high cell's room
abbrev pub low-desk : List ℕ
low-desk = guarded 1

unfoldable pub upward : List Call
upward = call 0 7 420 3 0 [] ∷ call 0 21 0 1 420 (0 ∷ 0 ∷ 0 ∷ 0 ∷ []) ∷ []

abbrev firsts : List Reply → List ℕ
firsts [] = []
firsts (v ∷ vs) = v.answered.first ∷ firsts vs

pub room-told : (firsts (replies low-desk (observer low-desk 0) (fresh 1) upward) ≡ 2164260865 ∷ 2164391937 ∷ [])
    × (firsts (replies low-desk (observer low-desk 0) (other 1) upward) ≡ 2164260865 ∷ 2164457473 ∷ [])
unfolding guarded fresh other secret upward judged replies_judged open_more
room-told = (
  ap (λ (x : List Reply). firsts x) (replies-judged low-desk (observer low-desk 0) (fresh 1) upward (fresh-formed 1 refl)) ∙ refl,
  ap (λ (x : List Reply). firsts x) (replies-judged low-desk (observer low-desk 0) (other 1) upward (other-formed 1 refl)) ∙ refl,
)
