-- Demand 3 speaks of something: two well-formed tables that differ in the high cell, and document 01's listing run on them. The tables may have a guard cell, for Desk.
use mathlib.Core.Path.{◌≡◌, refl, ◌∙◌}
use mathlib.Core.Bool.{true, false, ◌&&◌}
use mathlib.Core.List.{List, [], ◌∷◌, ◌++◌}
use Prim.Native.Nat.{ℕ, ◌+◌, ◌*◌}
use native.Mathlib.Omega.{arith}
use lib.Dec.{ltb, leb}
use lib.ListN.{length, replicate}
use borrow.Author.Tests.{ltb-true, le-leb}
use Rattle.rules.specs.Words.{sum_below}
use Rattle.rules.specs.Layout.{Kind, process, file, record_words, live, serial, owner, bits, links, size, cells, slots, guard, subtypes, cell_word, configuration, first_slot, cell_of, at, rd}
use Rattle.rules.specs.Claim.{test}
use Rattle.rules.specs.WellFormed.{well_formed}
use Rattle.rules.specs.SetUp.{can_set_up, first_processes, fresh_table, set_up_table}
use Rattle.rules.specs.Step.{State, Call, Reply, answer, reply, run}
use Rattle.rules.specs.Rule.{◌≔◌, bytes_at, Effect, effect, write, store}
use Rattle.rules.specs.Observer.{observer, Closed, Agree, stays, remaining, replies}
use Rattle.promises.proofs.Opened.{open-table, open-set-up, open-calls, open_step}
use Rattle.laws.proofs.Claims.{holds}
use Rattle.laws.proofs.Written.{AllOf, nil, also}
use Rattle.kept.proofs.Kept.{Well}
use Rattle.secrecy.proofs.CellFlow.{flows-trans}
use Rattle.secrecy.proofs.Shown.{Up, Ups, UpBytes}
use Rattle.secrecy.proofs.Apply.{Sized, hide-effect}
use Rattle.secrecy.proofs.Steps.{from-configuration}
use Rattle.secrecy.proofs.Demand3.{no-guard}
use Rattle.instances.proofs.Carried.{judged, replies_judged, replies-judged}

-- the rules' definitions that the examples compute with: to open this is to open them
unfoldable pub open-rules : Unit {0}
unfolding open-table open-set-up open-calls open_step reply stays remaining replies
open-rules = tt

-- "Two cells, security 1 and 3, integrity, compartments, owner and group 0, two process and two file slots each, no segment slots, B 1." g is the guard word.
unfoldable pub guarded : ℕ → List ℕ
guarded g =
    (2 ∷ 4 ∷ 0 ∷ 4 ∷ 1 ∷ g ∷ 0 ∷ 0 ∷ []) ++ ((1 ∷ 0 ∷ 0 ∷ 2 ∷ 0 ∷ 2 ∷ 0 ∷ 0 ∷ []) ++ (3 ∷ 0 ∷ 0 ∷ 2 ∷ 0 ∷ 2 ∷ 0 ∷ 0 ∷ []))

unfoldable pub fresh : ℕ → State
fresh g = record { table = fresh_table (guarded g); store = replicate 2048 0 }

-- a second state: in the high cell another process lives, and a file with contents stands in the first slot
unfoldable pub secret : Effect
secret =
    effect 0 0 []
    ((at process 3 live ≔ 1) ∷ (at process 3 serial ≔ 7) ∷ (at process 3 owner ≔ 5) ∷ (at file 2 live ≔ 1) ∷ (at file 2 serial ≔ 9) ∷ (at file 2 (bits file) ≔ 420)
    ∷ (at file 2 links ≔ 1) ∷ (at file 2 size ≔ 1) ∷ [])
    (bytes_at 2 0 (1 ∷ 2 ∷ 3 ∷ []) ∷ [])

unfoldable pub other : ℕ → State
other g = record { table = write (guarded g) (fresh g).table secret.words; store = store (guarded g) (fresh g).store secret.bytes }

-- the two states differ
pub differ : (g : ℕ) → (rd (guarded g) (fresh g).table (at process 3 live) ≡ 0) × (rd (guarded g) (other g).table (at process 3 live) ≡ 1)
unfolding guarded fresh fresh_table first_processes other secret rd cells slots subtypes cell_word first_slot sum_below
differ g = (refl, refl)

-- ---- the premises of demand 3 are met, for an observer in the low cell, whichever cell is the guard's

-- of the guard word the definition asks one thing alone: the rest is computed once, for every guard
fresh-tested : (g : ℕ) → test (well_formed (fresh g).table (length (fresh g).store)) ≡ ((leb g 2 && true) && true) && true
unfolding guarded fresh open-rules
fresh-tested g = refl

other-tested : (g : ℕ) → test (well_formed (other g).table (length (other g).store)) ≡ ((leb g 2 && true) && true) && true
unfolding other secret guarded fresh open-rules
other-tested g = refl

pub fresh-formed : (g : ℕ) → ltb g 3 ≡ true → Well (fresh g)
fresh-formed g l = holds (well_formed (fresh g).table (length (fresh g).store)) (fresh-tested g ∙ rw (le-leb g 2 (omega (arith, ltb-true g 3 l))) refl)

pub other-formed : (g : ℕ) → ltb g 3 ≡ true → Well (other g)
other-formed g l = holds (well_formed (other g).table (length (other g).store)) (other-tested g ∙ rw (le-leb g 2 (omega (arith, ltb-true g 3 l))) refl)

pub fresh-configuration : (g : ℕ) → configuration (fresh g).table ≡ guarded g
unfolding guarded fresh open-rules
fresh-configuration g = refl

other-configuration : (g : ℕ) → configuration (other g).table ≡ guarded g
unfolding other secret guarded fresh open-rules
other-configuration g = refl

pub low-closed : (g : ℕ) → Closed (guarded g) (observer (guarded g) 0)
low-closed g c d e f = flows-trans (guarded g) c d 0 e f

-- the high cell does not flow to the observer, and what differs lies in it
high-unseen : (g : ℕ) → observer (guarded g) 0 1 ≡ false
unfolding guarded open-rules
high-unseen g = refl

module _ (g : ℕ) where
  high : (k : Kind) (i j : ℕ) → cell_of (guarded g) k i ≡ 1 → ltb i (slots (guarded g) k) ≡ true → ltb j (record_words k) ≡ true → Up (guarded g) 1 (at k i j)
  unfolding guarded open-rules
  high k i j e l m = record { valid = (ltb-true i (slots (guarded g) k) l, ltb-true j (record_words k) m); up = rw e }

  high-words : Ups (guarded g) 1 secret.words
  unfolding secret guarded open-rules
  high-words = search (also, nil, high) depth 12

  high-bytes : AllOf (UpBytes (guarded g) 1) secret.bytes
  unfolding secret guarded open-rules
  high-bytes = let u : UpBytes (guarded g) 1 (bytes_at 2 0 (1 ∷ 2 ∷ 3 ∷ [])) = record { there = omega arith; inside = omega arith; up = refl } in also u nil

  fresh-sized : Sized (guarded g) (fresh g)
  unfolding guarded fresh open-rules
  fresh-sized = record { words = refl; bytes = refl }

  pub agreed : Agree (observer (guarded g) 0) (fresh g) (other g)
  unfolding other
  agreed = from-configuration (guarded g) (observer (guarded g) 0) (fresh g) (other g) (fresh-configuration g) (other-configuration g)
      (hide-effect (guarded g) (observer (guarded g) 0) 1 secret (low-closed g) (high-unseen g) high-words high-bytes (fresh g) fresh-sized)

-- ---- 01's hall has no guard cell

abbrev pub hall : List ℕ
hall = guarded 0

-- as set-up leaves it, whatever stood there
pub set-up-gives : set_up_table (hall ++ replicate (record_words process * 4 + record_words file * 4) 9) 2048 ≡ (fresh 0).table
unfolding guarded fresh can_set_up set_up_table open-rules
set-up-gives = refl

-- ---- 01's listing

abbrev call : ℕ → ℕ → ℕ → ℕ → ℕ → Call
call p k a b n = record { caller = p; code = k; a = a; b = b; c = 0; buffer = replicate n 0 }

abbrev said : ℕ → ℕ → ℕ → ℕ → Reply
said e x y n = record { answered = answer e x y; buffer = replicate n 0 }

unfoldable pub listing : List Call
listing =
    call 0 7 420 3 0 ∷ call 2 8 2164260865 1 0 ∷ call 0 7 420 1 0 ∷ call 0 7 420 1 0 ∷ call 0 9 0 0 0 ∷ call 2 13 0 0 512 ∷ call 0 7 420 3 0 ∷ call 2 13 0 0 512 ∷ []

pub listed : replies hall (λ c. true) (fresh 0) listing
    ≡ said 0 2164260865 0 0 ∷ said 0 0 0 0 ∷ said 0 2164326401 1 0 ∷ said 26 0 0 0 ∷ said 0 0 0 0 ∷ said 12 0 0 512 ∷ said 0 2164260866 0 0 ∷ said 12 0 0 512 ∷ []
unfolding guarded fresh listing judged replies_judged open-rules
listed = replies-judged hall (λ c. true) (fresh 0) listing (fresh-formed 0 refl) ∙ refl

-- the high calls are others too
unfoldable pub others : List Call
others =
    call 3 1 5 5 0 ∷ call 0 7 420 3 0 ∷ call 2 7 438 3 0 ∷ call 0 7 420 1 0 ∷ call 3 13 0 0 512 ∷ call 0 7 420 1 0 ∷ call 0 9 0 0 0 ∷ call 0 7 420 3 0 ∷ call 2 15 0 0 12 ∷ []

pub same-remaining : remaining hall (observer hall 0) listing ≡ remaining hall (observer hall 0) others
unfolding listing others guarded open-rules
same-remaining = refl

-- there is no guard cell, so nothing more is asked of the calls
pub unguarded : guard hall ≡ 0
unfolding guarded guard
unguarded = refl

-- Demand 3 at work: the low caller of 01's listing gets the same answers whatever stands and happens in the high cell.
pub at-work : (replies hall (observer hall 0) (fresh 0) listing ≡ replies hall (observer hall 0) (other 0) others)
    × Agree (observer hall 0) (run (fresh 0) listing) (run (other 0) others)
at-work = (rw (fresh-configuration 0) at (no-guard (observer hall 0) (fresh 0) (other 0) (fresh-formed 0 refl) (other-formed 0 refl)))
    (low-closed 0) (agreed 0) listing others same-remaining unguarded
