-- 02, CR 9: what demand 3 asks of the regrades of a tray, record by record. It is what Regrade asks of calls. A record is accepted, or refused, as its answer says; what
-- it brings is what its call finds, with owner and group from its part of the byte slice. C is a set of cells, h the configuration.
use Rattle.std.specs.Prelude.{◌≡◌, Bool, true, cond, ◌&&◌, ◌||◌, List, [], ◌∷◌, ◌++◌, ℕ, eqb}
use Rattle.std.proofs.lemmas.List.Edits.{sets}
use Rattle.rules.specs.Layout.{rd}
use Rattle.rules.specs.Errors.{XOK, XnoSpace}
use Rattle.rules.specs.Call21.{carried}
use Rattle.rules.specs.Step.{State, Call, answer, Outcome, regrade_code}
use Rattle.rules.specs.Regrade.{into, Event, remains, refused, brings}
use Rattle.rules.specs.Tray.{Record, part_of, record_call, record_step, with_answer, stays_in}

-- the calls that the records ask for, whatever their parts hold: "no regrade asks about a cell that doesn't flow to them" is NamesNone of these
unfoldable pub calls_in : List Record → List Call
calls_in [] = []
calls_in (r ∷ rs) = record_call [] r ∷ calls_in rs

-- the record is accepted in state s with this byte slice
unfoldable pub accepted_in : State → List ℕ → Record → Bool
accepted_in s bytes r = eqb (record_step s bytes r).answered.error XOK

-- what the set is told of a record: what it asks, where it remains; and of a struck-out regrade into the set, that it is refused or what it brings
unfoldable pub event_in : List ℕ → (ℕ → Bool) → State → List ℕ → Record → List (Event Record)
event_in h C s bytes r =
    cond (stays_in h C r) (remains (with_answer r (answer 0 0 0)) ∷ [])
    (cond (into h C (record_call bytes r))
    (cond (accepted_in s bytes r) (brings (carried h (rd h s.table) s.store r.caller r.a r.b r.c (part_of bytes r))) refused ∷ [])
    [])

-- "at each regrade by a struck-out caller into a cell that flows to the observer, both runs carry a regrade after the same remaining calls and in the same order, and
-- either both refuse or both accept with the same cell, size, bytes, owner, group and bits": two trays have the same events
unfoldable pub events_in : List ℕ → (ℕ → Bool) → State → List ℕ → List Record → List (Event Record)
events_in h C s bytes [] = []
events_in h C s bytes (r ∷ rs) =
    let o : Outcome = record_step s bytes r in
    event_in h C s bytes r ++ events_in h C o.state (sets bytes r.offset o.buffer) rs

-- less is enough, as of calls: a record asks about a cell only where it comes as far as the search for a slot there
unfoldable pub asks_in : State → List ℕ → Record → Bool
asks_in s bytes r = eqb r.code regrade_code && (eqb (record_step s bytes r).answered.error XOK || eqb (record_step s bytes r).answered.error XnoSpace)

unfoldable pub AsksNoneIn : List ℕ → (ℕ → Bool) → State → List ℕ → List Record → Type 0
AsksNoneIn h C s bytes [] = Unit {0}
AsksNoneIn h C s bytes (r ∷ rs) =
    let o : Outcome = record_step s bytes r in
    (stays_in h C r ≡ true → asks_in s bytes r ≡ true → C r.b ≡ true) × AsksNoneIn h C o.state (sets bytes r.offset o.buffer) rs
