-- Demand 3 of trays with regrades speaks of something: two trays, on the two tables of Desk, that bring the same copy down. And each half of the premise on regrades is
-- needed: trays that break it, and tell.
use mathlib.Core.Path.{◌≡◌, refl, ap, ◌∙◌}
use mathlib.Core.Bool.{Bool}
use mathlib.Core.List.{List, [], ◌∷◌}
use Prim.Native.Nat.{ℕ, ◌≤◌}
use native.Mathlib.Omega.{arith}
use lib.ListN.{length, replicate}
use borrow.Author.Tests.{leb-true}
use Rattle.rules.specs.Observer.{observer}
use Rattle.rules.specs.Regrade.{without_refused}
use Rattle.rules.specs.Tray.{Record, Tray, most_records, after_tray, remaining_in, asked, Apart}
use Rattle.rules.specs.TrayRegrade.{accepted_in, event_in, events_in}
use Rattle.promises.proofs.Tray.{tray-runs}
use Rattle.secrecy.proofs.Tray.{SameTrays, below-guard}
use Rattle.instances.proofs.TrayInstance.{open-trays, record_of, divided, first-error}
use Rattle.instances.proofs.Instance.{guarded, fresh, other, secret, fresh-formed, other-formed, fresh-configuration, low-closed, agreed}
use Rattle.instances.proofs.Desk.{open_more, desk, guard-above}

-- the rules' definitions that the examples compute with
open-desk : Unit {0}
unfolding open_more open-trays accepted_in event_in events_in
open-desk = tt

-- the guard, process 2, makes a file and regrades it into the low cell; the low process asks for the copy's status, and opens it
unfoldable pub one-tray : List Record
one-tray = record_of 2 7 420 3 0 16 0 ∷ record_of 2 21 0 0 420 16 4 ∷ record_of 0 17 2164260865 0 0 0 16 ∷ record_of 0 8 2164260865 1 0 0 0 ∷ []

-- the other high process does it here, with a file in another slot, and first tries a regrade whose part lies outside
unfoldable pub other-tray : List Record
other-tray =
    record_of 3 7 438 11 0 16 0 ∷ record_of 3 21 0 0 420 24 4 ∷ record_of 3 21 0 0 420 20 4 ∷ record_of 0 17 2164260865 0 0 0 16 ∷ record_of 0 8 2164260865 1 0 0 0 ∷ []

unfoldable pub bytes : List ℕ
bytes = replicate 24 0

abbrev low : ℕ → Bool
low = observer desk 0

same_asked : remaining_in desk low (asked one-tray) ≡ remaining_in desk low (asked other-tray)
unfolding one-tray other-tray guarded open-desk
same_asked = refl

one_apart : Apart desk low one-tray
unfolding one-tray guarded open-desk
one_apart = divided desk low 16 one-tray refl

other-apart : Apart desk low other-tray
unfolding other-tray guarded open-desk
other-apart = divided desk low 16 other-tray refl

one-short : length one-tray ≤ most_records
unfolding one-tray
one-short = leb-true 4 most_records refl

other-short : length other-tray ≤ most_records
unfolding other-tray
other-short = leb-true 5 most_records refl

same-told : without_refused (events_in desk low (fresh 2) bytes one-tray) ≡ without_refused (events_in desk low (other 2) bytes other-tray)
unfolding guarded fresh other secret one-tray other-tray bytes open-desk
same-told = refl

-- Demand 3 at work: the copy is all that comes down
pub at-work : SameTrays desk low one-tray (after_tray (fresh 2) bytes one-tray) (after_tray (other 2) bytes other-tray)
at-work = (rw (fresh-configuration 2) at (below-guard low (fresh 2) (other 2) (fresh-formed 2 refl) (other-formed 2 refl)))
    (low-closed 2) (agreed 2) one-tray other-tray bytes bytes (record {
      short = one-short;
      short' = other-short;
      asked-same = same_asked;
      long = refl;
      equal = λ i s. refl;
      apart = one_apart;
      apart' = other-apart;
    }) guard-above same-told

-- ---- why the premise is needed

-- with CR 3's premises alone the low caller tells a tray with a regrade from one without
unfoldable pub uncopied : List Record
uncopied = record_of 0 17 2164260865 0 0 0 16 ∷ record_of 0 8 2164260865 1 0 0 0 ∷ []

pub same-remaining : remaining_in desk low (asked one-tray) ≡ remaining_in desk low (asked uncopied)
unfolding one-tray uncopied guarded open-desk
same-remaining = refl

pub regrade-tells : SameTrays desk low one-tray (after_tray (fresh 2) bytes one-tray) (after_tray (fresh 2) bytes uncopied) → ⊥
unfolding one-tray uncopied guarded fresh bytes open-desk first-error
regrade-tells same =
    let short : length uncopied ≤ most_records = leb-true 2 most_records refl in
    let here = rw (tray-runs (fresh 2) bytes one-tray (fresh-formed 2 refl) one-short, tray-runs (fresh 2) bytes uncopied (fresh-formed 2 refl) short) at same in
    let z : ◌≡◌ {A = ℕ} 0 12 = ap (λ (rs : List Record). first-error rs) here.answers in
    omega arith

-- where the guard cell is the low one, a low regrade into the high cell is told of the high cell's room: the same tray on two tables that agree
unfoldable pub upward : List Record
upward = record_of 0 7 420 3 0 0 0 ∷ record_of 0 21 0 1 420 0 4 ∷ []

abbrev firsts : List Record → List ℕ
firsts [] = []
firsts (r ∷ rs) = r.answer.first ∷ firsts rs

pub room-told : (firsts (after_tray (fresh 1) bytes upward).records ≡ 2164260865 ∷ 2164391937 ∷ [])
    × (firsts (after_tray (other 1) bytes upward).records ≡ 2164260865 ∷ 2164457473 ∷ [])
unfolding guarded fresh other secret upward bytes open-desk
room-told =
    let short : length upward ≤ most_records = leb-true 2 most_records refl in (
      ap (λ (x : Tray). firsts x.records) (tray-runs (fresh 1) bytes upward (fresh-formed 1 refl) short) ∙ refl,
      ap (λ (x : Tray). firsts x.records) (tray-runs (other 1) bytes upward (other-formed 1 refl) short) ∙ refl,
    )
