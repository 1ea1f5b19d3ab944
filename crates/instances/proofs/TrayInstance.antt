-- Demand 3 of trays speaks of something: two trays, on the two tables of Instance, whose high records differ. And each of 02's premises is needed: trays that break
-- one of them, and tell.
use mathlib.Core.Path.{◌≡◌, refl, sym, ap, ◌∙◌}
use mathlib.Core.Bool.{Bool, true, false, cond, ◌&&◌, not}
use mathlib.Core.List.{List, [], ◌∷◌, ◌++◌}
use Prim.Native.Nat.{ℕ, ◌+◌, ◌≤◌, ◌<◌}
use native.Mathlib.Omega.{arith}
use lib.Dec.{leb, ltb, eqb}
use lib.ListN.{length, get_or, replicate}
use borrow.Author.Tests.{eqb-true, leb-true, ltb-true}
use Rattle.rules.specs.Call17.{told, status}
use Rattle.rules.specs.Step.{answer}
use Rattle.rules.specs.Observer.{observer}
use Rattle.rules.specs.Tray.{Record, inside, record_rule, record_step, Tray, in_order, most_records, tray_answer, after_tray, stays_in, remaining_in, asked, in_part, seen, hidden, Apart, SameParts}
use Rattle.laws.proofs.Tests.{and_left, and_right, or-rest, both_ways, refuted, split, cond-true, cond-false, failed}
use Rattle.laws.proofs.Below.{all-at}
use Rattle.promises.proofs.Tray.{tray-runs}
use Rattle.secrecy.proofs.Tray.{SameTrays, no-guard}
use Rattle.instances.proofs.Instance.{open-rules, guarded, hall, fresh, other, fresh-formed, other-formed, fresh-configuration, low-closed, agreed, unguarded}

-- ---- parts that lie apart because a place divides them: the remaining ones end by it, and the struck-out ones begin at it

unfoldable pub around : List ℕ → (ℕ → Bool) → ℕ → List Record → Bool
around h C n [] = true
around h C n (r ∷ rs) = cond (stays_in h C r) (leb (r.offset + r.length) n) (leb n r.offset) && around h C n rs

module _ (h : List ℕ) (C : ℕ → Bool) (n i : ℕ) where
  pub seen_below : (rs : List Record) → around h C n rs ≡ true → seen h C rs i ≡ true → i < n
  unfolding around seen in_part
  seen_below [] e s = both_ways false s refl
  seen_below (r ∷ rs) e s =
      let here = and_left (cond (stays_in h C r) (leb (r.offset + r.length) n) (leb n r.offset)) (around h C n rs) e in
      let rest = and_right (cond (stays_in h C r) (leb (r.offset + r.length) n) (leb n r.offset)) (around h C n rs) e in
      split (i < n) (stays_in h C r && in_part r i)
      (λ t.
      let ends = leb-true (r.offset + r.length) n (sym (cond-true (stays_in h C r) _ _ (and_left (stays_in h C r) (in_part r i) t)) ∙ here) in
      let l = ltb-true i (r.offset + r.length) (and_right (leb r.offset i) (ltb i (r.offset + r.length)) (and_right (stays_in h C r) (in_part r i) t)) in
      omega arith)
      (λ f. seen_below rs rest (or-rest (stays_in h C r && in_part r i) (seen h C rs i) s f))

  pub hidden_above : (rs : List Record) → around h C n rs ≡ true → hidden h C rs i ≡ true → n ≤ i
  unfolding around hidden in_part
  hidden_above [] e s = both_ways false s refl
  hidden_above (r ∷ rs) e s =
      let here = and_left (cond (stays_in h C r) (leb (r.offset + r.length) n) (leb n r.offset)) (around h C n rs) e in
      let rest = and_right (cond (stays_in h C r) (leb (r.offset + r.length) n) (leb n r.offset)) (around h C n rs) e in
      split (n ≤ i) (not (stays_in h C r) && in_part r i)
      (λ t.
      let begins = leb-true n r.offset (sym (cond-false (stays_in h C r) _ _ (failed (stays_in h C r) (and_left (not (stays_in h C r)) (in_part r i) t))) ∙ here) in
      let l = leb-true r.offset i (and_left (leb r.offset i) (ltb i (r.offset + r.length)) (and_right (not (stays_in h C r)) (in_part r i) t)) in
      omega arith)
      (λ f. hidden_above rs rest (or-rest (not (stays_in h C r) && in_part r i) (hidden h C rs i) s f))

pub divided : (h : List ℕ) (C : ℕ → Bool) (n : ℕ) (rs : List Record) → around h C n rs ≡ true → Apart h C rs
divided h C n rs e i s = refuted (hidden h C rs i) (λ t. let a = seen_below h C n i rs e s in let b = hidden_above h C n i rs e t in omega arith)

-- ---- two trays

-- a record whose part lies at a place and has so many bytes; in the room for its answer stands anything
abbrev pub record_of : ℕ → ℕ → ℕ → ℕ → ℕ → ℕ → ℕ → Record
record_of p k a b c at n = record { caller = p; code = k; a = a; b = b; c = c; offset = at; length = n; answer = answer 9 9 9 }

abbrev asks : ℕ → ℕ → ℕ → ℕ → ℕ → ℕ → Record
asks p k a b at n = record_of p k a b 0 at n

-- the low process creates a file and asks for its own status; between, the high one opens the file, or asks for its status, or a call is made from a slot that is
-- not live, with a part that lies outside
unfoldable pub night : List Record
night = asks 0 7 420 3 0 0 ∷ asks 2 8 2164260865 1 16 0 ∷ asks 0 17 0 0 0 16 ∷ asks 2 17 0 0 16 16 ∷ []

unfoldable pub night' : List Record
night' = asks 2 17 0 0 16 16 ∷ asks 0 7 420 3 0 0 ∷ asks 3 7 420 3 30 5 ∷ asks 0 17 0 0 0 16 ∷ []

unfoldable pub bytes : List ℕ
bytes = replicate 32 0

unfoldable pub bytes' : List ℕ
bytes' = replicate 16 0 ++ replicate 16 7

-- to open this is to open the rules' definitions that the trays compute with
unfoldable pub open-trays : Unit {0}
unfolding open-rules status told inside record_rule record_step in_order tray_answer after_tray remaining_in asked in_part seen hidden around
open-trays = tt

abbrev low : ℕ → Bool
low = observer hall 0

same_asked : remaining_in hall low (asked night) ≡ remaining_in hall low (asked night')
unfolding night night' guarded open-trays
same_asked = refl

night-apart : Apart hall low night
unfolding night guarded open-trays
night-apart = divided hall low 16 night refl

night-apart' : Apart hall low night'
unfolding night' guarded open-trays
night-apart' = divided hall low 16 night' refl

same_bytes : SameParts hall low night bytes bytes'
unfolding night guarded bytes bytes' open-trays
same_bytes i s = eqb-true _ _ (all-at 16 (λ i. eqb (get_or bytes i 0) (get_or bytes' i 0)) refl i (seen_below hall low 16 i night refl s))

same-long : length bytes ≡ length bytes'
unfolding bytes bytes'
same-long = refl

night-short : length night ≤ most_records
unfolding night
night-short = leb-true 4 most_records refl

night-short' : length night' ≤ most_records
unfolding night'
night-short' = leb-true 4 most_records refl

-- Demand 3 at work: the low process gets the same answers, and its parts the same bytes, whatever stands and happens in the high cell.
pub at-work : SameTrays hall low night (after_tray (fresh 0) bytes night) (after_tray (other 0) bytes' night')
at-work = (rw (fresh-configuration 0) at (no-guard low (fresh 0) (other 0) (fresh-formed 0 refl) (other-formed 0 refl)))
    (low-closed 0) (agreed 0) night night' bytes bytes' (record {
      short = night-short;
      short' = night-short';
      asked-same = same_asked;
      long = same-long;
      equal = same_bytes;
      apart = night-apart;
      apart' = night-apart';
    }) unguarded

-- on a well-formed table the judgement of the table need not be computed
runs : (x : List ℕ) (rs : List Record) → leb (length rs) most_records ≡ true → after_tray (fresh 0) x rs ≡ in_order (fresh 0) x rs
runs x rs l = tray-runs (fresh 0) x rs (fresh-formed 0 refl) (leb-true (length rs) most_records l)

-- and what it gets: a file and its descriptor; and in its part the status of a process (class 4) of cell 0 at security 1, where the high one finds cell 1 and
-- security 3 in its own
pub answered : remaining_in hall low (after_tray (fresh 0) bytes night).records
    ≡ record { caller = 0; code = 7; a = 420; b = 3; c = 0; offset = 0; length = 0; answer = answer 0 2164260865 0 }
    ∷ record { caller = 0; code = 17; a = 0; b = 0; c = 0; offset = 0; length = 16; answer = answer 0 0 0 } ∷ []
unfolding night guarded fresh bytes open-trays
answered = ap (λ (x : Tray). remaining_in hall low x.records) (runs bytes night refl) ∙ refl

abbrev found : Tray → ℕ → List ℕ
found x at = get_or x.bytes at 0 ∷ get_or x.bytes (at + 1) 0 ∷ get_or x.bytes (at + 8) 0 ∷ []

pub left-in-parts : (found (after_tray (fresh 0) bytes night) 0 ≡ 4 ∷ 0 ∷ 1 ∷ []) × (found (after_tray (fresh 0) bytes night) 16 ≡ 4 ∷ 1 ∷ 3 ∷ [])
unfolding night guarded fresh bytes open-trays
left-in-parts = (ap (λ (x : Tray). found x 0) (runs bytes night refl) ∙ refl, ap (λ (x : Tray). found x 16) (runs bytes night refl) ∙ refl)

-- ---- why the premises are needed

-- a high record's part over a low one's: the low caller finds the high process's status in its part
unfoldable pub over : List Record
over = asks 0 17 0 0 0 16 ∷ asks 2 17 0 0 0 16 ∷ []

unfoldable pub alone : List Record
alone = asks 0 17 0 0 0 16 ∷ []

pub overlapping-tells : SameTrays hall low over (after_tray (fresh 0) bytes over) (after_tray (fresh 0) bytes alone) → ⊥
unfolding over alone guarded fresh bytes open-trays
overlapping-tells same = let e : ◌≡◌ {A = ℕ} 1 0 = (rw (runs bytes over refl, runs bytes alone refl) at same).parts 1 refl in omega arith

unfoldable pub first-error : List Record → ℕ
first-error [] = 0
first-error (r ∷ rs) = r.answer.error

-- byte slices of two lengths: one part lies inside, and the other does not
pub lengths-tell : SameTrays hall low alone (after_tray (fresh 0) bytes alone) (after_tray (fresh 0) (replicate 8 0) alone) → ⊥
unfolding alone guarded fresh bytes open-trays first-error
lengths-tell same =
    let here = rw (runs bytes alone refl, runs (replicate 8 0) alone refl) at same in
    let z : ◌≡◌ {A = ℕ} 0 5 = ap (λ (rs : List Record). first-error rs) here.answers in
    omega arith

-- byte slices that differ in a low part from the start: a call that ignores its buffer leaves them so
unfoldable pub idle : List Record
idle = asks 0 7 420 3 0 1 ∷ []

pub bytes-tell : SameTrays hall low idle (after_tray (fresh 0) (0 ∷ []) idle) (after_tray (fresh 0) (1 ∷ []) idle) → ⊥
unfolding idle guarded fresh open-trays
bytes-tell same = let e : ◌≡◌ {A = ℕ} 0 1 = (rw (runs (0 ∷ []) idle refl, runs (1 ∷ []) idle refl) at same).parts 0 refl in omega arith

-- a tray that is too long: its records are not answered
unfoldable pub long : List Record
long = alone ++ replicate most_records (asks 2 17 0 0 16 16)

pub too-long-tells : SameTrays hall low long (after_tray (fresh 0) bytes long) (after_tray (fresh 0) bytes alone) → ⊥
unfolding long alone guarded fresh bytes open-trays first-error
too-long-tells same = let z : ◌≡◌ {A = ℕ} 9 0 = ap (λ (rs : List Record). first-error rs) same.answers in omega arith
