-- The premise of CR 9, in other words: what it comes to where there is no guard, where no call is a regrade, and on either side of the guard.
use mathlib.Core.Path.{◌≡◌, refl}
use mathlib.Core.Bool.{Bool, true, false, cond, ◌&&◌, not}
use mathlib.Core.List.{List, [], ◌∷◌, ◌++◌}
use Prim.Native.Nat.{ℕ, ◌+◌, ◌-◌, ◌<◌}
use native.Mathlib.Omega.{arith}
use lib.Dec.{eqb}
use borrow.Author.Tests.{eqb-true, ne_eqb}
use Rattle.rules.specs.Layout.{process, slots, guard, cell_of}
use Rattle.rules.specs.Copy.{Copy}
use Rattle.rules.specs.Call21.{in_guard}
use Rattle.rules.specs.Step.{State, Call, regrade_code, next}
use Rattle.rules.specs.Observer.{stays, remaining}
use Rattle.rules.specs.Regrade.{into, accepted, Event, remains, refused, brings, event, events, without_refused, guard_within, NamesNone, asks, AsksNone}
use Rattle.laws.proofs.Tests.{and_left, and_right, both_ways, refuted}
use Rattle.laws.proofs.Written.{AllOf, nil, also}
use Rattle.kept.proofs.Kept.{kept}
use Rattle.secrecy.proofs.Steps as steps
use Rattle.secrecy.proofs.Runs.{well-next}

-- ---- no remaining call asks about a cell outside the set

-- it is enough that no remaining call 21 names one, and only for a set that holds the guard cell
pub asks-here : (h : List ℕ) (C : ℕ → Bool) (s : State) (k : Call) → steps.WellUnder h s → stays h C k ≡ true → asks s k ≡ true → guard_within h C ≡ true
unfolding guard_within in_guard
asks-here h C s k f m e =
    let x = steps.asking h s f k e in
    let g : guard h ≡ cell_of h process k.caller + 1 = eqb-true _ _ x.guarded in
    let z : eqb (guard h) 0 ≡ false = ne_eqb (guard h) 0 (λ i. omega arith) in
    let c : guard h - 1 ≡ cell_of h process k.caller = omega arith in
    rw (z, c) (steps.inside h C k m x.there)

pub names-none : (h : List ℕ) (C : ℕ → Bool) (ks : List Call) (s : State) → steps.WellUnder h s → (guard_within h C ≡ true → NamesNone h C ks) → AsksNone h C s ks
unfolding NamesNone AsksNone
names-none h C [] s f n = tt
names-none h C (k ∷ ks) s f n = (
  λ m e. let x = steps.asking h s f k e in (n (asks-here h C s k f m e)).0 m x.regrades x.cell,
  names-none h C ks (next s k) (well-next kept h s k f) (λ g. (n g).1),
)

-- ---- the events are the remaining calls alone, where no struck-out regrade into the set is accepted

abbrev pub calls : {K : Type 0} → List K → List (Event K)
calls [] = []
calls (k ∷ ks) = remains k ∷ calls ks

pub calls-if : {K : Type 0} (b i c : Bool) (k : K) (x : Copy) (ks : List K) (es : List (Event K)) → (b ≡ false → i && c ≡ false) → without_refused es ≡ calls ks
    → without_refused (cond b (remains k ∷ []) (cond i (cond c (brings x) refused ∷ []) []) ++ es) ≡ calls (cond b (k ∷ ks) ks)
unfolding without_refused
calls-if true i c k x ks es n e = rw e
calls-if false true true k x ks es n e = both_ways true refl (n refl)
calls-if false true false k x ks es n e = e
calls-if false false c k x ks es n e = e

-- P says what is known of each call
module _ (h : List ℕ) (C : ℕ → Bool) (P : Call → Type 0) (quiet : (s : State) (k : Call) → steps.WellUnder h s → P k → stays h C k ≡ false
    → into h C k && accepted s k ≡ false) where
  pub only_calls : (ks : List Call) (s : State) → steps.WellUnder h s → AllOf P ks → without_refused (events h C s ks) ≡ calls (remaining h C ks)
  unfolding events event remaining without_refused
  only_calls [] s f nil = refl
  only_calls (k ∷ ks) s f (also p ps) = calls-if (stays h C k) (into h C k) (accepted s k) k _ (remaining h C ks) _ (quiet s k f p)
      (only_calls ks (next s k) (well-next kept h s k f) ps)

-- no call is a regrade
abbrev pub NoRegrade : Call → Type 0
NoRegrade k = k.code ≡ regrade_code → ⊥

pub quiet-other : (h : List ℕ) (C : ℕ → Bool) (s : State) (k : Call) → steps.WellUnder h s → NoRegrade k → stays h C k ≡ false → into h C k && accepted s k ≡ false
unfolding into
quiet-other h C s k f n o = rw (ne_eqb k.code regrade_code n)

pub other-asks-none : (h : List ℕ) (C : ℕ → Bool) (ks : List Call) (s : State) → AllOf NoRegrade ks → AsksNone h C s ks
unfolding AsksNone asks
other-asks-none h C [] s nil = tt
other-asks-none h C (k ∷ ks) s (also n ns) = (λ m e. absurd (n (eqb-true _ _ (and_left (eqb k.code regrade_code) _ e))), other-asks-none h C ks (next s k) ns)

-- the set holds the guard cell, or there is none: a struck-out caller is not of the guard cell
abbrev pub Guarded : List ℕ → (ℕ → Bool) → Type 0
Guarded h C = (p : ℕ) → p < slots h process → in_guard h p ≡ true → C (cell_of h process p) ≡ true

pub quiet-guarded : (h : List ℕ) (C : ℕ → Bool) → Guarded h C → (s : State) (k : Call) → steps.WellUnder h s → Unit {0} → stays h C k ≡ false
    → into h C k && accepted s k ≡ false
unfolding into
quiet-guarded h C g s k f u o = refuted _ (λ e.
    let i = and_left (into h C k) (accepted s k) e in
    let x = steps.accepted-regrade h s f k (eqb-true _ _ (and_left (eqb k.code regrade_code) _ i)) (and_right (into h C k) (accepted s k) e) in
    both_ways (C (cell_of h process k.caller)) (g k.caller x.there x.guarded) (steps.caller-out h C k o).1)

pub all-calls : (ks : List Call) → AllOf (λ k. Unit {0}) ks
all-calls [] = nil
all-calls (k ∷ ks) = also tt (all-calls ks)

pub guarded-none : (h : List ℕ) (C : ℕ → Bool) → guard h ≡ 0 → Guarded h C
unfolding in_guard
guarded-none h C e p l g = absurd (omega (arith, eqb-true (guard h) (cell_of h process p + 1) g))

pub guarded-within : (h : List ℕ) (C : ℕ → Bool) → guard_within h C ≡ true → Guarded h C
unfolding in_guard guard_within
guarded-within h C e p l g =
    let c : guard h - 1 ≡ cell_of h process p = omega (arith, eqb-true (guard h) (cell_of h process p + 1) g) in
    rw c at (and_right (not (eqb (guard h) 0)) (C (guard h - 1)) e)

pub none_within : (h : List ℕ) (C : ℕ → Bool) → guard h ≡ 0 → guard_within h C ≡ false
unfolding guard_within
none_within h C e = rw e
