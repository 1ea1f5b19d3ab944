-- Holders: one more always fits, and what is written for it; records made and entries filled, over the kind.
use mathlib.Core.Path.{◌≡◌, refl, sym, ◌∙◌}
use mathlib.Core.Bool.{Bool, true, false, cond}
use mathlib.Core.List.{List, [], ◌∷◌, ◌++◌}
use Prim.Native.Nat.{ℕ, ◌+◌, ◌*◌, ◌≤◌, ◌<◌}
use native.Mathlib.Omega.{arith}
use native.Mathlib.Nat.{mul-le-mul_right}
use lib.ListN.{get_or, set}
use Rattle.rules.specs.Words.{count_below}
use Rattle.rules.specs.Layout.{max_slots, Kind, process, segment, file, configuration, slots, Addr, at, offset, rd, entries, held_at, live, serial, owner, group, holders}
use Rattle.rules.specs.Seid.{index_of}
use Rattle.rules.specs.Rule.{Word, ◌≔◌, write}
use Rattle.rules.specs.WellFormed.{own_entry, own_entries}
use Rattle.rules.specs.Find.{in_own_cell, entered, one_more}
use Rattle.laws.proofs.Below.{sum-le, count-le}
use Rattle.laws.proofs.Tests.{both_ways}
use Rattle.laws.proofs.Shape.{references-counted, opens-counted}
use Rattle.layout.specs.declared.Header.{Header}
use Rattle.layout.specs.Header.{record_of}
use Rattle.calls.specs.declared.Caller.{Caller}
use Rattle.calls.specs.World.{Known, Sound, words_of, holdable}
use Rattle.calls.specs.Entries.{four_at, made_at, taken_up_at}
use Rattle.calls.proofs.Worlds.{spot, shape}
use Rattle.calls.proofs.Given.{along, beyond, begins, used-next}

-- ---- how many holders an object has at most

own-few : (h : List ℕ) (r : Addr → ℕ) (k : Kind) (i : ℕ) → slots h process ≤ max_slots → own_entries h r k i ≤ max_slots * entries
unfolding own_entries
own-few h r k i l =
    omega (arith, sum-le (slots h process) (λ p. count_below entries (own_entry h r k i p)) entries (λ p m. count-le entries (own_entry h r k i p)), mul-le-mul_right entries l)

module _ {t : List ℕ} {n : Header} {c : Caller} (sound : Sound t n c) where
  few-holders : (k : Kind) (i : ℕ) → holdable k ≡ true → i < slots (configuration t) k → words_of t (at k i (holders k)) ≤ max_slots * entries
  few-holders process i th l = both_ways false th refl
  few-holders segment i th l = omega (
    arith,
    references-counted (configuration t) (words_of t) sound.records i l,
    own-few (configuration t) (words_of t) segment i ((shape sound.known).few process),
  )
  few-holders file i th l = omega (
    arith,
    opens-counted (configuration t) (words_of t) sound.records i l,
    own-few (configuration t) (words_of t) file i ((shape sound.known).few process),
  )

  -- the count as the code reads it, where the object's record begins at a place
  pub one-fits : (k : Kind) (i : ℕ) {object : ℕ} → holdable k ≡ true → i < slots (configuration t) k → object ≡ record_of n k i
      → get_or t (object + holders k) 0 ≤ max_slots * entries
  unfolding rd
  one-fits k i {object} th l oe =
      let e : offset (configuration t) (at k i (holders k)) ≡ object + holders k = omega (arith, begins sound.known k i) in
      rw e at (few-holders k i th l)

-- ---- what is written

-- a new object's record
pub made-is : (h t : List ℕ) (k : Kind) (i s u g b x y z : ℕ) (ws : List Word)
    → write h t ((at k i live ≔ 1) ∷ (at k i serial ≔ s) ∷ (at k i owner ≔ u) ∷ (at k i group ≔ g) ∷ (at k i 4 ≔ b) ∷ (at k i 5 ≔ x) ∷ (at k i 6 ≔ y) ∷ (at k i 7 ≔ z) ∷ ws)
    ≡ write h (made_at t (offset h (at k i 0)) s u g b x y z) ws
unfolding made_at four_at
made-is h t k i s u g b x y z ws =
    let five : offset h (at k i 5) ≡ offset h (at k i 0) + 4 + 1 = omega arith in
    let six : offset h (at k i 6) ≡ offset h (at k i 0) + 4 + 2 = omega arith in
    let seven : offset h (at k i 7) ≡ offset h (at k i 0) + 4 + 3 = omega arith in
    rw (along h k i 1, along h k i 2, along h k i 3, along h k i 4, five, six, seven)

-- an entry filled, and one holder more
pub entered-is : (h t : List ℕ) (k : Kind) (p d s u : ℕ) (ws : List Word) → holdable k ≡ true
    → write h t (entered k p d s u ++ ws) ≡ write h (set (set t (offset h (at process p (held_at k d))) s) (offset h (at process p (held_at k d)) + 1) u) ws
entered-is h t k p d s u ws th = rw (used-next k d th, beyond h process p (held_at k d) 1)

taken_is : (h t : List ℕ) (k : Kind) (p d s u : ℕ) → holdable k ≡ true
    → write h t (entered k p d s u ++ one_more h (rd h t) p k s)
    ≡ taken_up_at t k (offset h (at process p (held_at k d))) s u (offset h (at k (index_of s) 0)) (in_own_cell h p k s)
unfolding taken_up_at rd
taken_is h t k p d s u th =
    entered-is h t k p d s u (one_more h (rd h t) p k s) th ∙ rw (along h k (index_of s) (holders k)) (go _ (in_own_cell h p k s))
  where
    o : ℕ
    o = offset h (at k (index_of s) 0) + holders k

    go : (u : List ℕ) (b : Bool) → write h u (cond b ((at k (index_of s) (holders k) ≔ get_or t o 0 + 1) ∷ []) []) ≡ cond b (set u o (get_or t o 0 + 1)) u
    go u true = rw (along h k (index_of s) (holders k))
    go u false = refl

-- what the code has found: the slot i, whether it is of the caller's cell, and the two places
pub taken-told : {t : List ℕ} {n : Header} → Known t n → (k : Kind) (p d s u : ℕ) → holdable k ≡ true → {i entry object : ℕ} {own : Bool} → i ≡ index_of s
    → own ≡ in_own_cell (configuration t) p k s → entry ≡ record_of n process p + held_at k d → object ≡ record_of n k i
    → taken_up_at t k entry s u object own ≡ write (configuration t) t (entered k p d s u ++ one_more (configuration t) (words_of t) p k s)
taken-told {t} known k p d s u th {i} ie we ee oe =
    rw (ee, oe, we, spot known (at process p (held_at k d)), begins known k i, ie) (sym (taken_is (configuration t) t k p d s u th))
