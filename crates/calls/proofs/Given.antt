-- Words written by the rules, as the code writes them: records freed, holders counted down, entries given up, over the kind.
use mathlib.Core.Path.{◌≡◌, refl, sym, ap, ◌∙◌}
use mathlib.Core.Bool.{Bool, true, false, cond, ◌&&◌, not}
use mathlib.Core.List.{List, [], ◌∷◌}
use Prim.Native.Nat.{ℕ, zero, suc, ◌+◌, ◌-◌}
use native.Mathlib.Omega.{arith}
use lib.Dec.{eqb}
use lib.ListN.{get_or, set, replicate}
use lib.Seq.{sets}
use Rattle.rules.specs.Words.{tab_from}
use Rattle.rules.specs.Layout.{Kind, process, segment, file, record_words, configuration, cell_of, Addr, at, offset, held_at, used_at, holders}
use Rattle.rules.specs.Seid.{index_of, formed}
use Rattle.rules.specs.Rule.{◌≔◌, write}
use Rattle.rules.specs.Find.{in_own_cell, zeros, freed, kept, one_less, pages_cleared, emptied, given_up}
use Rattle.laws.proofs.Tests.{both_ways}
use Rattle.laws.proofs.Written.{write-append}
use Rattle.layout.specs.declared.Header.{Header}
use Rattle.layout.specs.Header.{record_of}
use Rattle.calls.specs.declared.Caller.{Caller}
use Rattle.calls.specs.declared.entries.Entry.{Entry}
use Rattle.calls.specs.World.{Known, words_of, holdable}
use Rattle.calls.specs.Entries.{entry_of, freed_at, less_at, given_up_at}
use Rattle.calls.proofs.Worlds.{spot, see}

-- zeros in a record's words
pub zeros-is : (h t : List ℕ) (k : Kind) (i j n : ℕ) → write h t (zeros k i j n) ≡ sets t (offset h (at k i j)) (replicate n 0)
unfolding zeros tab_from
zeros-is h t k i j zero = refl
zeros-is h t k i j (suc n) =
    zeros-is h (set t (offset h (at k i j)) 0) k i (suc j) n
    ∙ ap (λ (x : ℕ). sets (set t (offset h (at k i j)) 0) x (replicate n 0)) (omega arith)

-- the words of a record follow each other: n after word j, and so j after its first
pub beyond : (h : List ℕ) (k : Kind) (i j n : ℕ) → offset h (at k i (j + n)) ≡ offset h (at k i j) + n
beyond h k i j n = omega arith

pub along : (h : List ℕ) (k : Kind) (i j : ℕ) → offset h (at k i j) ≡ offset h (at k i 0) + j
along h k i j = omega arith

-- where a record begins, as the code finds it
pub begins : {t : List ℕ} {n : Header} → Known t n → (k : Kind) (i : ℕ) → record_of n k i ≡ offset (configuration t) (at k i 0)
begins known k i = let e = spot known (at k i 0) in omega arith

-- a record freed
pub freed-is : (h t : List ℕ) (k : Kind) (i : ℕ) → write h t (freed k i) ≡ freed_at t (offset h (at k i 0)) (record_words k)
unfolding freed_at
freed-is h t k i =
    zeros-is h (set t (offset h (at k i 0)) 0) k i 2 (record_words k - 2)
    ∙ rw (z, along h k i 2)
  where
    z : offset h (at k i 0) + 0 ≡ offset h (at k i 0)
    z = omega arith

-- the two words of an entry follow each other
pub used-next : (k : Kind) (d : ℕ) → holdable k ≡ true → used_at k d ≡ held_at k d + 1
used-next process d h = both_ways false h refl
used-next segment d h = omega arith
used-next file d h = omega arith

-- an entry as the code reads it
pub entry_read : {t : List ℕ} {n : Header} → Known t n → (k : Kind) (p d : ℕ) → holdable k ≡ true → {place x y : ℕ} → place ≡ record_of n process p + held_at k d
    → x ≡ get_or t place 0 → y ≡ get_or t (place + 1) 0 → ◌≡◌ {A = Entry} (record { held = x; used = y }) (entry_of (words_of t) k p d)
entry_read {t} {n} known k p d h {place} {x} {y} ae xe ye =
    let e : place + 1 ≡ record_of n process p + used_at k d = omega (arith, used-next k d h) in
    let u : y ≡ get_or t (record_of n process p + used_at k d) 0 = ye ∙ ap (λ (i : ℕ). get_or t i 0) e in
    rw (see known process p (held_at k d) refl (xe ∙ ap (λ (i : ℕ). get_or t i 0) ae), see known process p (used_at k d) refl u)

-- one holder less; r is what the table held at the start
less-is : (h t : List ℕ) (r : Addr → ℕ) (k : Kind) (i : ℕ) → write h t (one_less r k i) ≡ less_at t k (offset h (at k i 0)) (r (at k i (holders k))) (kept r k i)
unfolding one_less less_at
less-is h t r k i = go (eqb (r (at k i (holders k))) 1 && not (kept r k i))
  where
    go : (b : Bool) → write h t (cond b (freed k i) ((at k i (holders k) ≔ r (at k i (holders k)) - 1) ∷ []))
        ≡ cond b (freed_at t (offset h (at k i 0)) (record_words k)) (set t (offset h (at k i 0) + holders k) (r (at k i (holders k)) - 1))
    go true = freed-is h t k i
    go false = ap (λ (x : ℕ). set t x (r (at k i (holders k)) - 1)) (along h k i (holders k))

-- the object's side of an entry given up: r is what the table held at the start, u the table once the entry is cleared
given-object : (h u : List ℕ) (r : Addr → ℕ) (k : Kind) (i : ℕ) (b : Bool) → write h u (cond b (one_less r k i) [])
    ≡ cond b (less_at u k (offset h (at k i 0)) (r (at k i (holders k))) (kept r k i)) u
given-object h u r k i true = less-is h u r k i
given-object h u r k i false = refl

-- an entry emptied, on the table u, once its pages are cleared
emptied-is : (h u : List ℕ) (r : Addr → ℕ) (k : Kind) (p d s : ℕ) → holdable k ≡ true → write h u (emptied h r k p d s)
    ≡ given_up_at u k (offset h (at process p (held_at k d))) (offset h (at k (index_of s) 0)) (r (at k (index_of s) (holders k)))
    (formed h k s && in_own_cell h p k s) (kept r k (index_of s))
unfolding emptied given_up_at
emptied-is h u r k p d s th =
    rw (used-next k d th, ← beyond h process p (held_at k d) 1)
    (given-object h _ r k (index_of s) (formed h k s && in_own_cell h p k s))

-- what the code has found of the entry and its object: the slot i, its cell, whether a link keeps it, the two places and how many hold it;
-- u is the table once the entry's pages are cleared
pub given-told : {t : List ℕ} {n : Header} → Known t n → (c : Caller) (k : Kind) (p d s : ℕ) → c.cell ≡ cell_of (configuration t) process p → holdable k ≡ true
    → {i cell entry object count : ℕ} {form stays : Bool} {u : List ℕ} → i ≡ index_of s → form ≡ formed (configuration t) k s → cell ≡ cell_of (configuration t) k i → stays ≡ kept (words_of t) k i
    → entry ≡ record_of n process p + held_at k d → object ≡ record_of n k i → count ≡ words_of t (at k i (holders k))
    → u ≡ write (configuration t) t (pages_cleared (words_of t) k p d)
    → given_up_at u k entry object count (form && eqb cell c.cell) stays ≡ write (configuration t) t (given_up (configuration t) (words_of t) k p d s)
unfolding given_up
given-told {t} {n} known c k p d s homed th {i} {u = u} ie fe ce ke ee oe he ue =
    rw (write-append, ← ue, ee, oe, fe, ce, ke, he, spot known (at process p (held_at k d)), begins known k i, ie, homed)
    (sym (emptied-is (configuration t) u (words_of t) k p d s th))
