-- Call 2 writes in its own cell and reads in its own cell.
use mathlib.Core.Path.{◌≡◌, refl, sym, ap, ◌∙◌}
use mathlib.Core.Bool.{Bool, false, cond}
use mathlib.Core.List.{List, []}
use Prim.Native.Nat.{ℕ, zero, suc, ◌≤◌, ◌<◌}
use native.Mathlib.Omega.{arith}
use lib.Dec.{leb, eqb}
use borrow.Author.Tests.{lt-leb, eqb-false, ne_eqb}
use Rattle.rules.specs.Layout.{Kind, process, segment, file, slots, cell_of, Addr, at, entries, held_at, pages_at}
use Rattle.rules.specs.Seid.{class}
use Rattle.rules.specs.Rule.{Word, over, same_addr}
use Rattle.rules.specs.Find.{freed, zeros, one_less, pages_set, pages_cleared, emptied, given_up}
use Rattle.rules.specs.Call02.{dropped, dropped_to, released, release_process}
use Rattle.laws.proofs.Tests.{tests, split, cond-true, cond-false}
use Rattle.laws.proofs.Object.{Object, no-process}
use Rattle.laws.proofs.Seids.{class-pos, class-some, is-formed}
use Rattle.laws.proofs.Places.{same-addr}
use Rattle.laws.proofs.Written.{AllOf, nil, also, all-if, all_append, all-tab, over-at}
use Rattle.secrecy.proofs.Shown.{up-rules, alike-rules, Ups, WritesUp, Alike}
use Rattle.secrecy.proofs.View
use Rattle.secrecy.proofs.Give.{up-freed, up-given, same-given}

-- ---- entries are given up one after the other, each on what those before it leave: no word of a process but a page becomes anything but 0

abbrev Clears : Word → Type 0
Clears x = x.at.kind ≡ process → x.at.word < pages_at → x.value ≡ 0

clears-freed : (k : Kind) (i : ℕ) → AllOf Clears (freed k i)
unfolding zeros
clears-freed k i = also (λ e l. refl) (all-tab _ _ _ _ (λ j lo hi e l. refl))

clears-cleared : (r : Addr → ℕ) (k : Kind) (p d : ℕ) → AllOf Clears (pages_cleared r k p d)
unfolding pages_set
clears-cleared r process p d = nil
clears-cleared r segment p d = all-tab _ _ _ _ (λ g lo hi e l. absurd (omega arith))
clears-cleared r file p d = nil

clears-emptied : (h : List ℕ) (r : Addr → ℕ) (k : Kind) (q d s : ℕ) → Object k → AllOf Clears (emptied h r k q d s)
unfolding emptied one_less
clears-emptied h r k q d s e =
    let other : (x n : ℕ) → k ≡ process → n < pages_at → x ≡ 0 = λ x n e'. absurd (no-process k e e') in
    search (all-if, also, nil, clears-freed, other) depth 8

clears-dropped : (h : List ℕ) (r : Addr → ℕ) (k : Kind) (q d : ℕ) → Object k → AllOf Clears (dropped h r k q d)
unfolding dropped given_up
clears-dropped h r k q d e =
    all-if _ (eqb (r (at process q (held_at k d))) 0) [] _ (λ z. nil) (λ z. all_append _ (clears-cleared r k q d) (clears-emptied h r k q d _ e))

clears-to : (h : List ℕ) (r : Addr → ℕ) (k : Kind) (q n : ℕ) → Object k → AllOf Clears (dropped_to h r k q n)
unfolding dropped_to
clears-to h r k q zero e = nil
clears-to h r k q (suc n) e = all_append _ (clears-to h r k q n e) (clears-dropped h (over r (dropped_to h r k q n)) k q n e)

over-some : {ws : List Word} (a : Addr) → a.kind ≡ process → a.word < pages_at → AllOf Clears ws → (r : Addr → ℕ) → eqb (over r ws a) 0 ≡ false → over r ws a ≡ r a
unfolding over
over-some a e l nil r n = refl
over-some a e l (also {x = x} {xs = xs} c cs) r n =
    let r' : Addr → ℕ = λ b. cond (same_addr b x.at) x.value (r b) in
    let here : over r' xs a ≡ r' a = over-some a e l cs r' n in
    split (over r' xs a ≡ r a) (same_addr a x.at)
    (λ s. absurd (eqb-false (over r' xs a) 0 n (here ∙ cond-true (same_addr a x.at) x.value (r a) s
    ∙ c (sym (ap (λ (b : Addr). b.kind) (same-addr a x.at s)) ∙ e) (rw (same-addr a x.at s) at l))))
    (λ s. here ∙ cond-false (same_addr a x.at) x.value (r a) s)

held_low : (k : Kind) (d : ℕ) → Object k → leb entries d ≡ false → held_at k d < pages_at
held_low process d o l = absurd o
held_low segment d o l = omega (arith, tests)
held_low file d o l = omega (arith, tests)

here-over : {h : List ℕ} {p : ℕ} {r : Addr → ℕ} {ws : List Word} → AllOf Clears ws → View.Here h p r → View.Here h p (over r ws)
here-over {h} {p} {r} {ws} c v = record {
  shape = v.shape;
  there = v.there;
  reaching = λ p k d pp e l n.
      let some = ne_eqb _ 0 (class-some _ (class k) (class-pos k) (is-formed (class k) (slots h k) _ n).class-is) in
      let same : over r ws (at process p (held_at k d)) ≡ r (at process p (held_at k d)) = over-some (at process p (held_at k d)) refl (held_low k d e l) c r some in
      rw same (v.reaching p k d pp e l (rw same at n));
}

view-over : {h : List ℕ} {p : ℕ} {C : ℕ → Bool} {r q : Addr → ℕ} {ws : List Word} → AllOf Clears ws → View.View h p C r q → View.View h p C (over r ws) (over q ws)
view-over {r = r} {q = q} {ws = ws} c v =
    record { here = here-over c v.here; closed = v.closed; within = v.within; seen = λ a l i. over-at ws r q a (v.seen a l i) }

-- ---- the process that gives up its entries

module _ {h : List ℕ} {p : ℕ} where
  up-dropped : {r : Addr → ℕ} → View.Here h p r → (k : Kind) (d : ℕ) → Object k → leb entries d ≡ false → Ups h (cell_of h process p) (dropped h r k p d)
  unfolding dropped
  up-dropped v k d e l = search (all-if, nil, up-given v)

  up_to : {r : Addr → ℕ} → View.Here h p r → (k : Kind) (n : ℕ) → Object k → n ≤ entries → Ups h (cell_of h process p) (dropped_to h r k p n)
  unfolding dropped_to
  up_to v k zero e l = nil
  up_to {r} v k (suc n) e l =
      all_append _ (up_to v k n e (omega arith)) (up-dropped (here-over (clears-to h r k p n e) v) k n e (lt-leb entries n l))

  up-released : {r : Addr → ℕ} → View.Here h p r → Ups h (cell_of h process p) (released h r p)
  unfolding released
  up-released {r} v =
      all_append _ (up_to v file entries tt (omega arith))
      (all_append _ (up_to (here-over (clears-to h r file p entries tt) v) segment entries tt (omega arith)) (up-freed v process p v.there refl))

  same-dropped : {C : ℕ → Bool} {r q : Addr → ℕ} → View.View h p C r q → (k : Kind) (d : ℕ) → Object k → leb entries d ≡ false
      → dropped h q k p d ≡ dropped h r k p d
  unfolding dropped
  same-dropped {r = r} v k d e l = rw (View.same-held v k d e l)
      (split _ (eqb (r (at process p (held_at k d))) 0)
      (λ z. rw z)
      (λ z. rw (same-given v k d (r (at process p (held_at k d))) e)))

  same-to : {C : ℕ → Bool} {r q : Addr → ℕ} → View.View h p C r q → (k : Kind) (n : ℕ) → Object k → n ≤ entries
      → dropped_to h q k p n ≡ dropped_to h r k p n
  unfolding dropped_to
  same-to v k zero e l = refl
  same-to {r = r} {q = q} v k (suc n) e l =
      rw (same-to v k n e (omega arith))
      (rw (same-dropped (view-over (clears-to h r k p n e) v) k n e (lt-leb entries n l)))

  same-released : {C : ℕ → Bool} {r q : Addr → ℕ} → View.View h p C r q → released h q p ≡ released h r p
  unfolding released
  same-released {r = r} v =
      rw (same-to v file entries tt (omega arith))
      (rw (same-to (view-over (clears-to h r file p entries tt) v) segment entries tt (omega arith)))

-- ---- the caller, and the process of its cell that it releases

up-other : {h : List ℕ} {p : ℕ} {r : Addr → ℕ} → View.Here h p r → (o : ℕ) → o < slots h process → cell_of h process o ≡ cell_of h process p
    → Ups h (cell_of h process p) (released h r o)
up-other v o l e = rw (← e) (up-released (record { shape = v.shape; there = l; reaching = v.reaching }))

same-other : {h : List ℕ} {p : ℕ} {C : ℕ → Bool} {r q : Addr → ℕ} → View.View h p C r q → (o : ℕ) → o < slots h process
    → cell_of h process o ≡ cell_of h process p → released h q o ≡ released h r o
same-other v o l e =
    same-released (record { here = record { shape = v.here.shape; there = l; reaching = v.here.reaching }; closed = v.closed; within = rw e v.within; seen = v.seen })

pub up02 : {h : List ℕ} {p : ℕ} {r : Addr → ℕ} → View.Here h p r → (a : ℕ) (buffer : List ℕ) → WritesUp h (cell_of h process p) (release_process h r p a buffer)
unfolding release_process
up02 v a buffer = search (up-rules, up-other v, View.formed-in, View.same-cell) depth 12

pub alike02 : {h : List ℕ} {p : ℕ} {C : ℕ → Bool} {r q : Addr → ℕ} → View.View h p C r q → (a : ℕ) (buffer : List ℕ)
    → Alike h C (release_process h r p a buffer) (release_process h q p a buffer)
unfolding release_process
alike02 v a buffer =
    search (
      alike-rules,
      View.same_self v,
      View.same-me v,
      View.same-below v,
      View.same-present v,
      same-other v,
      View.formed-in,
      View.own-flows v.here,
      View.same-cell,
    ) depth 12
