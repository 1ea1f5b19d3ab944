-- Call 19 writes the caller's own pages and reads down.
use mathlib.Core.Path.{◌≡◌, refl, sym, ap}
use mathlib.Core.Bool.{Bool, true, false, ◌&&◌, ◌||◌, not}
use mathlib.Core.List.{List, []}
use Prim.Native.Nat.{ℕ, ◌+◌, ◌<◌}
use native.Mathlib.Omega.{arith}
use lib.Dec.{ltb, leb, eqb}
use borrow.Author.Tests.{lt-leb, ltb-true, ltb-false}
use Rattle.rules.specs.Layout.{process, segment, cell_of, Addr, at, entries, held_at, pages, page_at, size}
use Rattle.rules.specs.Seid.{index_of}
use Rattle.rules.specs.Find.{stale, page_left, pages_set}
use Rattle.rules.specs.Rule.{Word, effect}
use Rattle.rules.specs.Call19.{named, vacant, is_mapped, pages_of, conflict, page_taken, remapped, remap}
use Rattle.laws.proofs.Tests.{split}
use Rattle.laws.proofs.Below.{some_same}
use Rattle.secrecy.proofs.Shown.{up-rules, WritesUp, Alike, alike-test, alike-effect, same_effect}
use Rattle.secrecy.proofs.View
use Rattle.secrecy.proofs.Give.{up-pages, same-page, same_left, same-pages}

pub up19 : {h : List ℕ} {p : ℕ} {r : Addr → ℕ} → View.Here h p r → (a b c : ℕ) (buffer : List ℕ) → WritesUp h (cell_of h process p) (remap h r p a b c buffer)
unfolding remap
up19 v a b c buffer = search (up-rules, up-pages v) depth 12

-- a designator that is named has an entry
entry_in : (d : ℕ) → named d ≡ true → leb entries d ≡ false
entry_in d t = lt-leb entries d (ltb-true d entries t)

module _ {h : List ℕ} {p : ℕ} {C : ℕ → Bool} {r q : Addr → ℕ} (v : View.View h p C r q) where
  same-vacant : (d : ℕ) → named d && vacant q p d ≡ named d && vacant r p d
  same-vacant d = split _ (named d) (λ t. rw (t, View.same-held v segment d tt (entry_in d t))) (λ t. rw t)

  same-mapped : (f f' : ℕ → ℕ) (d : ℕ) → ((g : ℕ) → g < pages → f g ≡ f' g) → is_mapped f d ≡ is_mapped f' d
  unfolding is_mapped
  same-mapped f f' d e = some_same pages _ _ (λ g l. rw (e g l))

  -- where the run passes the last page, no page is looked at
  same-conflict : (f f' : ℕ → ℕ) (b n : ℕ) → ((g : ℕ) → g < pages → f g ≡ f' g) → conflict f b n ≡ conflict f' b n
  unfolding conflict
  same-conflict f f' b n e = split _ (ltb pages (b + n))
      (λ t. rw t)
      (λ t. rw (
        t,
        some_same n (λ i. not (eqb (f (b + i)) 0)) (λ i. not (eqb (f' (b + i)) 0))
            (λ i l. let in_map : b + i < pages = omega (arith, ltb-false pages (b + n) t) in rw (e (b + i) in_map)),
      ))

  module _ (a b c : ℕ) (named-a : named a ≡ true) where
    held : q (at process p (held_at segment a)) ≡ r (at process p (held_at segment a))
    held = View.same-held v segment a tt (entry_in a named-a)

    same-stale : stale h q segment (q (at process p (held_at segment a))) ≡ stale h r segment (r (at process p (held_at segment a)))
    same-stale = rw held (View.same-stale v segment a tt (entry_in a named-a))

  -- an incoming one that isn't stale
  module _ (a b c : ℕ) (named-a : named a ≡ true) (current : stale h r segment (r (at process p (held_at segment a))) ≡ false) where
    same-run : pages_of q (q (at process p (held_at segment a))) ≡ pages_of r (r (at process p (held_at segment a)))
    unfolding pages_of
    same-run = rw (
      held a b c named-a,
      View.same-below v segment (index_of (r (at process p (held_at segment a)))) size
          (View.held_in v.here segment a tt (entry_in a named-a) current) refl (View.held-flows v.here segment a tt (entry_in a named-a) current),
    )

    same_taken : (g : ℕ) → g < pages → remapped q p a b c g ≡ remapped r p a b c g
    unfolding remapped page_taken
    same_taken g l = rw (named-a, same-run, same_left v c g l)

  same-gone : (a b c : ℕ) → named a ≡ false → (g : ℕ) → g < pages → remapped q p a b c g ≡ remapped r p a b c g
  unfolding remapped
  same-gone a b c t g l = rw (t, same_left v c g l)

  -- the same for an incoming one, or none
  same-remapped : (a b c : ℕ) → (named a ≡ true → stale h r segment (r (at process p (held_at segment a))) ≡ false) → (g : ℕ) → g < pages
      → remapped q p a b c g ≡ remapped r p a b c g
  same-remapped a b c current g l = split _ (named a) (λ t. same_taken a b c t (current t) g l) (λ t. same-gone a b c t g l)

pub alike19 : {h : List ℕ} {p : ℕ} {C : ℕ → Bool} {r q : Addr → ℕ} → View.View h p C r q → (a b c : ℕ) (buffer : List ℕ)
    → Alike h C (remap h r p a b c buffer) (remap h q p a b c buffer)
unfolding remap
alike19 {h} {p} {C} {r} {q} v a b c buffer =
    let vacants : (named a && vacant r p a) || (named c && vacant r p c) ≡ (named a && vacant q p a) || (named c && vacant q p c) = rw (same-vacant v a, same-vacant v c) in
    let old : named a && stale h r segment (r (at process p (held_at segment a))) ≡ named a && stale h q segment (q (at process p (held_at segment a))) =
    split _ (named a) (λ t. rw (t, same-stale v a b c t)) (λ t. rw t) in
    alike-test refl refl (λ x1. alike-test refl vacants (λ x2. alike-test refl old (λ x3.
    let current : named a ≡ true → stale h r segment (r (at process p (held_at segment a))) ≡ false = λ t. rw t at x3 in
    let out : named c && not (is_mapped (λ g. r (at process p (page_at g))) c) ≡ named c && not (is_mapped (λ g. q (at process p (page_at g))) c) =
    rw (same-mapped v (λ g. q (at process p (page_at g))) (λ g. r (at process p (page_at g))) c (same-page v)) in
    let still : named a && is_mapped (page_left r p c) a ≡ named a && is_mapped (page_left q p c) a = rw (same-mapped v (page_left q p c) (page_left r p c) a (same_left v c)) in
    let meets : named a && conflict (page_left r p c) b (pages_of r (r (at process p (held_at segment a)))) ≡ named a && conflict (page_left q p c) b
    (pages_of q (q (at process p (held_at segment a)))) =
    split _ (named a) (λ t. rw (t, same-run v a b c t (current t), same-conflict v (page_left q p c) (page_left r p c) b _ (same_left v c))) (λ t. rw t) in
    let pages-same : pages_set p (remapped r p a b c) ≡ pages_set p (remapped q p a b c) =
    sym (same-pages v (remapped q p a b c) (remapped r p a b c) (same-remapped v a b c current)) in
    alike-test refl out (λ x4. alike-test refl still (λ x5. alike-test refl meets (λ x6.
    alike-effect (same_effect (ap (λ (ws : List Word). effect 0 0 buffer ws []) pages-same))))))))
