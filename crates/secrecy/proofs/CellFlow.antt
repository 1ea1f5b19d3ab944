-- Flow between cells is reflexive and transitive, so the cells that flow to one are a closed set.
use mathlib.Core.Path.{◌≡◌}
use mathlib.Core.Bool.{true, ◌&&◌}
use mathlib.Core.List.{List}
use Prim.Native.Nat.{ℕ, ◌<◌}
use lib.Dec.{ltb}
use borrow.Author.Tests.{lt-ltb}
use Rattle.rules.specs.Level.{flows_to}
use Rattle.rules.specs.Layout.{cells, level_of, flows}
use Rattle.rules.specs.Observer.{observer, Closed}
use Rattle.laws.proofs.Tests.{and_left, and_right}
use Rattle.levels.proofs.Flow.{reflexive, transitive}

record Flows (h : List ℕ) (c d : ℕ) : Type 0 where
  from : ltb c (cells h) ≡ true
  to : ltb d (cells h) ≡ true
  flow : flows_to (level_of h c) (level_of h d) ≡ true

flows-is : (h : List ℕ) (c d : ℕ) → flows h c d ≡ true → Flows h c d
unfolding flows
flows-is h c d e =
    let rest = and_right (ltb c (cells h)) (ltb d (cells h) && flows_to (level_of h c) (level_of h d)) e in
    record {
      from = and_left (ltb c (cells h)) (ltb d (cells h) && flows_to (level_of h c) (level_of h d)) e;
      to = and_left (ltb d (cells h)) (flows_to (level_of h c) (level_of h d)) rest;
      flow = and_right (ltb d (cells h)) (flows_to (level_of h c) (level_of h d)) rest;
    }

is-flows : (h : List ℕ) (c d : ℕ) → Flows h c d → flows h c d ≡ true
unfolding flows
is-flows h c d f = rw (f.from, f.to) f.flow

pub flows-refl : (h : List ℕ) (c : ℕ) → c < cells h → flows h c c ≡ true
flows-refl h c l = let t = lt-ltb c (cells h) l in is-flows h c c (record { from = t; to = t; flow = reflexive (level_of h c) })

pub flows-trans : (h : List ℕ) (c d e : ℕ) → flows h c d ≡ true → flows h d e ≡ true → flows h c e ≡ true
flows-trans h c d e p q =
    let x = flows-is h c d p in
    let y = flows-is h d e q in
    is-flows h c e (record { from = x.from; to = y.to; flow = transitive (level_of h c) (level_of h d) (level_of h e) x.flow y.flow })

-- so the cells that flow to an observer's are closed: a cell that flows to one of them is one
pub observer-closed : (h : List ℕ) (o : ℕ) → Closed h (observer h o)
observer-closed h o c d = flows-trans h c d o
