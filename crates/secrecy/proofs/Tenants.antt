-- 02, CR 14, "More than one pair of eyes": tenants who talk to each other see what flows to one of them, and nothing else (`tenants-see`). The set of cells that flow to one of
-- theirs is closed, holds their own, and is the least that does. One observer is the set of one tenant.
use mathlib.Core.Path.{◌≡◌, refl}
use mathlib.Core.Bool.{Bool, true, ◌&&◌}
use mathlib.Core.List.{List}
use Prim.Native.Nat.{ℕ, ◌<◌}
use lib.Dec.{eqb}
use borrow.Author.Tests.{eqb-true, eq-eqb}
use Rattle.rules.specs.Layout.{cells, configuration, flows}
use Rattle.rules.specs.Step.{State, Call, run}
use Rattle.rules.specs.Observer.{observer, tenants, Closed, Agree, stays, replies}
use Rattle.rules.specs.Regrade.{events, guard_within, NamesNone}
use Rattle.rules.specs.Tray.{Record, after_tray}
use Rattle.rules.specs.TrayRegrade.{calls_in, events_in}
use Rattle.laws.proofs.Tests.{and_left, and_right, and_both}
use Rattle.laws.proofs.Below.{some_of, some-where}
use Rattle.kept.proofs.Kept.{Well}
use Rattle.secrecy.proofs.CellFlow.{flows-refl, flows-trans}
use Rattle.secrecy.proofs.Demand3.{as-asked}
use Rattle.secrecy.proofs.Viewed.{read, SameView, view-alike}
use Rattle.secrecy.proofs.Tray as trays
use Rattle.secrecy.proofs.Tray.{Premises, SameTrays}

module _ (h : List ℕ) (T : ℕ → Bool) where
  -- a cell that flows to a tenant's is in it
  pub flows-in : (c d : ℕ) → d < cells h → T d ≡ true → flows h c d ≡ true → tenants h T c ≡ true
  unfolding tenants
  flows-in c d l t f = some_of (cells h) (λ d. T d && flows h c d) d l (and_both (T d) (flows h c d) t f)

  -- and no other
  pub flows-out : (c : ℕ) → tenants h T c ≡ true → (d : ℕ) × (d < cells h) × (T d ≡ true) × (flows h c d ≡ true)
  unfolding tenants
  flows-out c e =
      let x = some-where (cells h) (λ d. T d && flows h c d) e in
      (x.0, x.1, and_left (T x.0) (flows h c x.0) x.2, and_right (T x.0) (flows h c x.0) x.2)

  -- with each cell it holds every cell flowing to it
  pub tenants-closed : Closed h (tenants h T)
  tenants-closed c d f e = let x = flows-out d e in flows-in c x.0 x.1 x.2 (flows-trans h c d x.0 f x.3)

  -- it holds the tenants' cells
  pub tenants-held : (c : ℕ) → c < cells h → T c ≡ true → tenants h T c ≡ true
  tenants-held c l t = flows-in c c l t (flows-refl h c l)

  -- and lies in every closed set that does
  pub tenants-least : (C : ℕ → Bool) → Closed h C → ((c : ℕ) → c < cells h → T c ≡ true → C c ≡ true) → (c : ℕ) → tenants h T c ≡ true → C c ≡ true
  tenants-least C cl held c e = let x = flows-out c e in cl c x.0 x.3 (held x.0 x.1 x.2)

-- one observer is one tenant
module _ (h : List ℕ) (o : ℕ) (l : o < cells h) where
  pub one-tenant : (c : ℕ) → observer h o c ≡ true → tenants h (eqb o) c ≡ true
  one-tenant c = flows-in h (eqb o) c o l (eq-eqb o o refl)

  pub tenant-one : (c : ℕ) → tenants h (eqb o) c ≡ true → observer h o c ≡ true
  tenant-one c e = let x = flows-out h (eqb o) c e in rw (eqb-true o x.0 x.2) x.3

-- Demand 3 for tenants of the cells T
pub tenants-see : (T : ℕ → Bool) (s t : State) → Well s → Well t → let C : ℕ → Bool = tenants (configuration s.table) T in let h : List ℕ = configuration s.table in
    Agree C s t → (ks js : List Call) → events h C s ks ≡ events h C t js → (guard_within h C ≡ true → NamesNone h C ks)
    → (replies h C s ks ≡ replies h C t js) × Agree C (run s ks) (run t js)
tenants-see T s t ws wt = as-asked (tenants (configuration s.table) T) s t ws wt (tenants-closed (configuration s.table) T)

-- and of trays
pub tenants-trays : (T : ℕ → Bool) (s t : State) → Well s → Well t → let C : ℕ → Bool = tenants (configuration s.table) T in let h : List ℕ = configuration s.table in
    Agree C s t → (rs qs : List Record) (x y : List ℕ) → Premises h C rs qs x y → events_in h C s x rs ≡ events_in h C t y qs
    → (guard_within h C ≡ true → NamesNone h C (calls_in rs)) → SameTrays h C rs (after_tray s x rs) (after_tray t y qs)
tenants-trays T s t ws wt = trays.as-asked (tenants (configuration s.table) T) s t ws wt (tenants-closed (configuration s.table) T)

-- and of views
pub tenants-views : (T : ℕ → Bool) (s t : State) → Well s → Well t → let C : ℕ → Bool = tenants (configuration s.table) T in let h : List ℕ = configuration s.table in
    Agree C s t → (p a b : ℕ) → stays h C (read p a b) ≡ true → SameView s t p a b
tenants-views T s t ws wt = view-alike (tenants (configuration s.table) T) s t ws wt (tenants-closed (configuration s.table) T)
