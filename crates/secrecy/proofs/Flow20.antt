-- Call 20 writes nothing and reads down: it reads the caller's own page, and then as call 18 does.
use mathlib.Core.Path.{◌≡◌, refl}
use mathlib.Core.Bool.{Bool}
use mathlib.Core.List.{List, ◌∷◌}
use Prim.Native.Nat.{ℕ, ◌-◌}
use lib.Dec.{eqb}
use Rattle.rules.specs.Layout.{process, cell_of, Addr, at, page_at}
use Rattle.rules.specs.Errors.{XbSgDes}
use Rattle.rules.specs.Rule.{◌⇒◌, rule}
use Rattle.rules.specs.Call18.{access_of}
use Rattle.rules.specs.Call20.{page_access}
use Rattle.secrecy.proofs.Shown.{WritesUp, up-test, Alike, alike-test}
use Rattle.secrecy.proofs.View
use Rattle.secrecy.proofs.Give.{page-seen}
use Rattle.secrecy.proofs.Flow18.{up18, alike18}

pub up20 : {h : List ℕ} {p : ℕ} {r : Addr → ℕ} → View.Here h p r → (a : ℕ) (buffer : List ℕ) → WritesUp h (cell_of h process p) (page_access h r p a buffer)
unfolding page_access
up20 {r = r} v a buffer = up-test refl (λ x1. up-test refl (λ x2. up18 v _ buffer))

-- the page's word, and the rest
alike-page : {h : List ℕ} {p : ℕ} {C : ℕ → Bool} {r q : Addr → ℕ} → View.View h p C r q → (w u : ℕ) (buffer : List ℕ) → u ≡ w
    → Alike h C (rule ((eqb w 0 ⇒ XbSgDes) ∷ (access_of h r p (w - 1) buffer).refusals) (access_of h r p (w - 1) buffer).effects)
    (rule ((eqb u 0 ⇒ XbSgDes) ∷ (access_of h q p (u - 1) buffer).refusals) (access_of h q p (u - 1) buffer).effects)
alike-page v w u buffer e = rw e (alike-test refl refl (λ x2. alike18 v (w - 1) buffer))

pub alike20 : {h : List ℕ} {p : ℕ} {C : ℕ → Bool} {r q : Addr → ℕ} → View.View h p C r q → (a : ℕ) (buffer : List ℕ)
    → Alike h C (page_access h r p a buffer) (page_access h q p a buffer)
unfolding page_access
alike20 {p = p} {r = r} {q = q} v a buffer = alike-test refl refl (λ x1. alike-page v (r (at process p (page_at a))) (q (at process p (page_at a))) buffer (page-seen v a x1))
