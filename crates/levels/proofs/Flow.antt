-- Flow between levels is an order: reflexive, transitive, and antisymmetric up to equality.
use mathlib.Core.Bool.{true, ◌&&◌}
use mathlib.Core.Path.{◌≡◌, sym, ◌∙◌}
use Prim.Native.Nat.{ℕ, ◌^◌, ◌<◌, ◌≤◌}
use native.Mathlib.Nat.{le_refl, le_trans, le_antisymm}
use lib.Bits.{bit_and, and_comm}
use lib.Dec.{leb, eqb}
use borrow.Author.Tests.{leb-true, le-leb, eqb-true, eq-eqb}
use Rattle.rules.specs.Level.{Level, has, within, equals, flows_to}
use Rattle.laws.proofs.Tests.{and_left, and_right, and_both}
use Rattle.levels.proofs.Bits.{within-at, within_of, has-and, and-within}

-- the test on the levels' words is the rule
pub by-words : (a b : Level) → a.compartments < 2 ^ 32
    → (leb a.security b.security && (eqb (bit_and a.compartments b.compartments) a.compartments && leb b.integrity a.integrity)) ≡ flows_to a b
unfolding flows_to
by-words a b l = rw (and-within a.compartments b.compartments l)

-- the rule in words: what the test `flows_to` says
pub record Flows (a b : Level) : Type 0 where
  pub secure : a.security ≤ b.security
  pub inside : (k : ℕ) → k < 32 → has a.compartments k ≡ true → has b.compartments k ≡ true
  pub trusty : b.integrity ≤ a.integrity

pub flows-says : (a b : Level) → flows_to a b ≡ true → Flows a b
unfolding flows_to
flows-says a b e =
    let rest : (within a.compartments b.compartments && leb b.integrity a.integrity) ≡ true
    = and_right (leb a.security b.security) _ e in
    record {
      secure = leb-true _ _ (and_left (leb a.security b.security) _ e);
      inside = within-at a.compartments b.compartments (and_left (within a.compartments b.compartments) _ rest);
      trusty = leb-true _ _ (and_right (within a.compartments b.compartments) (leb b.integrity a.integrity) rest);
    }

pub flows-when : (a b : Level) → Flows a b → flows_to a b ≡ true
unfolding flows_to
flows-when a b f =
    and_both (leb a.security b.security) _ (le-leb _ _ f.secure)
    (and_both (within a.compartments b.compartments) _ (within_of _ _ f.inside) (le-leb _ _ f.trusty))

-- the test `equals` says that the three words are equal
pub record Equal (a b : Level) : Type 0 where
  pub security : a.security ≡ b.security
  pub integrity : a.integrity ≡ b.integrity
  pub compartments : a.compartments ≡ b.compartments

pub equals-says : (a b : Level) → equals a b ≡ true → Equal a b
unfolding equals
equals-says a b e =
    let rest : (eqb a.integrity b.integrity && eqb a.compartments b.compartments) ≡ true
    = and_right (eqb a.security b.security) _ e in
    record {
      security = eqb-true _ _ (and_left (eqb a.security b.security) _ e);
      integrity = eqb-true _ _ (and_left (eqb a.integrity b.integrity) _ rest);
      compartments = eqb-true _ _ (and_right (eqb a.integrity b.integrity) _ rest);
    }

pub equals-when : (a b : Level) → Equal a b → equals a b ≡ true
unfolding equals
equals-when a b e =
    and_both (eqb a.security b.security) _ (eq-eqb _ _ e.security)
    (and_both (eqb a.integrity b.integrity) _ (eq-eqb _ _ e.integrity) (eq-eqb _ _ e.compartments))

-- two levels are equal by the test exactly where they are one level
pub equals-one : (a b : Level) → equals a b ≡ true → a ≡ b
equals-one a b e =
    let q = equals-says a b e in
    λ i. record { security = q.security i; integrity = q.integrity i; compartments = q.compartments i }

pub reflexive : (a : Level) → flows_to a a ≡ true
reflexive a = flows-when a a (record { secure = le_refl _; inside = λ k l p. p; trusty = le_refl _ })

pub transitive : (a b c : Level) → flows_to a b ≡ true → flows_to b c ≡ true → flows_to a c ≡ true
transitive a b c p q =
    let f = flows-says a b p in
    let g = flows-says b c q in
    flows-when a c
    (record {
      secure = le_trans f.secure g.secure;
      inside = λ k l h. g.inside k l (f.inside k l h);
      trusty = le_trans g.trusty f.trusty;
    })

-- of levels whose compartments are words
pub antisymmetric : (a b : Level) → a.compartments < 2 ^ 32 → b.compartments < 2 ^ 32 → flows_to a b ≡ true → flows_to b a ≡ true → equals a b ≡ true
antisymmetric a b l m p q =
    let f = flows-says a b p in
    let g = flows-says b a q in
    equals-when a b
    (record {
      security = le_antisymm f.secure g.secure;
      integrity = le_antisymm g.trusty f.trusty;
      compartments =
          sym (has-and 32 a.compartments b.compartments l f.inside)
          ∙ and_comm a.compartments b.compartments
          ∙ has-and 32 b.compartments a.compartments m g.inside;
    })
