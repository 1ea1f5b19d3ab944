-- Subtypes, 02, CR 11: what their identifiers say, that they are no objects, what a descriptor that holds one says; and call 8 by what it opens.
use mathlib.Core.Path.{◌≡◌, refl, sym, ◌∙◌}
use mathlib.Core.Bool.{Bool, true, false, ◌||◌, not}
use mathlib.Core.List.{List}
use Prim.Native.Nat.{ℕ, ◌≤◌, ◌<◌}
use native.Mathlib.Omega.{arith}
use lib.Dec.{ltb, eqb}
use borrow.Author.Tests.{ltb-false, eqb-true, eqb-false, eq-eqb, ne_eqb}
use Rattle.rules.specs.Claim.{Holds}
use Rattle.rules.specs.Layout.{Kind, process, segment, file, slots, subtypes, Addr, entries}
use Rattle.rules.specs.Seid.{class, class_of, subtype_class, index_of, serial_of, or_self, formed, is_subtype, formed_subtype, names_subtype}
use Rattle.rules.specs.WellFormed.{holds_subtype, file_subtype_ok}
use Rattle.rules.specs.Rule.{Rule}
use Rattle.rules.specs.Subtype.{held_by, no_subtype}
use Rattle.rules.specs.Call08.{open_file, open_subtype, open_seid}
use Rattle.laws.proofs.Tests.{and_left, and_right, and_both, or_left, or_right, passed, refuted, both_ways, cond_both}
use Rattle.laws.proofs.Seids.{class-some, class-pos, is-formed}
use Rattle.laws.proofs.Shape.{Object}

-- ---- their identifiers

pub record Named (h : List ℕ) (s : ℕ) : Type 0 where
  pub class-is : class_of s ≡ subtype_class
  pub index_in : index_of s < subtypes h
  pub serial-one : serial_of s ≡ 1

module _ (h : List ℕ) (s : ℕ) where
  pub is-named : names_subtype h s ≡ true → Named h s
  unfolding names_subtype
  is-named e =
      let f = is-formed subtype_class (subtypes h) s (and_left (formed_subtype h s) (eqb (serial_of s) 1) e) in
      record { class-is = f.class-is; index_in = f.index_in; serial-one = eqb-true _ 1 (and_right (formed_subtype h s) (eqb (serial_of s) 1) e) }

  -- one that is formed, with serial 1
  pub names-it : formed_subtype h s ≡ true → eqb (serial_of s) 1 ≡ true → names_subtype h s ≡ true
  unfolding names_subtype
  names-it f e = and_both (formed_subtype h s) (eqb (serial_of s) 1) f e

  -- its class tells it from a file
  pub named-subtype : names_subtype h s ≡ true → is_subtype s ≡ true
  named-subtype e = eq-eqb (class_of s) subtype_class (is-named e).class-is

-- ---- they are no objects

other-class : (k : Kind) → class k ≡ subtype_class → ⊥
other-class process e = omega (arith, e)
other-class segment e = omega (arith, e)
other-class file e = omega (arith, e)

-- what has the class of an object is no subtype
pub not-subtype : (k : Kind) (s : ℕ) → class_of s ≡ class k → is_subtype s ≡ false
not-subtype k s e = ne_eqb (class_of s) subtype_class (λ z. other-class k (sym e ∙ z))

pub names-none : (h : List ℕ) (k : Kind) (s : ℕ) → class_of s ≡ class k → names_subtype h s ≡ false
names-none h k s e = refuted (names_subtype h s) (λ t. both_ways (is_subtype s) (named-subtype h s t) (not-subtype k s e))

-- but an object's
pub class-object : (k : Kind) (s : ℕ) → class_of s ≡ class k → Object k s
class-object k s e = (class-some s (class k) (class-pos k) e, plain k e)
  where
    plain : (k : Kind) → class_of s ≡ class k → holds_subtype k s ≡ false
    plain process e = refl
    plain segment e = refl
    plain file e = not-subtype file s e

pub no-object : (k : Kind) (s : ℕ) → holds_subtype k s ≡ true → class_of s ≡ class k → ⊥
no-object k s t e = both_ways (holds_subtype k s) t (class-object k s e).1

-- so no object's identifier
pub not-formed : (h : List ℕ) (k : Kind) (s : ℕ) → holds_subtype k s ≡ true → formed h k s ≡ false
not-formed h k s t = refuted (formed h k s) (λ e. no-object k s t (is-formed (class k) (slots h k) s e).class-is)

-- ---- a descriptor that c names

pub record Names (r : Addr → ℕ) (p c : ℕ) : Type 0 where
  pub some : c ≡ 0 → ⊥
  pub in-record : c ≤ entries
  pub holds-one : is_subtype (held_by r p c) ≡ true

pub names-one : (r : Addr → ℕ) (p c : ℕ) → no_subtype r p c ≡ false → Names r p c
unfolding no_subtype
names-one r p c e =
    let rest : Bool = ltb entries c || not (is_subtype (held_by r p c)) in
    let x = or_right (eqb c 0) rest e in
    record {
      some = eqb-false c 0 (or_left (eqb c 0) rest e);
      in-record = ltb-false entries c (or_left (ltb entries c) (not (is_subtype (held_by r p c))) x);
      holds-one = passed (is_subtype (held_by r p c)) (or_right (ltb entries c) (not (is_subtype (held_by r p c))) x);
    }

-- ---- a file's word

-- it may be 0
pub unsubtyped : (h : List ℕ) (f s : ℕ) → s ≡ 0 → Holds (file_subtype_ok h f s)
unfolding file_subtype_ok
unsubtyped h f s z n = both_ways (not (eqb s 0)) n (rw (eq-eqb s 0 z))

-- ---- call 8

-- by the class of what is opened
pub by-opened : (h : List ℕ) (r : Addr → ℕ) (p a b c : ℕ) (buffer : List ℕ) (P : Rule → Type 0) → let s : ℕ = or_self r p a in
    (is_subtype s ≡ true → P (open_subtype h r p s b buffer)) → (is_subtype s ≡ false → P (open_file h r p s b c buffer)) → P (open_seid h r p a b c buffer)
unfolding open_seid
by-opened h r p a b c buffer P = let s : ℕ = or_self r p a in cond_both P (is_subtype s) (open_subtype h r p s b buffer) (open_file h r p s b c buffer)
