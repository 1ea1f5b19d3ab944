-- What the code sees of an object leads to the rule's refusals: "find" and "own", over the kind.
use mathlib.Core.Path.{◌≡◌, refl, ap}
use mathlib.Core.Bool.{Bool, true, false, not, cond}
use mathlib.Core.List.{List, ◌∷◌, ◌++◌}
use Prim.Native.Nat.{ℕ, ◌<◌}
use native.Mathlib.Omega.{arith}
use lib.Dec.{eqb}
use Rattle.rules.specs.Layout.{Kind, process, segment, file, configuration, slots, at, owner}
use Rattle.rules.specs.Seid.{class, index_of, is_seid, formed, present}
use Rattle.rules.specs.Rule.{Refusal, ◌⇒◌, first_refusal}
use Rattle.rules.specs.Errors.{XnoAcc, XnoOwner}
use Rattle.rules.specs.Find.{absent, find, own, in_own_cell}
use Rattle.laws.proofs.Tests.{passed}
use Rattle.laws.proofs.Seids.{is-formed}
use Rattle.layout.specs.declared.Header.{Header}
use Rattle.layout.specs.Header.{slots_of}
use Rattle.calls.specs.declared.objects.Seen.{Seen}
use Rattle.calls.specs.World.{Known, words_of}
use Rattle.calls.specs.Seen.{name_of, named_of, seen_as, unseen, seen_of, find_tests, own_tests}
use Rattle.calls.proofs.Worlds.{slots-is}
use Rattle.laws.proofs.Refusals.{numbered}
use Rattle.calls.proofs.Refusals.{past}

-- the tests of "find" and "own" have numbers
pub find-numbered : (x : Seen) (k : Kind) (f : Bool) (ys : List Refusal) → numbered ys ≡ true → numbered (find_tests x k f ++ ys) ≡ true
find-numbered x process f ys n = n
find-numbered x segment f ys n = n
find-numbered x file f ys n = n

pub own-numbered : (x : Seen) (k : Kind) → numbered (own_tests x k) ≡ true
own-numbered x process = refl
own-numbered x segment = refl
own-numbered x file = refl

-- what goes by a seid's class goes by the kind that it names
pub by_kind : {A : Type 0} (f : Kind → A) (b c : Bool) → f (cond b process (cond c segment file)) ≡ cond b (f process) (cond c (f segment) (f file))
by_kind f true c = refl
by_kind f false true = refl
by_kind f false false = refl

-- what process p sees of the seid s
module _ {t : List ℕ} {n : Header} (known : Known t n) (p : ℕ) (k : Kind) (s : ℕ) {x : Seen} (seen : x ≡ seen_of (configuration t) (words_of t) p k (named_of n k s)) where
  by_form : (b : Bool) → formed (configuration t) k s ≡ b → (x.formed ≡ b) × (b ≡ true → x ≡ seen_as (configuration t) (words_of t) p k (name_of s))
  unfolding named_of
  by_form true e =
      let f : is_seid (class k) (slots_of n k) s ≡ true = rw (slots-is known k) e in
      let q : x ≡ seen_as (configuration t) (words_of t) p k (name_of s) = rw f at seen in
      (ap (λ (y : Seen). y.formed) q, λ _. q)
  by_form false e =
      let f : is_seid (class k) (slots_of n k) s ≡ false = rw (slots-is known k) e in
      let q : x ≡ unseen = rw f at seen in
      (ap (λ (y : Seen). y.formed) q, λ z. absurd (let w : ◌≡◌ {A = ℕ} 0 1 = cc in omega arith))

  -- what has no form isn't seen
  pub unseen-is : formed (configuration t) k s ≡ false → x ≡ unseen
  unfolding named_of
  unseen-is e = let f : is_seid (class k) (slots_of n k) s ≡ false = rw (slots-is known k) e in rw f at seen

  pub formed-is : x.formed ≡ formed (configuration t) k s
  formed-is = (by_form (formed (configuration t) k s) refl).0

  pub seen-formed : formed (configuration t) k s ≡ true → x ≡ seen_as (configuration t) (words_of t) p k (name_of s)
  seen-formed f = (by_form (formed (configuration t) k s) refl).1 f

  pub slot_is : formed (configuration t) k s ≡ true → x.slot ≡ index_of s
  slot_is f = ap (λ (y : Seen). y.slot) (seen-formed f)

  pub own_is : formed (configuration t) k s ≡ true → x.own ≡ in_own_cell (configuration t) p k s
  own_is f = ap (λ (y : Seen). y.own) (seen-formed f)

  pub slot-in : formed (configuration t) k s ≡ true → x.slot < slots (configuration t) k
  slot-in f = omega (arith, slot_is f, (is-formed (class k) (slots (configuration t) k) s f).index_in)

  -- "find" with what follows; what is forbidden, and what follows, may be known by the form
  pub find_first : (b c : Bool) (ys zs : List Refusal) → (formed (configuration t) k s ≡ true → b ≡ c)
      → (formed (configuration t) k s ≡ true → first_refusal ys ≡ first_refusal zs)
      → first_refusal (find_tests x k b ++ ys) ≡ first_refusal (find (configuration t) (words_of t) k s c ++ zs)
  unfolding present
  find_first b c ys zs be rest =
      rw formed-is
      (past (not (formed (configuration t) k s)) (absent k) ((b ⇒ XnoAcc) ∷ (not x.present ⇒ absent k) ∷ ys)
      ((c ⇒ XnoAcc) ∷ (not (present (words_of t) k s) ⇒ absent k) ∷ zs)
      (λ e. let f = passed (formed (configuration t) k s) e in rw (be f, seen-formed f, rest f)))

  pub own_first : (ys zs : List Refusal) → (formed (configuration t) k s ≡ true → first_refusal ys ≡ first_refusal zs)
      → first_refusal (own_tests x k ++ ys) ≡ first_refusal (own (configuration t) (words_of t) p k s ++ zs)
  own_first ys zs rest =
      find_first (not x.own) (not (in_own_cell (configuration t) p k s)) ((not x.mine ⇒ XnoOwner) ∷ ys)
      ((not (eqb (words_of t (at k (index_of s) owner)) (words_of t (at process p owner))) ⇒ XnoOwner) ∷ zs) (λ f. rw (own_is f)) (λ f. rw (seen-formed f, rest f))

  -- past "find" the seid is formed
  pub form-past : not x.formed ≡ false → formed (configuration t) k s ≡ true
  form-past z = passed (formed (configuration t) k s) (rw formed-is at z)
