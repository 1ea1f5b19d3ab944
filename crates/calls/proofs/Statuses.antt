-- Status: what refuses it, its sixteen bytes, and which kind's rule a seid's class asks for.
use mathlib.Core.Path.{◌≡◌, refl, sym, ap, ◌∙◌, subst}
use mathlib.Core.Bool.{Bool, true, false, not}
use mathlib.Core.List.{List, [], ◌∷◌, ◌++◌}
use Prim.Native.Nat.{ℕ, ◌<◌}
use native.Mathlib.Omega.{arith}
use lib.Dec.{eqb}
use lib.ListN.{length}
use borrow.Author.Tests.{lt-ltb, eqb-true}
use Rattle.std.specs.Prelude.{Result, Ok, IsErr, IsErrAnd}
use Rattle.rules.specs.Claim.{Holds}
use Rattle.rules.specs.Level.{Level}
use Rattle.rules.specs.WellFormed.{configured}
use Rattle.levels.specs.declared.Level as Code
use Rattle.levels.specs.Rule.{rule_level, level_at}
use Rattle.rules.specs.Layout.{level_of, cell_word, Kind, process, segment, file, cells, configuration, cell_of, Addr, at, owner, group, bits}
use Rattle.rules.specs.Seid.{class, class_of, index_of, formed, present, or_self}
use Rattle.rules.specs.Errors.{XbSz}
use Rattle.rules.specs.Rule.{Refusal, ◌⇒◌, Rule, first_refusal}
use Rattle.rules.specs.Call17.{status_bytes, told, status_of, status}
use Rattle.laws.proofs.Tests.{passed}
use Rattle.laws.proofs.Shape.{in-run, shape_of}
use Rattle.layout.specs.declared.Header.{Header}
use Rattle.calls.specs.declared.Answer.{Answer}
use Rattle.calls.specs.declared.Caller.{Caller}
use Rattle.calls.specs.declared.objects.Seen.{Seen}
use Rattle.calls.specs.World.{Sound, words_of}
use Rattle.calls.specs.Seen.{named_of, kind_by, seen_of, find_tests}
use Rattle.calls.specs.declared.error.Error.{Error}
use Rattle.calls.specs.Refusing.{number_of}
use Rattle.calls.specs.Left as call
use Rattle.calls.specs.Left.{rule_at, answer_of, buffer_of}
use Rattle.calls.specs.Told.{told_at}
use Rattle.calls.proofs.Worlds.{shape}
use Rattle.laws.proofs.Refusals.{Clear, clear}
use Rattle.calls.proofs.Refused.{stopped, later, answer-stopped}
use Rattle.calls.proofs.Looks.{find-numbered, by_kind, formed-is, seen-formed, slot_is, slot-in}
use Rattle.calls.proofs.Leaves.{refusal-some, answer-done, buffer-refused, buffer-done}

-- what a status call leaves: the answer and the buffer of a rule
abbrev pub Shown : Rule → List ℕ → Answer → List ℕ → Type 0
Shown k b r z = (r ≡ answer_of k) × (z ≡ buffer_of b k)

all_told : (h : List ℕ) (r : Addr → ℕ) (k : Kind) (i : ℕ)
    → told_at h (class k) (cell_of h k i) (r (at k i owner)) (r (at k i group)) (r (at k i (bits k))) ≡ told h r k i
unfolding told told_at
all_told h r k i = refl

pub class-small : (k : Kind) {x : ℕ} → x ≡ class k → x < 256
class-small process e = omega arith
class-small segment e = omega arith
class-small file e = omega arith

-- what refuses a status of the object that is seen: the buffer's length, and then "find"
abbrev length_test : ℕ → List Refusal
length_test bytes = (not (eqb bytes status_bytes) ⇒ XbSz) ∷ []

abbrev status_tests : Seen → Kind → ℕ → List Refusal
status_tests x k bytes = length_test bytes ++ find_tests x k (not x.flows)

-- a status that is judged: what the code has seen, and the number that refuses, or 0
pub record StatusJudged (t : List ℕ) (n : Header) (c : Caller) (k : Kind) (s : ℕ) (b : List ℕ) (x : Seen) (e : ℕ) : Type 0 where
  pub sound : Sound t n c
  pub seen : x ≡ seen_of (configuration t) (words_of t) c.slot k (named_of n k s)
  pub number : e ≡ first_refusal (status_tests x k (length b))

module _ {t : List ℕ} {n : Header} {c : Caller} (sound : Sound t n c) (k : Kind) (s : ℕ) (b : List ℕ) {x : Seen}
    (seen : x ≡ seen_of (configuration t) (words_of t) c.slot k (named_of n k s)) where
  pub wrong_length : (e : Error) → number_of e ≡ first_refusal (length_test (length b)) → StatusJudged t n c k s b x (number_of e)
  wrong_length e f = record { sound = sound; seen = seen; number = stopped (length_test (length b)) (find_tests x k (not x.flows)) e f }

  pub right_length : 0 ≡ first_refusal (length_test (length b)) → {e : ℕ} → e ≡ first_refusal (find_tests x k (not x.flows)) → StatusJudged t n c k s b x e
  right_length z f = record { sound = sound; seen = seen; number = later (length_test (length b)) (find_tests x k (not x.flows)) refl z f }

module _ {t : List ℕ} {n : Header} {c : Caller} {k : Kind} {s : ℕ} {b : List ℕ} {x : Seen} {e : ℕ} (p : StatusJudged t n c k s b x e) where
  by_form : (f : Bool) → formed (configuration t) k s ≡ f
      → first_refusal (status_tests x k (length b)) ≡ first_refusal (rule_at t (λ h q. status_of h q c.slot s b k)).refusals
  unfolding present
  by_form true f = rw (seen-formed p.sound.known c.slot k s p.seen f, f)
  by_form false f = rw (formed-is p.sound.known c.slot k s p.seen, f)

  found : e ≡ first_refusal (rule_at t (λ h q. status_of h q c.slot s b k)).refusals
  found = p.number ∙ by_form (formed (configuration t) k s) refl

  pub status-refused : (y : Error) (r : Result (ℕ × ℕ) Error) → e ≡ number_of y → IsErr r → IsErrAnd r (λ w. w ≡ y)
      → Shown (rule_at t (λ h q. status_of h q c.slot s b k)) b (call.told r) b
  status-refused y r en is same = (
    answer-stopped (rule_at t (λ h q. status_of h q c.slot s b k)) y r (sym en ∙ found) is same,
    buffer-refused (rule_at t (λ h q. status_of h q c.slot s b k)) (sym en ∙ found) b (refusal-some y),
  )

  -- past the refusals the buffer has sixteen bytes, and the seid its form
  module _ (none : e ≡ 0) where
    unrefused : Clear (status_tests x k (length b))
    unrefused = clear (status_tests x k (length b)) (find-numbered x k (not x.flows) [] refl) (sym p.number ∙ none)

    pub told-fits : (h : List ℕ) (class cell owner group bits : ℕ) {z : List ℕ} → z ≡ told_at h class cell owner group bits → length b ≡ length z
    unfolding told_at
    told-fits h class cell owner group bits ze = eqb-true (length b) status_bytes (passed (eqb (length b) status_bytes) unrefused.0) ∙ rw ze

    form : formed (configuration t) k s ≡ true
    form = passed _ (rw (formed-is p.sound.known c.slot k s p.seen) at unrefused.1.0)

    cell-is : x.cell ≡ cell_of (configuration t) k x.slot
    cell-is = rw (seen-formed p.sound.known c.slot k s p.seen form)

    pub in_cells : x.cell < cells (configuration t)
    in_cells = rw cell-is (in-run (configuration t) (shape p.sound.known) k x.slot (slot-in p.sound.known c.slot k s p.seen form)).0

    -- the class, the owner, the group and the bits as the code has them
    pub status-done : {z : List ℕ} {l o g y : ℕ} → l ≡ class k → o ≡ words_of t (at k x.slot owner) → g ≡ words_of t (at k x.slot group)
        → y ≡ words_of t (at k x.slot (bits k)) → z ≡ told_at (configuration t) l x.cell o g y
        → Shown (rule_at t (λ h q. status_of h q c.slot s b k)) b (call.told (Ok (0, 0))) z
    status-done {z = z} le oe ge ye ze =
        let bytes : z ≡ told (configuration t) (words_of t) k (index_of s)
        = ze ∙ rw (le, oe, ge, ye, cell-is, slot_is p.sound.known c.slot k s p.seen form) (all_told (configuration t) (words_of t) k (index_of s)) in (
          answer-done (rule_at t (λ h q. status_of h q c.slot s b k)) found none,
          bytes ∙ buffer-done (rule_at t (λ h q. status_of h q c.slot s b k)) found b none,
        )

-- the rule by the kind that the seid's class names
pub of-kind : (t : List ℕ) (p a : ℕ) (b : List ℕ) {s : ℕ} {k : Kind} {r : Answer} {z : List ℕ} → s ≡ or_self (words_of t) p a → k ≡ kind_by s
    → Shown (rule_at t (λ h q. status_of h q p s b k)) b r z → Shown (rule_at t (λ h q. status h q p a b)) b r z
unfolding status
of-kind t p a b {s} {k} {r} {z} own kind-is x =
    let f : Kind → Rule = λ (j : Kind). status_of (configuration t) (words_of t) p s b j in
    rw (← own) (subst (λ (y : Rule). Shown y b r z) (ap f kind-is ∙ by_kind f (eqb (class_of s) (class process)) (eqb (class_of s) (class segment))) x)

-- the level told is the cell's, where there is one
pub level-here : (h : List ℕ) (cell : ℕ) {l : Code.Level} → cell < cells h → rule_level l ≡ level_at h cell → rule_level l ≡ level_of h cell
level-here h cell m e = rw (lt-ltb cell (cells h) m) at e

-- the level's two categories are bytes
pub level-small : (t : List ℕ) (cell : ℕ) {l : Code.Level} → Holds (configured (configuration t)) → cell < cells (configuration t)
    → rule_level l ≡ level_of (configuration t) cell
    → (l.security < 256) × (l.integrity < 256)
unfolding level_of
level-small t cell {l} c m e =
    let s = shape_of (configuration t) c in
    let a : l.security ≡ cell_word (configuration t) cell 0 = ap (λ (x : Level). x.security) e in
    let b : l.integrity ≡ cell_word (configuration t) cell 1 = ap (λ (x : Level). x.integrity) e in
    (omega (arith, s.security cell m), omega (arith, s.integrity cell m))
