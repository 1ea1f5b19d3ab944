-- A recorded listing's finding, read: "all agree" exactly when it is the listing; a wrong line is the first that differs.
use mathlib.Core.Bool.{true, true≢false}
use mathlib.Core.List.{List, [], ◌∷◌, ◌++◌}
use mathlib.Core.Path.{◌≡◌, refl, sym, ap, ap₂, ◌∙◌, subst}
use Prim.Native.Nat.{ℕ, zero, suc, ◌+◌, ◌-◌, ◌<◌}
use native.Mathlib.Omega.{arith}
use lib.Dec.{eqb}
use lib.ListN.{length, get_or, take, drop}
use borrow.Author.Tests.{eqb-true, eq-eqb}
use Rattle.rules.specs.Replay.{listing}
use Rattle.laws.proofs.Tests.{and_left, and_right, and_both, split, both_ways}
use Rattle.rules.specs.Finding.{begins, ends_line, lines_of, same, Finding, agree, wrong, missing, over, compared, finding}

-- ---- the test of two lines
pub same_self : (d : List ℕ) → same d d ≡ true
unfolding same
same_self [] = refl
same_self (b ∷ d) = and_both (eqb b b) (same d d) (eq-eqb b b refl) (same_self d)

pub same-equal : (d r : List ℕ) → same d r ≡ true → d ≡ r
unfolding same
same-equal [] [] e = refl
same-equal [] (c ∷ r) e = absurd (true≢false (sym e))
same-equal (b ∷ d) [] e = absurd (true≢false (sym e))
same-equal (b ∷ d) (c ∷ r) e = ap₂ ◌∷◌ (eqb-true b c (and_left (eqb b c) (same d r) e)) (same-equal d r (and_right (eqb b c) (same d r) e))

-- ---- lines put together again
pub joined : List (List ℕ) → List ℕ
joined [] = []
joined (l ∷ ls) = l ++ joined ls

begins-joined : (b : ℕ) (ls : List (List ℕ)) → joined (begins b ls) ≡ b ∷ joined ls
unfolding begins joined
begins-joined b [] = refl
begins-joined b (l ∷ ls) = refl

pub joined-lines : (s : List ℕ) → joined (lines_of s) ≡ s
unfolding lines_of joined
joined-lines [] = refl
joined-lines (b ∷ s) = split _ (ends_line b)
    (λ e. rw e (ap (λ (z : List ℕ). b ∷ z) (joined-lines s)))
    (λ e. rw e (begins-joined b (lines_of s) ∙ ap (λ (z : List ℕ). b ∷ z) (joined-lines s)))

-- so a text is known by its lines
pub lines-equal : (s t : List ℕ) → lines_of s ≡ lines_of t → s ≡ t
lines-equal s t e = sym (joined-lines s) ∙ ap joined e ∙ joined-lines t

-- ---- what each finding says of the lines that are due and those recorded

-- line k is the first that differs, and both have it
pub record First (k : ℕ) (ds rs : List (List ℕ)) : Type 0 where
  pub due : k < length ds
  pub recorded : k < length rs
  pub before : take k rs ≡ take k ds
  pub differs : get_or rs k [] ≡ get_or ds k [] → ⊥

-- the lines are numbered from n on
abbrev pub Means : ℕ → List (List ℕ) → List (List ℕ) → Finding → Type 0
Means n ds rs (agree m) = (m ≡ n + length ds - 1) × (rs ≡ ds)
Means n ds rs (wrong m) = (k : ℕ) × (m ≡ n + k) × First k ds rs
Means n ds rs (missing m) = (k : ℕ) × (m ≡ n + k) × (k < length ds) × (rs ≡ take k ds)
Means n ds rs (over m) = (m ≡ n + length ds - 1) × (length ds < length rs) × (take (length ds) rs ≡ ds)

-- a line more in front, which is the same in both
one_more : (n : ℕ) (d r : List ℕ) (ds rs : List (List ℕ)) (f : Finding) → d ≡ r → Means (n + 1) ds rs f → Means n (d ∷ ds) (r ∷ rs) f
one_more n d r ds rs (agree m) e (p, q) = (omega (arith, p), ap₂ ◌∷◌ (sym e) q)
one_more n d r ds rs (wrong m) e (k, p, w) = (
  suc k,
  omega (arith, p),
  record { due = omega (arith, w.due); recorded = omega (arith, w.recorded); before = ap₂ ◌∷◌ (sym e) w.before; differs = w.differs },
)
one_more n d r ds rs (missing m) e (k, p, h, q) = (suc k, omega (arith, p), omega (arith, h), ap₂ ◌∷◌ (sym e) q)
one_more n d r ds rs (over m) e (p, h, q) = (omega (arith, p), omega (arith, h), ap₂ ◌∷◌ (sym e) q)

pub means : (n : ℕ) (ds rs : List (List ℕ)) → Means n ds rs (compared n ds rs)
unfolding compared
means n [] [] = (omega arith, refl)
means n [] (r ∷ rs) = (omega arith, omega arith, refl)
means n (d ∷ ds) [] = (0, omega arith, omega arith, refl)
means n (d ∷ ds) (r ∷ rs) = split _ (same d r)
    (λ e. rw e (one_more n d r ds rs (compared (n + 1) ds rs) (same-equal d r e) (means (n + 1) ds rs)))
    (λ e. rw e (
      0,
      omega arith,
      record {
        due = omega arith;
        recorded = omega arith;
        before = refl;
        differs = λ z. both_ways (same d r) (ap (same d) z ∙ same_self d) e;
      },
    ))

-- ---- and each is found exactly where that holds
only-agree : (n : ℕ) (ds : List (List ℕ)) → compared n ds ds ≡ agree (n + length ds - 1)
unfolding compared
only-agree n [] = ap agree (omega arith)
only-agree n (d ∷ ds) = rw (same_self d) (only-agree (n + 1) ds ∙ ap agree (omega arith))

-- where a line more stands in front, the same in both
goes_on : (n : ℕ) (d r : List ℕ) (ds rs : List (List ℕ)) → r ≡ d → compared n (d ∷ ds) (r ∷ rs) ≡ compared (n + 1) ds rs
unfolding compared
goes_on n d r ds rs e = rw (ap (same d) e ∙ same_self d)

only-wrong : (k n : ℕ) (ds rs : List (List ℕ)) → First k ds rs → compared n ds rs ≡ wrong (n + k)
unfolding compared
only-wrong k n [] rs w = absurd (omega (arith, w.due))
only-wrong k n (d ∷ ds) [] w = absurd (omega (arith, w.recorded))
only-wrong zero n (d ∷ ds) (r ∷ rs) w = split _ (same d r)
    (λ e. absurd (w.differs (sym (same-equal d r e))))
    (λ e. rw e (ap wrong (omega arith)))
only-wrong (suc k) n (d ∷ ds) (r ∷ rs) w =
    goes_on n d r ds rs (ap (λ (z : List (List ℕ)). get_or z 0 []) w.before)
    ∙ only-wrong k (n + 1) ds rs (record {
      due = omega (arith, w.due);
      recorded = omega (arith, w.recorded);
      before = ap (drop 1) w.before;
      differs = w.differs;
    })
    ∙ ap wrong (omega arith)

only-missing : (k n : ℕ) (ds : List (List ℕ)) → k < length ds → compared n ds (take k ds) ≡ missing (n + k)
unfolding compared
only-missing k n [] h = absurd (omega arith)
only-missing zero n (d ∷ ds) h = ap missing (omega arith)
only-missing (suc k) n (d ∷ ds) h = rw (same_self d) (only-missing k (n + 1) ds (omega arith) ∙ ap missing (omega arith))

only-over : (n : ℕ) (ds rs : List (List ℕ)) → length ds < length rs → take (length ds) rs ≡ ds → compared n ds rs ≡ over (n + length ds - 1)
unfolding compared
only-over n ds [] h e = absurd (omega arith)
only-over n [] (r ∷ rs) h e = ap over (omega arith)
only-over n (d ∷ ds) (r ∷ rs) h e =
    goes_on n d r ds rs (ap (λ (z : List (List ℕ)). get_or z 0 []) e) ∙ only-over (n + 1) ds rs (omega arith) (ap (drop 1) e) ∙ ap over (omega arith)

-- ---- the finding

-- how many lines a listing has
abbrev pub due_lines : List ℕ → List (List ℕ)
due_lines input = lines_of (listing input)

module _ (input recorded : List ℕ) where
  says : (f : Finding) → finding input recorded ≡ f → Means 0 (due_lines input) (lines_of recorded) f
  unfolding finding
  says f e = subst (Means 0 (due_lines input) (lines_of recorded)) e (means 0 (due_lines input) (lines_of recorded))

  -- "It must say yes exactly when replay would write those bytes."
  pub yes-so : (n : ℕ) → finding input recorded ≡ agree n → recorded ≡ listing input
  yes-so n e = lines-equal recorded (listing input) (says (agree n) e).1

  pub yes-then : recorded ≡ listing input → finding input recorded ≡ agree (length (due_lines input) - 1)
  unfolding finding
  yes-then e = rw e (only-agree 0 (due_lines input) ∙ ap agree (omega arith))

  -- "names the first line that the rules don't give"
  pub wrong-so : (n : ℕ) → finding input recorded ≡ wrong n → First n (due_lines input) (lines_of recorded)
  wrong-so n e = let z = says (wrong n) e in let i : z.0 ≡ n = omega (arith, z.1) in
      subst (λ (k : ℕ). First k (due_lines input) (lines_of recorded)) i z.2

  pub wrong-then : (n : ℕ) → First n (due_lines input) (lines_of recorded) → finding input recorded ≡ wrong n
  unfolding finding
  wrong-then n w = only-wrong n 0 (due_lines input) (lines_of recorded) w ∙ ap wrong (omega arith)

  -- "that lines are missing": those before line n are all that is recorded
  pub missing-so : (n : ℕ) → finding input recorded ≡ missing n → (n < length (due_lines input)) × (lines_of recorded ≡ take n (due_lines input))
  missing-so n e = let z = says (missing n) e in let i : z.0 ≡ n = omega (arith, z.1) in
      (omega (arith, z.2), z.3 ∙ ap (λ (k : ℕ). take k (due_lines input)) i)

  pub missing-then : (n : ℕ) → n < length (due_lines input) → lines_of recorded ≡ take n (due_lines input) → finding input recorded ≡ missing n
  unfolding finding
  missing-then n h e = rw e (only-missing n 0 (due_lines input) h ∙ ap missing (omega arith))

  -- "bytes past the last due line are over": the due lines are all there, and then more
  pub over-so : (n : ℕ) → finding input recorded ≡ over n
      → (n ≡ length (due_lines input) - 1) × (length (due_lines input) < length (lines_of recorded)) × (take (length (due_lines input)) (lines_of recorded) ≡ due_lines input)
  over-so n e = let z = says (over n) e in (omega (arith, z.0), z.1, z.2)

  pub over-then : length (due_lines input) < length (lines_of recorded) → take (length (due_lines input)) (lines_of recorded) ≡ due_lines input
      → finding input recorded ≡ over (length (due_lines input) - 1)
  unfolding finding
  over-then h e = only-over 0 (due_lines input) (lines_of recorded) h e ∙ ap over (omega arith)
