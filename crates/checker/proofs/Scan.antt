-- The finding, byte by byte, is the rules'; and so it is piece by piece.
use Rattle.std.proofs.Common.{◌≡◌, ℕ, ◌+◌, ◌^◌, ◌<◌, ◌≤◌, Bool, true, false, cond, not, eqb, List, [], ◌∷◌, ◌++◌, length, drop, sym, refl, ap, ◌∙◌, subst, ap₂, mod-eq_of_lt, arith, drop-drop, eq-eqb, eqb-true}
use Rattle.rules.specs.Replay.{listing}
use Rattle.laws.proofs.Tests.{split}
use Rattle.rules.specs.Finding.{begins, ends_line, lines_of, same, agree, wrong, compared, finding}
use Rattle.checker.specs.Scan.{verdict, scanned, Agreed, lines_after, agreeing, alike}

-- ---- the lines of a text begin with its first byte
abbrev Starts : ℕ → List (List ℕ) → Type 0
Starts b ls = (l : List ℕ) × (more : List (List ℕ)) × (ls ≡ (b ∷ l) ∷ more)

begins-starts : (b : ℕ) (ls : List (List ℕ)) → Starts b (begins b ls)
unfolding begins
begins-starts b [] = ([], [], refl)
begins-starts b (l ∷ ls) = (l, ls, refl)

lines_start : (b : ℕ) (s : List ℕ) → Starts b (lines_of (b ∷ s))
unfolding lines_of
lines_start b s = split _ (ends_line b) (λ e. rw e ([], lines_of s, refl)) (λ e. rw e (begins-starts b (lines_of s)))

-- a byte before both changes nothing, where both have a line
begun : (n b : ℕ) (d r : List ℕ) (ds rs : List (List ℕ)) → compared n (begins b (d ∷ ds)) (begins b (r ∷ rs)) ≡ compared n (d ∷ ds) (r ∷ rs)
unfolding begins compared same
begun n b d r ds rs = rw (eq-eqb b b refl)

same_line : (n b : ℕ) (ds rs : List (List ℕ)) → compared n ((b ∷ []) ∷ ds) ((b ∷ []) ∷ rs) ≡ compared (n + 1) ds rs
unfolding compared same
same_line n b ds rs = rw (eq-eqb b b refl)

apart : (n b c : ℕ) (d r : List ℕ) (ds rs : List (List ℕ)) → eqb b c ≡ false → compared n ((b ∷ d) ∷ ds) ((c ∷ r) ∷ rs) ≡ wrong n
unfolding compared same
apart n b c d r ds rs e = rw e

-- where a part of a line agrees, which ends with byte b
part : (n b : ℕ) (d r : List ℕ) → compared n (lines_of d) (lines_of r) ≡ scanned n false d r → compared n (begins b (lines_of d)) (begins b (lines_of r)) ≡ scanned n true d r
unfolding lines_of begins compared same scanned verdict
part n b [] [] h = rw (eq-eqb b b refl) (ap agree (omega arith))
part n b [] (c ∷ r) h =
    let z = lines_start c r in
    ap (λ (ls : List (List ℕ)). compared n (begins b []) (begins b ls)) z.2 ∙ rw (eq-eqb b b refl)
part n b (a ∷ d) [] h =
    let z = lines_start a d in
    ap (λ (ls : List (List ℕ)). compared n (begins b ls) (begins b [])) z.2 ∙ rw (eq-eqb b b refl)
part n b (a ∷ d) (c ∷ r) h =
    let y = lines_start a d in
    let z = lines_start c r in
    ap₂ (λ (ls ks : List (List ℕ)). compared n (begins b ls) (begins b ks)) y.2 z.2
    ∙ begun n b (a ∷ y.0) (c ∷ z.0) y.1 z.1
    ∙ sym (ap₂ (compared n) y.2 z.2)
    ∙ h

scanned-apart : (n : ℕ) (w : Bool) (b c : ℕ) (d r : List ℕ) → eqb b c ≡ false → scanned n w (b ∷ d) (c ∷ r) ≡ wrong n
unfolding scanned verdict
scanned-apart n w b c d r e = rw e

scanned-heads : (n : ℕ) (w : Bool) (b c : ℕ) (d r : List ℕ) → eqb b c ≡ true
    → scanned n w (b ∷ d) (c ∷ r) ≡ scanned (cond (ends_line b) (n + 1) n) (not (ends_line b)) d r
unfolding scanned
scanned-heads n w b c d r e = rw e

alike-heads : (n b c : ℕ) (d r : List ℕ) → eqb b c ≡ true → ((m : ℕ) → compared m (lines_of d) (lines_of r) ≡ scanned m false d r)
    → compared n (lines_of (b ∷ d)) (lines_of (c ∷ r)) ≡ scanned n false (b ∷ d) (c ∷ r)
unfolding lines_of
alike-heads n b c d r e h =
    ap (λ (a : ℕ). compared n (lines_of (b ∷ d)) (lines_of (a ∷ r))) (sym (eqb-true b c e))
    ∙ split _ (ends_line b)
    (λ f. rw (f) (same_line n b (lines_of d) (lines_of r) ∙ h (n + 1)))
    (λ f. rw (f) (part n b d r (h n)))
    ∙ sym (scanned-heads n false b c d r e)

pub compared-scanned : (n : ℕ) (d r : List ℕ) → compared n (lines_of d) (lines_of r) ≡ scanned n false d r
unfolding lines_of scanned
compared-scanned n [] [] = unfold compared verdict in refl
compared-scanned n [] (c ∷ r) = let z = lines_start c r in ap (compared n []) z.2 ∙ (unfold compared verdict in refl)
compared-scanned n (b ∷ d) [] = let z = lines_start b d in ap (λ (ls : List (List ℕ)). compared n ls []) z.2 ∙ (unfold compared verdict in refl)
compared-scanned n (b ∷ d) (c ∷ r) = split _ (eqb b c)
    (λ e. alike-heads n b c d r e (λ m. compared-scanned m d r))
    (λ e. let y = lines_start b d in let z = lines_start c r in
    ap₂ (compared n) y.2 z.2 ∙ apart n b c y.0 z.0 y.1 z.1 e ∙ sym (scanned-apart n false b c d r e))

pub finding-scanned : (input recorded : List ℕ) → finding input recorded ≡ scanned 0 false (listing input) recorded
unfolding finding
finding-scanned input recorded = compared-scanned 0 (listing input) recorded

-- ---- as far as two pieces agree: d is what is left of z from place i on, with D after it, and r what is left of y from place j on, with R after it
lines_fit : (b n : ℕ) → n + 1 < 2 ^ 64 → lines_after b n ≡ cond (ends_line b) (n + 1) n
lines_fit b n h = ap (λ (m : ℕ). cond (ends_line b) m n) (mod-eq_of_lt h)

lines-most : (b n : ℕ) → cond (ends_line b) (n + 1) n ≤ n + 1
lines-most b n = split _ (ends_line b) (λ e. rw e (omega arith)) (λ e. rw e (omega arith))

pub record Onward (n : ℕ) (w : Bool) (d r D R z y : List ℕ) (k : Agreed) : Type 0 where
  pub same : scanned n w (d ++ D) (r ++ R) ≡ scanned k.lines k.within (drop k.at z ++ D) (drop k.next y ++ R)
  pub fits : k.lines + length (drop k.next y ++ R) < 2 ^ 64
  pub apart : alike (drop k.at z) (drop k.next y) ≡ false

stays : (n : ℕ) (w : Bool) (i j : ℕ) (d r D R z y : List ℕ) → d ≡ drop i z → r ≡ drop j y → n + length (r ++ R) < 2 ^ 64 → alike d r ≡ false
    → Onward n w d r D R z y (record { lines = n; within = w; at = i; next = j })
stays n w i j d r D R z y e f h a = record {
  same = ap₂ (λ (u v : List ℕ). scanned n w (u ++ D) (v ++ R)) e f;
  fits = subst (λ (v : List ℕ). n + length (v ++ R) < 2 ^ 64) f h;
  apart = sym (ap₂ alike e f) ∙ a;
}

one_byte : (n : ℕ) (w : Bool) (b c : ℕ) (d r D R z y : List ℕ) (k : Agreed) → eqb b c ≡ true → n + 1 < 2 ^ 64
    → Onward (lines_after b n) (not (ends_line b)) d r D R z y k → Onward n w (b ∷ d) (c ∷ r) D R z y k
one_byte n w b c d r D R z y k e h p = record {
  same =
      scanned-heads n w b c (d ++ D) (r ++ R) e
      ∙ ap (λ (m : ℕ). scanned m (not (ends_line b)) (d ++ D) (r ++ R)) (sym (lines_fit b n h))
      ∙ p.same;
  fits = p.fits;
  apart = p.apart;
}

agreeing-same : (n : ℕ) (w : Bool) (i j b c : ℕ) (d r : List ℕ) → eqb b c ≡ true
    → agreeing (lines_after b n) (not (ends_line b)) (i + 1) (j + 1) d r ≡ agreeing n w i j (b ∷ d) (c ∷ r)
unfolding agreeing
agreeing-same n w i j b c d r e = rw e

agreeing-apart : (n : ℕ) (w : Bool) (i j b c : ℕ) (d r : List ℕ) → eqb b c ≡ false
    → record { lines = n; within = w; at = i; next = j } ≡ agreeing n w i j (b ∷ d) (c ∷ r)
unfolding agreeing
agreeing-apart n w i j b c d r e = rw e

pub onward : (n : ℕ) (w : Bool) (i j : ℕ) (d r D R z y : List ℕ) → d ≡ drop i z → r ≡ drop j y → n + length (r ++ R) < 2 ^ 64
    → Onward n w d r D R z y (agreeing n w i j d r)
unfolding agreeing alike
onward n w i j [] r D R z y e f h = stays n w i j [] r D R z y e f h refl
onward n w i j (b ∷ d) [] D R z y e f h = stays n w i j (b ∷ d) [] D R z y e f h refl
onward n w i j (b ∷ d) (c ∷ r) D R z y e f h = split _ (eqb b c)
    (λ q. subst (Onward n w (b ∷ d) (c ∷ r) D R z y) (agreeing-same n w i j b c d r q)
    (one_byte n w b c d r D R z y _ q (omega arith)
    (onward (lines_after b n) (not (ends_line b)) (i + 1) (j + 1) d r D R z y (ap (drop 1) e ∙ drop-drop 1 i z) (ap (drop 1) f ∙ drop-drop 1 j y)
    (let m = lines-most b n in rw (lines_fit b n (omega arith)) (omega arith)))))
    (λ q. subst (Onward n w (b ∷ d) (c ∷ r) D R z y) (agreeing-apart n w i j b c d r q)
    (stays n w i j (b ∷ d) (c ∷ r) D R z y e f h q))

-- ---- where one has ended, or the next bytes differ
pub ends-apart : (n : ℕ) (w : Bool) (d r D R : List ℕ) → 0 < length d → 0 < length r → alike d r ≡ false → scanned n w (d ++ D) (r ++ R) ≡ verdict n w true true
unfolding alike scanned
ends-apart n w [] r D R h k e = absurd (omega arith)
ends-apart n w (b ∷ d) [] D R h k e = absurd (omega arith)
ends-apart n w (b ∷ d) (c ∷ r) D R h k e = rw e

pub ends-due : (n : ℕ) (w : Bool) (d D : List ℕ) → 0 < length d → scanned n w (d ++ D) [] ≡ verdict n w true false
unfolding scanned
ends-due n w [] D h = absurd (omega arith)
ends-due n w (b ∷ d) D h = refl

pub ends_more : (n : ℕ) (w : Bool) (r R : List ℕ) → 0 < length r → scanned n w [] (r ++ R) ≡ verdict n w false true
unfolding scanned
ends_more n w [] R h = absurd (omega arith)
ends_more n w (c ∷ r) R h = refl

pub ends-both : (n : ℕ) (w : Bool) → scanned n w [] [] ≡ verdict n w false false
unfolding scanned
ends-both n w = refl
