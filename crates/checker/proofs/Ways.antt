-- What the check's code comes to: the part of the output that waits, and how far that and a piece of what is recorded agree.
use Rattle.std.proofs.Common.{◌≡◌, ℕ, suc, ◌+◌, ◌-◌, ◌%◌, ◌^◌, ◌<◌, ◌≤◌, min, Bool, cond, not, eqb, List, [], ◌∷◌, length, get_or, take, drop, sym, refl, ap, ◌∙◌, ap₂, mod-eq_of_lt, arith, length-drop, length-take, drop_of_length-le, take_all, add-zero}
use Rattle.std.proofs.lemmas.List.{take_min, drop-take}
use Rattle.std.proofs.lemmas.List.Sums.{sum_by-cons, common_prefix_len-le}
use Rattle.std.proofs.Math.Nat.{mod-add-mod}
use Rattle.std.specs.List.{zip, take_while, common_prefix_len}
use Rattle.std.specs.Prelude.{◌==◌}
use native.Mathlib.Decide.{dec_le}
use Rattle.laws.proofs.Tests.{split}
use Rattle.checker.specs.declared.Check.{Check}
use Rattle.checker.specs.declared.Checked.{Checked}
use Rattle.rules.specs.Finding.{ends_line}
use Rattle.checker.specs.Scan.{lines_in, ends_within, Agreed, lines_after, agreeing}
use Rattle.checker.specs.Check.{waiting, agreed, met}

-- ---- a part of a slice, from one place to another, both kept within it: of what ends at place e, what stands from place i on
pub part : (l : List ℕ) (i e k m : ℕ) → m ≡ min e (length l) → k ≡ min i m → take (m - k) (drop k l) ≡ drop i (take e l)
part l i e k m f g =
    let n : k + (m - k) ≡ m = omega arith in
    let whole : take m l ≡ take e l = ap (λ (j : ℕ). take j l) f ∙ take_min e l in
    let size : length (take m l) ≡ m = omega (arith, length-take m l) in
    sym (drop-take k (m - k) l) ∙ ap (λ (a : ℕ). drop k (take a l)) n ∙ elim (dec_le i m) [
      | yes h ↦ ap₂ drop (let z : k ≡ i = omega arith in z) whole
      | no h ↦
          drop_of_length-le (take m l) (omega arith)
          ∙ sym (drop_of_length-le (take e l) (rw (← whole) (omega arith)))
    ]

-- ---- and from one place to its end
pub rest : (l : List ℕ) (i k : ℕ) → k ≡ min i (length l) → take (length l - k) (drop k l) ≡ drop i l
rest l i k e = part l i (length l) k (length l) (omega arith) e ∙ ap (drop i) (take_all (length l) l (omega arith))

-- ---- whether a part of a line stands at the end of a text: its last byte decides
last-byte : (w : Bool) (b : ℕ) (s : List ℕ) → not (ends_line (get_or (b ∷ s) (length s) 0)) ≡ ends_within w (b ∷ s)
unfolding ends_within
last-byte w b [] = refl
last-byte w b (c ∷ s) = last-byte (not (ends_line b)) c s

pub ends-last : (w : Bool) (s : List ℕ) → 0 < length s → not (ends_line (get_or s (length s - 1) 0)) ≡ ends_within w s
ends-last w [] h = absurd (omega arith)
ends-last w (b ∷ s) h =
    ap (λ (k : ℕ). not (ends_line (get_or (b ∷ s) k 0))) (let z : length (b ∷ s) - 1 ≡ length s = omega arith in z) ∙ last-byte w b s

pub ends-empty : (w : Bool) (s : List ℕ) → length s < 1 → w ≡ ends_within w s
unfolding ends_within
ends-empty w [] h = refl
ends-empty w (b ∷ s) h = absurd (omega arith)

-- ---- how many bytes two texts begin with alike, as the code counts them
abbrev alike : List ℕ → List ℕ → ℕ
alike d r = common_prefix_len (λ b c. b == c) d r

first : (x : ℕ × ℕ) (xs : List (ℕ × ℕ)) (k : ℕ) → length (take (1 + k) (x ∷ xs)) ≡ 1 + length (take k xs)
first x xs k = ap (λ (j : ℕ). length (take j (x ∷ xs))) (let z : 1 + k ≡ suc k = omega arith in z) ∙ omega arith

abbrev pub counted : List ℕ → List ℕ → ℕ
counted d r = length (take_while (λ (p : ℕ × ℕ). p.0 == p.1) (zip d r))

zip-alike : (d r : List ℕ) → counted d r ≡ alike d r
zip-alike [] r = refl
zip-alike (b ∷ d) [] = refl
zip-alike (b ∷ d) (c ∷ r) =
    split _ (eqb b c)
    (λ e. rw e (first (b, c) (zip d r) _ ∙ ap (λ (k : ℕ). 1 + k) (zip-alike d r)))
    (λ e. rw e refl)

-- ---- how far two texts agree, where that is so for k bytes
abbrev so_far : ℕ → Bool → ℕ → ℕ → List ℕ → ℕ → Agreed
so_far n w i j d k =
    record { lines = (n + lines_in (take k d)) % 2 ^ 64; within = ends_within w (take k d); at = i + k; next = j + k }

no-more : (n : ℕ) (w : Bool) (i j : ℕ) (d : List ℕ) → ◌≡◌ {A = Agreed} (record { lines = n % 2 ^ 64; within = w; at = i; next = j }) (so_far n w i j d 0)
unfolding ends_within
no-more n w i j d = simp add-zero

lines-cons : (b : ℕ) (s : List ℕ) → lines_in (b ∷ s) ≡ cond (ends_line b) 1 0 + lines_in s
lines-cons b s = sum_by-cons (λ (x : ℕ). cond (ends_line x) 1 0) b s

one-more : (n : ℕ) (w : Bool) (i j b : ℕ) (d : List ℕ) (k : ℕ)
    → so_far (n + cond (ends_line b) 1 0) (not (ends_line b)) (i + 1) (j + 1) d k ≡ so_far n w i j (b ∷ d) (1 + k)
unfolding ends_within
one-more n w i j b d k =
    let more : suc k ≡ 1 + k = omega arith in
    (λ q. record {
      lines = (let z : n + cond (ends_line b) 1 0 + lines_in (take k d) ≡ n + lines_in (b ∷ take k d) = omega (arith, lines-cons b (take k d)) in z) q % 2 ^ 64;
      within = ends_within (not (ends_line b)) (take k d);
      at = (let z : i + 1 + k ≡ i + suc k = omega arith in z) q;
      next = (let z : j + 1 + k ≡ j + suc k = omega arith in z) q;
    }) ∙ ap (so_far n w i j (b ∷ d)) more

one-line : (b n : ℕ) → lines_after b (n % 2 ^ 64) ≡ (n + cond (ends_line b) 1 0) % 2 ^ 64
one-line b n = split _ (ends_line b) (λ e. rw e (mod-add-mod n (2 ^ 64) 1)) (λ e. rw (e, add-zero) refl)

agreeing-is : (n : ℕ) (w : Bool) (i j : ℕ) (d r : List ℕ) → agreeing (n % 2 ^ 64) w i j d r ≡ so_far n w i j d (alike d r)
unfolding agreeing
agreeing-is n w i j [] r = no-more n w i j []
agreeing-is n w i j (b ∷ d) [] = no-more n w i j (b ∷ d)
agreeing-is n w i j (b ∷ d) (c ∷ r) =
    split _ (eqb b c)
    (λ e. rw e (ap (λ (m : ℕ). agreeing m (not (ends_line b)) (i + 1) (j + 1) d r) (one-line b n)
    ∙ agreeing-is (n + cond (ends_line b) 1 0) (not (ends_line b)) (i + 1) (j + 1) d r
    ∙ one-more n w i j b d (alike d r)))
    (λ e. rw e (no-more n w i j (b ∷ d)))

-- as the code has it
pub compared-within : (x : Check) (o r : List ℕ) (i n : ℕ) (due recorded : List ℕ) → due ≡ waiting x o → recorded ≡ drop i r → n ≡ counted due recorded
    → (n ≤ length due) × (n ≤ x.end - x.at) × (n ≤ length r - i)
compared-within x o r i n due recorded ed er en =
    let z = common_prefix_len-le (λ (b c : ℕ). b == c) due recorded in
    let y = en ∙ zip-alike due recorded in
    let a = ap length ed in
    let b = ap length er in
    (omega arith, omega (arith, length-drop x.at (take x.end o), length-take x.end o), omega (arith, length-drop i r))

pub compared : (x : Check) (o r : List ℕ) (i n m : ℕ) (w : Bool) (due recorded : List ℕ) → x.lines < 2 ^ 64 → due ≡ waiting x o → recorded ≡ drop i r
    → n ≡ counted due recorded → m ≡ lines_in (take n due) → w ≡ ends_within x.within (take n due)
    → ◌≡◌ {A = Checked} (record { check = record x { at = x.at + n; lines = (x.lines + m) % 2 ^ 64; within = w }; next = i + n }) (met x (agreed x o r i))
compared x o r i n m w due recorded h ed er en em ew =
    let known : ◌≡◌ {A = Agreed} (record { lines = (x.lines + m) % 2 ^ 64; within = w; at = x.at + n; next = i + n }) (so_far x.lines x.within x.at i due n) =
    λ q. record { lines = (x.lines + em q) % 2 ^ 64; within = ew q; at = x.at + n; next = i + n } in
    ap (met x) (known
    ∙ ap (so_far x.lines x.within x.at i due) (en ∙ zip-alike due recorded)
    ∙ sym (agreeing-is x.lines x.within x.at i due recorded)
    ∙ ap (λ (a : ℕ). agreeing a x.within x.at i due recorded) (mod-eq_of_lt h)
    ∙ ap₂ (agreeing x.lines x.within x.at i) ed er)
