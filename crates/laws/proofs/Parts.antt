-- A part of a list: what is in it, and what is left of the list when a part is written back.
use mathlib.Core.Path.{◌≡◌, refl, sym, ap, ◌∙◌}
use mathlib.Core.List.{List, [], ◌∷◌, ◌++◌, append_assoc}
use Prim.Native.Nat.{ℕ, zero, suc, ◌+◌, ◌≤◌, ◌<◌}
use native.Mathlib.Omega.{arith}
use native.Mathlib.Decide.{dec_lt}
use lib.ListN.{length, get_or, set, take, drop, length-drop, drop_of_length-le}
use lib.Seq.{ext_get_or, drop-cons, drop-drop, get_or-take, get_or-drop, length-take-le, sets, sets-eq}
use Rattle.rules.specs.Words.{part}

-- no more than is asked for
pub take_short : (n : ℕ) (l : List ℕ) → length (take n l) ≤ n
take_short zero l = omega arith
take_short (suc n) [] = omega arith
take_short (suc n) (x ∷ l) = omega (arith, take_short n l)

pub part-short : (l : List ℕ) (at n : ℕ) → length (part l at n) ≤ n
unfolding part
part-short l at n = take_short n (drop at l)

-- a part that lies inside
pub part-long : (l : List ℕ) (at n : ℕ) → at + n ≤ length l → length (part l at n) ≡ n
unfolding part
part-long l at n h = length-take-le n (drop at l) (omega (arith, length-drop at l))

pub part_at : (l : List ℕ) (at n i : ℕ) → i < n → get_or (part l at n) i 0 ≡ get_or l (at + i) 0
unfolding part
part_at l at n i h = get_or-take n (drop at l) i 0 h ∙ get_or-drop at l i 0

-- two lists that agree there have one part
pub same-part : (l m : List ℕ) (at n : ℕ) → at + n ≤ length l → at + n ≤ length m
    → ((i : ℕ) → at ≤ i → i < at + n → get_or l i 0 ≡ get_or m i 0) → part l at n ≡ part m at n
same-part l m at n h k same =
    let e = part-long l at n h in
    let f = part-long m at n k in
    ext_get_or 0 (part l at n) (part m at n) (e ∙ sym f) (λ i b. part_at l at n i (omega arith) ∙ same (at + i) (omega arith) (omega arith)
    ∙ sym (part_at m at n i (omega arith)))

-- an element, or a part, written back as it stands
set_self : (l : List ℕ) (i : ℕ) → i < length l → set l i (get_or l i 0) ≡ l
set_self [] i h = absurd (omega arith)
set_self (x ∷ l) zero h = refl
set_self (x ∷ l) (suc i) h = ap (λ (m : List ℕ). x ∷ m) (set_self l i (omega arith))

sets-take : (n at : ℕ) (l : List ℕ) → sets l at (take n (drop at l)) ≡ l
sets-take zero at l = refl
sets-take (suc n) at l = elim (dec_lt at (length l)) [
  | yes h ↦
      ap (λ (m : List ℕ). sets l at (take (suc n) m)) (drop-cons l at 0 h)
      ∙ ap (λ (m : List ℕ). sets m (suc at) (take n (drop (suc at) l))) (set_self l at h)
      ∙ sets-take n (suc at) l
  | no h ↦ ap (λ (m : List ℕ). sets l at (take (suc n) m)) (drop_of_length-le l {i = at} (omega arith))
]

pub sets-part : (l : List ℕ) (at n : ℕ) → sets l at (part l at n) ≡ l
unfolding part
sets-part l at n = sets-take n at l

-- a lent part that comes back
pub part-back : (l vs : List ℕ) (at n : ℕ) → at + n ≤ length l → length vs ≡ n → take at l ++ (vs ++ drop n (drop at l)) ≡ sets l at vs
part-back l vs at n h e =
    let d : drop n (drop at l) ≡ drop (at + length vs) l = drop-drop n at l ∙ ap (λ (k : ℕ). drop (at + k) l) (sym e) in
    ap (λ (m : List ℕ). take at l ++ (vs ++ m)) d ∙ sym (append_assoc (take at l) vs (drop (at + length vs) l)) ∙ sym (sets-eq vs l at (omega arith))
