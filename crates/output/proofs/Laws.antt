-- Texts written one after the other are their joined text; a text that fits stands in the buffer.
use mathlib.Core.List.{List, [], ◌∷◌, ◌++◌, append_assoc}
use mathlib.Core.Path.{◌≡◌, refl, sym, ap, ◌∙◌, subst}
use Prim.Native.Nat.{ℕ, suc, ◌+◌, ◌≤◌}
use native.Mathlib.Omega.{arith}
use native.Mathlib.Nat.{add-zero, add-suc, suc-add}
use native.Mathlib.Decide.{dec_le}
use lib.ListN.{length, take, drop, set, length-append}
use lib.Seq.{sets, length-sets, sets-eq, set_out, take_at}
use Rattle.output.specs.Wrote.{Wrote}

-- a run of stores past the end changes nothing
pub sets-out : (l : List ℕ) (i : ℕ) (s : List ℕ) → length l ≤ i → sets l i s ≡ l
sets-out l i [] h = refl
sets-out l i (b ∷ s) h = ap (λ (k : List ℕ). sets k (suc i) s) (set_out l i b h) ∙ sets-out l (suc i) s (omega arith)

-- one run of stores, and then another where it ends
pub sets-append : (l : List ℕ) (i : ℕ) (s t : List ℕ) → sets (sets l i s) (i + length s) t ≡ sets l i (s ++ t)
sets-append l i [] t = rw (add-zero i)
sets-append l i (b ∷ s) t =
    ap (λ (k : ℕ). sets (sets (set l i b) (suc i) s) k t) (add-suc i (length s) ∙ sym (suc-add i (length s)))
    ∙ sets-append (set l i b) (suc i) s t

-- what was stored at the front, and fits, stands there
pub take-sets : (l s : List ℕ) (n : ℕ) → length s ≡ n → n ≤ length l → take n (sets l 0 s) ≡ s
take-sets l s n e h = ap (take n) (sets-eq s l 0 (omega arith)) ∙ ap (take n) (append_assoc (take 0 l) s (drop (0 + length s) l)) ∙ take_at s (drop (0 + length s) l) n e

-- ---- laws on Wrote
pub none : (d : List ℕ) (at : ℕ) → Wrote d at [] at d
none d at = record { next = omega arith; left = refl }

-- one text after another is their joined text
pub then : (d : List ℕ) (at : ℕ) (s : List ℕ) (r : ℕ) (d' s' : List ℕ) (r' : ℕ) (d'' : List ℕ)
    → Wrote d at s r d' → Wrote d' r s' r' d'' → Wrote d at (s ++ s') r' d''
then d at s r d' s' r' d'' p q =
    let e : length d' ≡ length d = ap length p.left ∙ length-sets d at s in
    record {
      next = omega (arith, p.next, q.next, length-append s s');
      left =
          q.left ∙ ap (λ (l : List ℕ). sets l r s') p.left
          ∙ elim (dec_le (at + length s) (length d)) [
            | yes h ↦ let w : r ≡ at + length s = omega (arith, p.next) in rw w (sets-append d at s s')
            | no n ↦ past (omega arith)
          ];
    }
  where
    past : length d ≤ at + length s → sets (sets d at s) r s' ≡ sets d at (s ++ s')
    past h =
        sets-out (sets d at s) r s' (let k = length-sets d at s in omega (arith, p.next))
        ∙ sym (sets-out (sets d at s) (at + length s) s' (let k = length-sets d at s in omega arith))
        ∙ sets-append d at s s'

-- the same text by another name
pub as-text : (d : List ℕ) (at : ℕ) (s s' : List ℕ) (r : ℕ) (d' : List ℕ) → s ≡ s' → Wrote d at s r d' → Wrote d at s' r d'
as-text d at s s' r d' e w = subst (λ (x : List ℕ). Wrote d at x r d') e w

pub same_size : (d : List ℕ) (at : ℕ) (s : List ℕ) (r : ℕ) (d' : List ℕ) → Wrote d at s r d' → length d' ≡ length d
same_size d at s r d' w = ap length w.left ∙ length-sets d at s

-- a text that fits: where it ends, and what stands in the buffer up to there
pub fits : (d s : List ℕ) (r : ℕ) (d' : List ℕ) → Wrote d 0 s r d' → length s ≤ length d → (r ≡ length s) × (take r d' ≡ s)
fits d s r d' w h =
    let e : r ≡ length s = omega (arith, w.next) in
    (e, ap (take r) w.left ∙ take-sets d s r (sym e) (omega arith))
