-- Counts in a list: more at one place, and what several turns counted.
use Rattle.std.proofs.Common.{◌≡◌, ℕ, ◌+◌, ◌<◌, ◌≤◌, Bool, true, cond, ◌&&◌, eqb, List, length, get_or, set, sym, ap, ◌∙◌, add-zero, arith, get_or-set_other, get_or-set_same, eqb-true}
use borrow.Author.Tests.{eqb-false}
use Rattle.laws.proofs.Tests.{and_left, and_right, split}
use Rattle.table.specs.Entries.{Counts}

pub tally-add : (l : List ℕ) (x i v : ℕ) → x < length l → get_or (set l x (get_or l x 0 + v)) i 0 ≡ get_or l i 0 + cond (eqb x i) v 0
tally-add l x i v m =
    split _ (eqb x i)
    (λ q. let e : x ≡ i = eqb-true x i q in rw q (rw (← e) (get_or-set_same l x (get_or l x 0 + v) 0 m)))
    (λ q. rw q (get_or-set_other l x i (get_or l x 0 + v) 0 (λ e. eqb-false x i q (sym e)) ∙ sym (add-zero (get_or l i 0))))

-- before the first turn, one turn more, after the last
pub counts-first : (f : ℕ → ℕ) (l : List ℕ) → ((i : ℕ) → f i ≡ 0) → Counts f 0 true l l
counts-first f l z = record { exact = λ e i m. omega (arith, z i); few = λ i m. omega arith }

pub counts-next : (f g h : ℕ → ℕ) (n : ℕ) (ok right : Bool) (a b c : List ℕ) → Counts f n ok a b → Counts g 1 right b c → ((i : ℕ) → h i ≡ f i + g i)
    → Counts h (n + 1) (ok && right) a c
counts-next f g h n ok right a b c x y e =
    record {
      exact = λ q i m. omega (arith, x.exact (and_left ok right q) i m, y.exact (and_right ok right q) i m, e i);
      few = λ i m. omega (arith, x.few i m, y.few i m);
    }

pub counts-last : (f g : ℕ → ℕ) (n m : ℕ) (ok : Bool) (a b : List ℕ) → Counts f n ok a b → ((i : ℕ) → f i ≡ g i) → n ≤ m → Counts g m ok a b
counts-last f g n m ok a b x e l = record { exact = λ q i k. x.exact q i k ∙ ap (λ (v : ℕ). get_or a i 0 + v) (e i); few = λ i k. omega (arith, x.few i k) }

-- where more is asked
pub counts-also : (f : ℕ → ℕ) (n : ℕ) (ok also : Bool) (a b : List ℕ) → Counts f n ok a b → Counts f n (ok && also) a b
counts-also f n ok also a b x = record { exact = λ q. x.exact (and_left ok also q); few = x.few }
