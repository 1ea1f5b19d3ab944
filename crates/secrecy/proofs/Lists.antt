-- Lists that are tables of a function, and parts of lists: what they hang on.
use mathlib.Core.Path.{◌≡◌, refl, sym, ◌∙◌}
use mathlib.Core.List.{List}
use Prim.Native.Nat.{ℕ, zero, suc, ◌+◌, ◌≤◌, ◌<◌}
use native.Mathlib.Omega.{arith}
use lib.ListN.{length, get_or, take, drop, length-take, length-drop}
use lib.Seq.{ext_get_or, get_or-take, get_or-drop}
use Rattle.rules.specs.Words.{tab_from, part}

pub tab-same : {A : Type 0} (i n : ℕ) (f g : ℕ → A) → ((j : ℕ) → i ≤ j → j < i + n → f j ≡ g j) → tab_from i n f ≡ tab_from i n g
unfolding tab_from
tab-same i zero f g e = refl
tab-same i (suc n) f g e = rw (e i (omega arith) (omega arith), tab-same (suc i) n f g (λ j lo hi. e j (omega arith) (omega arith)))

-- parts of two lists of one length that agree there
pub part_same : (s t : List ℕ) (i n : ℕ) → length s ≡ length t → ((j : ℕ) → j < n → get_or s (i + j) 0 ≡ get_or t (i + j) 0) → part s i n ≡ part t i n
unfolding part
part_same s t i n e g =
    let es : length (take n (drop i s)) ≡ length (take n (drop i t)) = simp (length-take, length-drop) (rw e) in
    ext_get_or 0 (take n (drop i s)) (take n (drop i t)) es (λ j l.
    let short : j < n = omega (arith, rw (length-take n (drop i s)) at l) in
    get_or-take n (drop i s) j 0 short ∙ get_or-drop i s j 0 ∙ g j short ∙ sym (get_or-take n (drop i t) j 0 short ∙ get_or-drop i t j 0))
