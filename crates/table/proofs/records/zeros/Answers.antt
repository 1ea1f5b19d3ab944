-- `records::zeros` meets its contract: `all` is zero exactly if every word passed is.
use Rattle.std.proofs.Common.{◌≡◌, ℕ, ◌+◌, ◌-◌, ◌<◌, ◌≤◌, ◌&&◌, eqb, List, length, get_or, take, drop, ap, ◌∙◌, arith, eq-eqb, eqb-true, length-take-le, length-drop}
use Rattle.std.proofs.lemmas.List.{get_or-take, get_or-drop}
use lib.Bits.{bit_or, or_add_and, and_le_l, and_le_r}
use Rattle.laws.proofs.Tests.{and_left, and_right, and_both, same_test}
use Rattle.table.proofs.Loops.{all_first, all-next, all-last}
use Rattle.table.proofs.records.zeros.Goals as goal

-- two words put together are zero exactly if both are
or-zero : (a b : ℕ) → eqb (bit_or a b) 0 ≡ eqb a 0 && eqb b 0
or-zero a b =
    same_test (eqb (bit_or a b) 0) (eqb a 0 && eqb b 0)
    (λ e.
    let none : bit_or a b ≡ 0 = eqb-true (bit_or a b) 0 e in
    and_both (eqb a 0) (eqb b 0) (eq-eqb a 0 (omega (arith, none, or_add_and a b, and_le_r a b))) (eq-eqb b 0 (omega (arith, none, or_add_and a b, and_le_l a b))))
    (λ e.
    let first : a ≡ 0 = eqb-true a 0 (and_left (eqb a 0) (eqb b 0) e) in
    let second : b ≡ 0 = eqb-true b 0 (and_right (eqb a 0) (eqb b 0) e) in
    eq-eqb (bit_or a b) 0 (omega (arith, first, second, or_add_and a b)))

-- the words looked at are n, and lie where the clause says
module _ (t : List ℕ) (place from n : ℕ) (fits : place + (from + n) ≤ length t) where
  abbrev span : ℕ
  span = place + (from + n) - (place + from)

  abbrev looked_at : List ℕ
  looked_at = take span (drop (place + from) t)

  all-of-them : length looked_at ≡ n
  all-of-them =
      let end : span ≡ n = omega arith in
      length-take-le span (drop (place + from) t) (omega (arith, length-drop (place + from) t)) ∙ end

  word-at : (j : ℕ) → j < n → get_or looked_at j 0 ≡ get_or t (place + (from + j)) 0
  word-at j low =
      let same : place + from + j ≡ place + (from + j) = omega arith in
      get_or-take span (drop (place + from) t) j 0 (omega arith) ∙ get_or-drop (place + from) t j 0 ∙ ap (λ (i : ℕ). get_or t i 0) same

pub loop-w-init : goal.loop-w-init
loop-w-init c = all_first _

pub loop-w-preserved : goal.loop-w-preserved
loop-w-preserved c =
    let a = c.args in
    let low : c.loop-w.w-index < a.n = omega (arith, c.loop-w-test.true, all-of-them a.t.now a.at a.from a.n c.requires) in
    or-zero c.loop-w.all _
    ∙ all-next _ c.loop-w.invariant (ap (λ (x : ℕ). eqb x 0) (word-at a.t.now a.at a.from a.n c.requires c.loop-w.w-index low))

pub returns : goal.returns
returns c =
    let a = c.args in
    all-last _ c.loop-w.invariant c.loop-w.auto.w-index-end c.loop-w-test.false (all-of-them a.t.now a.at a.from a.n c.requires)
