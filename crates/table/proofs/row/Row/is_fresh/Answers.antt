-- `row::Row::is_fresh` meets its contract: an empty entry is passed over; else no entry passed holds the same, and one that does decides.
use Rattle.std.proofs.Common.{◌≡◌, ℕ, not, sym, refl, ap, ◌∙◌, rules, eq-eqb, ne_eqb}
use Rattle.table.specs.Entries.{held_word}
use Rattle.table.proofs.Loops.{all_first, all-next, all-last}
use Rattle.table.proofs.Alive.{fresh-empty, fresh-next}
use Rattle.table.proofs.Object.{all-not}
use Rattle.table.proofs.row.Row.is_fresh.Goals.{After-held}
use Rattle.table.proofs.row.Row.is_fresh.Goals as goal

-- the entry holds something
some : (c : After-held) → held_word c.args.self.t.now c.args.self.from c.args.e ≡ 0 → ⊥
some c z = c.if-s-eq0.false (c.held-s.ensures ∙ z)

pub returns-then-s-eq0 : goal.returns-then-s-eq0
returns-then-s-eq0 c =
    fresh-empty (held_word c.args.self.t.now c.args.self.from) c.args.e (sym c.held-s.ensures ∙ c.if-s-eq0.true)

pub loop-d-init : goal.loop-d-init
loop-d-init c = (search rules, all_first _)

pub returns-then-held-s : goal.returns-then-held-s
returns-then-held-s c =
    let word : ℕ → ℕ = held_word c.args.self.t.now c.args.self.from in
    let same : word c.loop-d.d ≡ word c.args.e = sym c.held.ensures ∙ c.if-held-s.true ∙ c.held-s.ensures in
    let next = fresh-next word c.args.e (some (goal.at.returns-then-held-s c).After-held) c.loop-d.d in
    sym (all-not _ _ c.loop-d.d c.loop-d-test.true (sym next ∙ ap not (eq-eqb _ _ same)))

pub loop-d-preserved : goal.loop-d-preserved
loop-d-preserved c =
    let word : ℕ → ℕ = held_word c.args.self.t.now c.args.self.from in
    let other : word c.loop-d.d ≡ word c.args.e → ⊥ = λ q. c.if-held-s.false (c.held.ensures ∙ q ∙ sym c.held-s.ensures) in
    let next = fresh-next word c.args.e (some (goal.at.loop-d-preserved c).After-held) c.loop-d.d in
    (search rules, all-next _ c.loop-d.invariant.1 (sym (ap not (ne_eqb _ _ other)) ∙ next))

pub returns : goal.returns
returns c = all-last _ c.loop-d.invariant.1 c.loop-d.invariant.0 c.loop-d-test.false refl
