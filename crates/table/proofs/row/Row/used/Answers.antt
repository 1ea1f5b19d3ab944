-- `row::Row::used` meets its contract: where all words are zero no entry is used; else the used entries passed are squeezed to the front, and the one put at its end
-- counts only where it is used.
use Rattle.std.proofs.Common.{not, sym, ◌∙◌, arith, length-set, rules}
use Rattle.table.specs.Entries.{unused}
use Rattle.table.proofs.Listed.{bool-number, squeezed-none, squeezed-zeros, squeezed-next}
use Rattle.table.proofs.row.Row.used.Goals as goal

pub returns-then-zeros : goal.returns-then-zeros
returns-then-zeros c =
    squeezed-zeros c.args.self.t.now c.args.self.from c.args.list.now (sym c.zeros.ensures ∙ c.if-zeros.true)

pub loop-d-init : goal.loop-d-init
loop-d-init c = (search rules, search rules, squeezed-none _ _ _)

pub loop-d-preserved : goal.loop-d-preserved
loop-d-preserved c =
    let l = c.loop-d in
    let x = l.invariant.2 in (
      search rules,
      simp length-set l.invariant.1,
      rw c.entry-e.ensures
          (squeezed-next c.args.self.t.now c.args.self.from l.list l.n l.d x (omega (arith, x.lists.few)) l.invariant.1 _ (c.from-n.ensures ∙ rw c.entry-e.ensures (bool-number (not (unused c.args.self.t.now c.args.self.from l.d))))),
    )
