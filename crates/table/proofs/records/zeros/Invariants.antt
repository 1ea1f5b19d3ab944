-- `records::zeros` meets its contract: `all` is zero exactly if every word passed is.
use Rattle.std.proofs.Common.{◌≡◌, ◌+◌, eqb, get_or}
use Rattle.rules.specs.Words.{all_below}
use Rattle.table.proofs.records.zeros.Given as goal

abbrev pub invariant-loop-w : goal.invariant-loop-w
invariant-loop-w l = eqb l.all 0 ≡ all_below l.w-index (λ j. eqb (get_or l.t (l.at + (l.from + j)) 0) 0)
