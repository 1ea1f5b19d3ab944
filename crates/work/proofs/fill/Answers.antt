-- `fill` meets its contract: a bad table and a slice of another length are refused, and else the whole is laid down.
use mathlib.Core.Path.{◌≡◌}
use native.Mathlib.Omega.{arith}
use borrow.Author.Rules.{rules}
use lib.ListN.{length}
use Rattle.rules.specs.Work.{work_in}
use Rattle.work.proofs.Whole.{fill-bad, fill-other, fill_done}
use Rattle.work.proofs.fill.Goals as goal

pub returns-in_default : goal.returns-in_default
returns-in_default c =
    let told = fill-bad _ _ _ c.in_default.ensures in
    record { value = told.0; w_after = told.1 }

pub returns-then-w-whole_length : goal.returns-then-w-whole_length
returns-then-w-whole_length c =
    let whole = rw c.in-Some.ensures.1 at c.whole_length.ensures in
    let told = fill-other _ _ _ c.in-Some.ensures.0 (λ e. omega (arith, e, c.if-w-whole_length.true, whole)) in
    record { value = told.0; w_after = told.1 }

pub returns : goal.returns
returns c =
    let a = c.args in
    let whole = rw c.in-Some.ensures.1 at c.whole_length.ensures in
    let long : length a.w.now ≡ length (work_in a.t.now) = omega (arith, c.if-w-whole_length.false, whole) in
    let told = fill_done _ _ _ c.in-Some.ensures.0 long _ c.in-Some.table.t.now c.in-Some.ensures.1 (search rules) in
    record { value = told.0; w_after = told.1 }
