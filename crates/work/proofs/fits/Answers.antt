-- `fits` meets its contract: a table of another shape and a slice of another length are told, and else the whole is looked at.
use mathlib.Core.Path.{◌≡◌, sym, ◌∙◌}
use native.Mathlib.Omega.{arith}
use lib.ListN.{length}
use Rattle.rules.specs.Work.{work_in}
use Rattle.table.proofs.Config.{header_read}
use Rattle.table.proofs.Formed.{shaped_of}
use Rattle.work.proofs.Joined.{stands-all}
use Rattle.work.proofs.Whole.{fits-bad, fits-other, fits-seen}
use Rattle.work.proofs.fits.Goals as goal

pub returns-then-not-can_set_up : goal.returns-then-not-can_set_up
returns-then-not-can_set_up c =
    fits-bad _ _ _ (sym c.can_set_up.ensures ∙ c.if-not-can_set_up.true)

pub invariant_of-table : goal.invariant_of-table
invariant_of-table c =
    record { shaped = shaped_of _ _ (sym c.can_set_up.ensures ∙ c.if-not-can_set_up.false) _ (header_read _ _ c.header_of-n.ensures) }

pub returns-then-whole_length-w : goal.returns-then-whole_length-w
returns-then-whole_length-w c =
    fits-other _ _ _ (sym c.can_set_up.ensures ∙ c.if-not-can_set_up.false) (λ e. omega (arith, e, c.if-whole_length-w.true, c.whole_length.ensures))

pub returns : goal.returns
returns c =
    let a = c.args in
    let long : length a.w.now ≡ length (work_in a.t.now) = omega (arith, c.if-whole_length-w.false, c.whole_length.ensures) in
    fits-seen _ _ _ (sym c.can_set_up.ensures ∙ c.if-not-can_set_up.false) _ (c.pass.ensures.1 ∙ stands-all _ _ long)
