-- `files::give_up` meets its contract: the rule's two refusals, and the entry given up.
use mathlib.Core.Path.{refl, ap, ◌∙◌}
use Rattle.calls.specs.declared.entries.Entry.{Entry}
use Rattle.calls.proofs.Leaves.{left-stopped, left-told}
use Rattle.calls.proofs.files.give_up.Goals as goal

pub returns-in_err-refuse : goal.returns-in_err-refuse
returns-in_err-refuse c =
    λ buffer. left-stopped _ _ _ _ (rw (c.wide.ensures, c.entry_of-d.ensures) at c.in_err-refuse.ensures)
    c.from_residual.ensures.0 c.from_residual.ensures.1

pub returns : goal.returns
returns c =
    λ buffer. left-told _ _ (rw (c.wide.ensures, c.entry_of-d.ensures) at c.in_ok-refuse.ensures) refl refl
    (c.give_up_entry.ensures ∙ rw (ap (λ (x : Entry). x.held) c.entry_of-d.ensures))
