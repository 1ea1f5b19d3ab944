-- `files::unlink` meets its contract: the rule's refusals in order, and one link less.
use mathlib.Core.Path.{refl, ◌∙◌}
use Rattle.rules.specs.Call11.{unlink}
use Rattle.calls.proofs.Leaves.{left-stopped, left-told}
use Rattle.calls.proofs.FilesLaws.{unlink-owned, unlink-counted, unlink-words}
use Rattle.calls.proofs.files.unlink.Goals as goal

pub returns-in_err-own : goal.returns-in_err-own
returns-in_err-own c =
    λ buffer. left-stopped _ (λ h q. unlink h q _ _ buffer) _ _
    (unlink-owned c.requires.sound _ buffer c.or_self-s.ensures c.look-f.ensures c.read-links.ensures _ c.in_err-own.ensures)
    c.from_residual.ensures.0 c.from_residual.ensures.1

pub returns-in_err-refuse : goal.returns-in_err-refuse
returns-in_err-refuse c =
    λ buffer. left-stopped _ (λ h q. unlink h q _ _ buffer) _ _
    (unlink-counted c.requires.sound _ buffer c.or_self-s.ensures c.look-f.ensures c.read-links.ensures c.in_ok-own.ensures c.in_err-refuse.ensures)
    c.from_residual-in_err-refuse.ensures.0 c.from_residual-in_err-refuse.ensures.1

pub returns : goal.returns
unfolding unlink
returns c =
    λ buffer. left-told _ (λ h q. unlink h q _ _ buffer)
    (unlink-counted c.requires.sound _ buffer c.or_self-s.ensures c.look-f.ensures c.read-links.ensures c.in_ok-own.ensures c.in_ok-refuse.ensures) refl refl
    (c.drop_link.ensures ∙ unlink-words c.requires.sound _ buffer c.or_self-s.ensures c.look-f.ensures c.read-links.ensures c.in_ok-own.ensures)
