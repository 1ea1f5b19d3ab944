-- `files::link` meets its contract: the rule's refusals in order, and one link more, which fits a byte.
use mathlib.Core.Path.{refl, ◌∙◌}
use mathlib.Core.List.{[]}
use native.Mathlib.Omega.{arith}
use Rattle.rules.specs.Call10.{link}
use Rattle.calls.proofs.Leaves.{left-stopped, left-told}
use Rattle.calls.proofs.FilesLaws.{link-owned, link-counted, link-words, links-few}
use Rattle.calls.proofs.files.link.Goals as goal

pub returns-in_err-own : goal.returns-in_err-own
returns-in_err-own c =
    λ buffer. left-stopped _ (λ h q. link h q _ _ buffer) _ _
    (link-owned c.requires.sound _ buffer c.or_self-s.ensures c.look-f.ensures c.read-links.ensures _ c.in_err-own.ensures)
    c.from_residual.ensures.0 c.from_residual.ensures.1

pub returns-in_err-refuse : goal.returns-in_err-refuse
returns-in_err-refuse c =
    λ buffer. left-stopped _ (λ h q. link h q _ _ buffer) _ _
    (link-counted c.requires.sound _ buffer c.or_self-s.ensures c.look-f.ensures c.read-links.ensures c.in_ok-own.ensures c.in_err-refuse.ensures)
    c.from_residual-in_err-refuse.ensures.0 c.from_residual-in_err-refuse.ensures.1

pub overflow_add-links : goal.overflow_add-links
overflow_add-links c =
    record {
      fits = omega (arith, links-few c.requires.sound _ [] c.or_self-s.ensures c.look-f.ensures c.read-links.ensures c.in_ok-own.ensures);
    }

pub returns : goal.returns
unfolding link
returns c =
    λ buffer. left-told _ (λ h q. link h q _ _ buffer)
    (link-counted c.requires.sound _ buffer c.or_self-s.ensures c.look-f.ensures c.read-links.ensures c.in_ok-own.ensures c.in_ok-refuse.ensures) refl refl
    (c.write.ensures ∙ link-words c.requires.sound _ buffer c.or_self-s.ensures c.look-f.ensures c.read-links.ensures c.in_ok-own.ensures)
