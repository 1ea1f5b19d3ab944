-- `files::create` meets its contract: the rule's refusals in order, and the file made in the slot that was found.
use mathlib.Core.Path.{sym, ◌∙◌}
use native.Mathlib.Omega.{arith}
use Rattle.rules.specs.Layout.{file}
use Rattle.rules.specs.Call07.{create}
use Rattle.calls.proofs.Leaves.{left-stopped, left-told, error-named}
use Rattle.calls.proofs.Searches.{serial-rises}
use Rattle.calls.proofs.FilesLaws.{create-args, create-under, create-no-entry, create-no-slot, create-passed, create-entry, create-seid, create-words}
use Rattle.calls.proofs.files.create.Goals as goal

pub returns-in_err-refuse : goal.returns-in_err-refuse
returns-in_err-refuse c =
    λ buffer. left-stopped _ (λ h q. create h q _ _ _ c.args.by buffer) _ _
    (create-args c.requires.0 _ _ c.args.by buffer _ (rw c.valid.ensures at c.in_err-refuse.ensures))
    c.from_residual.ensures.0 c.from_residual.ensures.1

pub returns-in_err-under : goal.returns-in_err-under
returns-in_err-under c =
    λ buffer. left-stopped _ (λ h q. create h q _ _ _ _ buffer) _ _
    (create-under c.requires.0 _ _ _ buffer (rw c.valid.ensures at c.in_ok-refuse.ensures) _ c.in_err-under.ensures.refusals)
    c.from_residual-in_err-under.ensures.0 c.from_residual-in_err-under.ensures.1

pub returns-in_err-d : goal.returns-in_err-d
returns-in_err-d c =
    λ buffer. left-stopped _ (λ h q. create h q _ _ _ _ buffer) _ _
    (error-named _ _ _ c.in_err-d.ensures.value
    ∙ create-no-entry c.requires.0 _ _ _ buffer (rw c.valid.ensures at c.in_ok-refuse.ensures) c.in_ok-under.ensures.refusals
    (sym c.in_err-d.ensures.ok_part ∙ c.free_entry.ensures))
    c.from_residual-in_err-d.ensures.0 c.from_residual-in_err-d.ensures.1

pub returns-in_err-i : goal.returns-in_err-i
returns-in_err-i c =
    λ buffer. left-stopped _ (λ h q. create h q _ _ _ _ buffer) _ _
    (error-named _ _ _ c.in_err-i.ensures.value
    ∙ create-no-slot c.requires.0 _ _ _ buffer (rw c.valid.ensures at c.in_ok-refuse.ensures) c.in_ok-under.ensures.refusals
    (sym c.in_ok-d.ensures.ok_part ∙ c.free_entry.ensures) (sym c.in_err-i.ensures.ok_part ∙ c.requires.1))
    c.from_residual-in_err-i.ensures.0 c.from_residual-in_err-i.ensures.1

pub overflow_add-serial : goal.overflow_add-serial
overflow_add-serial c =
    record { fits = omega (arith, serial-rises c.requires.0 file (sym c.in_ok-i.ensures.ok_part ∙ c.requires.1) c.read-serial.ensures) }

pub returns : goal.returns
returns c =
    let slot = sym c.in_ok-i.ensures.ok_part ∙ c.requires.1 in
    let entry = sym c.in_ok-d.ensures.ok_part ∙ c.free_entry.ensures in
    λ buffer. left-told _ (λ h q. create h q _ _ _ _ buffer)
    (create-passed c.requires.0 _ _ c.args.by buffer (rw c.valid.ensures at c.in_ok-refuse.ensures) c.in_ok-under.ensures.refusals entry slot)
    (create-seid c.requires.0 c.args.a c.args.b c.args.by buffer slot c.read-serial.ensures c.seid-s.ensures)
    (create-entry c.requires.0 c.args.a c.args.b c.args.by buffer entry)
    (create-words c.requires.0 _ _ _ buffer slot entry c.read-serial.ensures c.read-owner.ensures c.read-group.ensures c.seid-s.ensures
    c.in_ok-under.ensures.subtype c.record_at-at.ensures.0 c.make.ensures c.put.ensures c.entry_at.ensures.0 c.enter.ensures)
