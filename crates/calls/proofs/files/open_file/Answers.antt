-- `files::open_file` meets its contract: the rule's refusals in order, and the descriptor filled.
use mathlib.Core.Path.{refl, sym, ◌∙◌}
use mathlib.Core.List.{[]}
use native.Mathlib.Omega.{arith}
use Rattle.rules.specs.Call08.{open_file}
use Rattle.calls.proofs.Leaves.{left-stopped, left-told, error-named}
use Rattle.calls.proofs.Searches.{entry-none, entry-some}
use Rattle.calls.proofs.FilesLaws.{may-clash, open-seen, open-under, open-clash, open-room, open-fits, open-words}
use Rattle.calls.proofs.files.open_file.Goals as goal

pub returns-in_err-may_open : goal.returns-in_err-may_open
returns-in_err-may_open c =
    λ buffer. left-stopped _ (λ h q. open_file h q _ _ _ c.args.by buffer) _ _
    (open-seen c.requires.0.sound _ _ c.args.by buffer c.look-f.ensures c.read-under.ensures _ c.in_err-may_open.ensures)
    c.from_residual.ensures.0 c.from_residual.ensures.1

pub returns-in_err-may_open_under : goal.returns-in_err-may_open_under
returns-in_err-may_open_under c =
    λ buffer. left-stopped _ (λ h q. open_file h q _ _ _ _ buffer) _ _
    (open-under c.requires.0.sound _ _ _ buffer c.look-f.ensures c.read-under.ensures c.in_ok-may_open.ensures _ c.in_err-may_open_under.ensures)
    c.from_residual-in_err-may_open_under.ensures.0 c.from_residual-in_err-may_open_under.ensures.1

pub is_busy-clashing-requires : goal.is_busy-clashing-requires
is_busy-clashing-requires c = (
  c.requires.0.sound,
  may-clash c.requires.0.sound _ _ c.args.by [] c.look-f.ensures c.read-under.ensures c.in_ok-may_open.ensures c.read-opens.ensures,
  c.requires.1,
)

pub returns-in_err-refuse : goal.returns-in_err-refuse
returns-in_err-refuse c =
    λ buffer. left-stopped _ (λ h q. open_file h q _ _ _ _ buffer) _ _
    (open-clash c.requires.0.sound _ _ _ buffer c.look-f.ensures c.read-under.ensures c.in_ok-may_open.ensures c.in_ok-may_open_under.ensures _
    (rw c.is_busy-clashing.ensures at c.in_err-refuse.ensures))
    c.from_residual-in_err-refuse.ensures.0 c.from_residual-in_err-refuse.ensures.1

pub returns-in_err-d : goal.returns-in_err-d
returns-in_err-d c =
    λ buffer. left-stopped _ (λ h q. open_file h q _ _ _ _ buffer) _ _
    (error-named _ _ _ c.in_err-d.ensures.value
    ∙ open-room c.requires.0.sound _ _ _ buffer c.look-f.ensures c.read-under.ensures c.in_ok-may_open.ensures c.in_ok-may_open_under.ensures
    (rw c.is_busy-clashing.ensures at c.in_ok-refuse.ensures) (entry-none _ _ _ [] (sym c.in_err-d.ensures.ok_part ∙ c.free_entry.ensures)))
    c.from_residual-in_err-d.ensures.0 c.from_residual-in_err-d.ensures.1

pub take_up-requires : goal.take_up-requires
take_up-requires c = (
  c.entry_at-entry.ensures.1,
  c.record_at-object.ensures.1,
  omega (
    arith,
    open-fits c.requires.0.sound _ _ c.args.by [] c.look-f.ensures c.read-under.ensures c.in_ok-may_open.ensures c.record_at-object.ensures.0,
  ),
)

pub returns : goal.returns
unfolding open_file
returns c =
    λ buffer. left-told _ (λ h q. open_file h q _ _ _ _ buffer)
    (open-room c.requires.0.sound _ _ _ buffer c.look-f.ensures c.read-under.ensures c.in_ok-may_open.ensures c.in_ok-may_open_under.ensures
    (rw c.is_busy-clashing.ensures at c.in_ok-refuse.ensures)
    (entry-some _ _ _ _ [] (sym c.in_ok-d.ensures.ok_part ∙ c.free_entry.ensures)).1)
    (entry-some _ _ _ _ [] (sym c.in_ok-d.ensures.ok_part ∙ c.free_entry.ensures)).0 refl
    (c.take_up.ensures
    ∙ open-words c.requires.0.sound _ _ c.args.by buffer c.look-f.ensures c.read-under.ensures c.in_ok-may_open.ensures
    (entry-some _ _ _ _ [] (sym c.in_ok-d.ensures.ok_part ∙ c.free_entry.ensures)).0 c.entry_at-entry.ensures.0 c.record_at-object.ensures.0)
