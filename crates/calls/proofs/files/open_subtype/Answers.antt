-- `files::open_subtype` meets its contract: the rule's refusals in order, and the descriptor filled.
use mathlib.Core.Path.{refl, sym, ◌∙◌}
use mathlib.Core.List.{[]}
use Rattle.rules.specs.Call08.{open_subtype}
use Rattle.calls.proofs.Leaves.{left-stopped, left-told, error-named}
use Rattle.calls.proofs.Searches.{entry-none, entry-some}
use Rattle.calls.proofs.FilesLaws.{may-clash-subtype, subtype-open, subtype-clash, subtype-room, subtype-words}
use Rattle.calls.proofs.files.open_subtype.Goals as goal

pub returns-in_err-may_open : goal.returns-in_err-may_open
returns-in_err-may_open c =
    λ buffer. left-stopped _ (λ h q. open_subtype h q _ _ _ buffer) _ _
    (subtype-open c.requires.0 _ _ buffer c.look_subtype-f.ensures _ c.in_err-may_open.ensures)
    c.from_residual.ensures.0 c.from_residual.ensures.1

pub is_busy-clashing-requires : goal.is_busy-clashing-requires
is_busy-clashing-requires c =
    (c.requires.0, λ own. may-clash-subtype c.requires.0 _ _ [] c.look_subtype-f.ensures c.in_ok-may_open.ensures refl, tt)

pub returns-in_err-refuse : goal.returns-in_err-refuse
returns-in_err-refuse c =
    λ buffer. left-stopped _ (λ h q. open_subtype h q _ _ _ buffer) _ _
    (subtype-clash c.requires.0 _ _ buffer c.look_subtype-f.ensures c.in_ok-may_open.ensures _
    (rw c.is_busy-clashing.ensures at c.in_err-refuse.ensures))
    c.from_residual-in_err-refuse.ensures.0 c.from_residual-in_err-refuse.ensures.1

pub returns-in_err-d : goal.returns-in_err-d
returns-in_err-d c =
    λ buffer. left-stopped _ (λ h q. open_subtype h q _ _ _ buffer) _ _
    (error-named _ _ _ c.in_err-d.ensures.value
    ∙ subtype-room c.requires.0 _ _ buffer c.look_subtype-f.ensures c.in_ok-may_open.ensures
    (rw c.is_busy-clashing.ensures at c.in_ok-refuse.ensures) (entry-none _ _ _ [] (sym c.in_err-d.ensures.ok_part ∙ c.free_entry.ensures)))
    c.from_residual-in_err-d.ensures.0 c.from_residual-in_err-d.ensures.1

pub returns : goal.returns
unfolding open_subtype
returns c =
    λ buffer. left-told _ (λ h q. open_subtype h q _ _ _ buffer)
    (subtype-room c.requires.0 _ _ buffer c.look_subtype-f.ensures c.in_ok-may_open.ensures
    (rw c.is_busy-clashing.ensures at c.in_ok-refuse.ensures)
    (entry-some _ _ _ _ [] (sym c.in_ok-d.ensures.ok_part ∙ c.free_entry.ensures)).1)
    (entry-some _ _ _ _ [] (sym c.in_ok-d.ensures.ok_part ∙ c.free_entry.ensures)).0 refl
    (c.enter.ensures
    ∙ subtype-words c.requires.0 _ _ buffer c.look_subtype-f.ensures
    (entry-some _ _ _ _ [] (sym c.in_ok-d.ensures.ok_part ∙ c.free_entry.ensures)).0 c.entry_at.ensures.0)
