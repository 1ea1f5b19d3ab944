-- `status::status_of` meets its contract: refused, or the sixteen bytes of the object that is seen.
use Rattle.calls.proofs.Statuses.{StatusJudged, wrong_length, right_length, class-small, in_cells, told-fits, status-refused, status-done}
use Rattle.layout.specs.Kinds.{kind_of}
use mathlib.Core.Path.{refl, ◌∙◌}
use Rattle.calls.proofs.status.status_of.Goals.{In_ok-find}
use Rattle.calls.proofs.status.status_of.Goals as goal

judged : (c : In_ok-find) → StatusJudged c.args.t.now c.args.on.n c.args.on.me (kind_of c.args.kind) c.args.s c.args.buffer.now c.look-x.result 0
judged c = right_length c.requires.sound (kind_of c.args.kind) _ _ c.look-x.ensures c.in_ok-refuse.ensures c.in_ok-find.ensures

pub returns-in_err-refuse : goal.returns-in_err-refuse
returns-in_err-refuse c =
    status-refused (wrong_length c.requires.sound (kind_of c.args.kind) _ _ c.look-x.ensures _ c.in_err-refuse.ensures) _ _ refl
    c.from_residual.ensures.0 c.from_residual.ensures.1

pub returns-in_err-find : goal.returns-in_err-find
returns-in_err-find c =
    status-refused (right_length c.requires.sound (kind_of c.args.kind) _ _ c.look-x.ensures c.in_ok-refuse.ensures c.in_err-find.ensures) _ _ refl
    c.from_residual-in_err-find.ensures.0 c.from_residual-in_err-find.ensures.1

pub tell-told-requires : goal.tell-told-requires
tell-told-requires c = (
  c.requires.sound.known.conf,
  class-small (kind_of c.args.kind) c.class.ensures,
  in_cells (judged (goal.at.tell-told-requires c).In_ok-find) refl,
)

pub copy_from_slice-requires : goal.copy_from_slice-requires
copy_from_slice-requires c = told-fits (judged (goal.at.copy_from_slice-requires c).In_ok-find) refl _ _ _ _ _ _ c.tell-told.ensures

pub returns : goal.returns
returns c =
    status-done (judged (goal.at.returns c).In_ok-find) refl c.class.ensures c.read-owner.ensures c.read-group.ensures
    (c.read-bits.ensures ∙ rw c.bits_word.ensures) (c.copy_from_slice.ensures.after ∙ c.tell-told.ensures)
