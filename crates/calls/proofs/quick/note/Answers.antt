-- `quick::note` meets its contract: by the call.
use mathlib.Core.Path.{ap}
use Rattle.calls.specs.declared.code.Code.TheVariants.{ReleaseSegment, Close}
use Rattle.calls.specs.Codes.{code_number}
use Rattle.calls.proofs.Named.{same-call}
use Rattle.calls.proofs.QuickSteps.{note-segment, note-file, note-other}
use Rattle.calls.proofs.quick.note.Goals as goal

pub returns-in-ReleaseSegment : goal.returns-in-ReleaseSegment
returns-in-ReleaseSegment c = note-segment _ _ _ (ap code_number c.in-ReleaseSegment.is) c.entry_of.ensures

pub returns-in-Close : goal.returns-in-Close
returns-in-Close c = note-file _ _ _ (ap code_number c.in-Close.is) c.entry_of-in-Close.ensures

pub returns-in_default : goal.returns-in_default
returns-in_default c = note-other _ _ _ (λ e. c.in_default.not-ReleaseSegment (same-call c.args.code ReleaseSegment e))
    (λ e. c.in_default.not-Close (same-call c.args.code Close e)) c.or_self.ensures
