-- `objects::name_of` meets its contract, kind by kind.
use Rattle.calls.specs.Seen.{named_of}
use mathlib.Core.Path.{◌∙◌}
use Rattle.calls.proofs.objects.name_of.Goals as goal

pub returns-in-Process : goal.returns-in-Process
unfolding named_of
returns-in-Process c = c.name_as.ensures ∙ rw c.in-Process.is

pub returns-in-Segment : goal.returns-in-Segment
unfolding named_of
returns-in-Segment c = c.name_as-in-Segment.ensures ∙ rw c.in-Segment.is

pub returns-in-File : goal.returns-in-File
unfolding named_of
returns-in-File c = c.name_as-in-File.ensures ∙ rw c.in-File.is
