-- `begin_quick` meets its contract: what judging hands on, where the working slice is the table's.
use mathlib.Core.Path.{◌∙◌}
use Rattle.calls.proofs.QuickLaws.{begun-fits, begun-other}
use Rattle.calls.proofs.trays.begin_quick.Goals as goal

pub returns-then-fits : goal.returns-then-fits
returns-then-fits c = c.begin-hall.ensures ∙ begun-fits _ _ _ _ c.fits.ensures c.if-fits.true

pub returns : goal.returns
returns c = begun-other _ _ _ _ c.fits.ensures c.if-fits.false
