-- `image::read_words` meets its contract: the words so far are read, and the rest of the image has the others.
use native.Mathlib.Omega.{arith}
use Rattle.image.proofs.Scanned.{scan-within, scan-number, scan-none, reading-more, reading-stops, reading-all}
use Rattle.image.proofs.read_words.Goals as goal

pub returns-in_default : goal.returns-in_default
returns-in_default c =
    reading-stops _ _ _ _ _ c.loop-w.invariant (omega arith) (scan-none _ _ c.feed_all-scan.ensures c.in_default.not-Done)

pub slice_bounds-rest-count : goal.slice_bounds-rest-count
slice_bounds-rest-count c = scan-within _ _ c.feed_all-scan.ensures

pub slice_bounds-rest-start : goal.slice_bounds-rest-start
slice_bounds-rest-start c = scan-within _ _ c.feed_all-scan.ensures

pub loop-w-preserved : goal.loop-w-preserved
loop-w-preserved c =
    reading-more _ _ _ _ _ c.loop-w.invariant c.loop-w-test.true _ _
    (scan-number _ _ c.feed_all-scan.ensures _ c.in-Done.is) (omega arith)

pub returns : goal.returns
returns c = reading-all _ _ _ _ _ c.loop-w.invariant (omega arith) (omega arith)
