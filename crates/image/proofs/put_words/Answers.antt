-- `image::put_words` meets its contract: the words so far are written.
use mathlib.Core.Path.{sym}
use Rattle.rules.specs.Image.{word_bytes}
use Rattle.output.proofs.Laws.{none, then, as-text}
use Rattle.image.proofs.Lengths.{next_word}
use Rattle.image.proofs.put_words.Goals as goal

pub loop-w-init : goal.loop-w-init
unfolding word_bytes
loop-w-init c = none _ _

pub loop-w-preserved : goal.loop-w-preserved
loop-w-preserved c =
    as-text _ _ _ _ _ _ (sym (next_word _ _ c.loop-w-test.true)) (then _ _ _ _ _ _ _ _ c.loop-w.invariant
    c.put_number-at.ensures)
