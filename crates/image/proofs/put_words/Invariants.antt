-- `image::put_words` meets its contract: the words so far are written.
use lib.ListN.{take}
use Rattle.rules.specs.Image.{word_bytes}
use Rattle.output.specs.Wrote.{Wrote}
use Rattle.image.proofs.put_words.Given as goal

abbrev pub invariant-loop-w : goal.invariant-loop-w
invariant-loop-w l = Wrote l.initial.out 0 (word_bytes (take l.w-index l.t)) l.at l.out
