-- `image::read_words` meets its contract: the words so far are read, and the others stand in the rest of the image.
use mathlib.Core.Path.{◌≡◌}
use Prim.Native.Nat.{◌-◌}
use lib.ListN.{length, take}
use Rattle.rules.specs.Replay.{numbers, numbers_from}
use Rattle.image.proofs.read_words.Given as goal

abbrev pub invariant-loop-w : goal.invariant-loop-w
invariant-loop-w l = numbers (length l.initial.words) l.image ≡ numbers_from (take l.w-index l.words) (length l.initial.words - l.w-index) l.rest
