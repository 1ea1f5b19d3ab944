-- `image::exact_length` meets its contract: no well-formed table is longer than the largest.
use mathlib.Core.Path.{sym, ◌∙◌}
use native.Mathlib.Omega.{arith}
use Rattle.image.proofs.Largest.{few_words, small-image}
use Rattle.image.proofs.exact_length.Goals as goal

pub words_length-requires : goal.words_length-requires
words_length-requires c = few_words _ _ (sym c.check.ensures ∙ c.if-not-check.false)

pub overflow_add-result : goal.overflow_add-result
overflow_add-result c =
    omega (arith, small-image _ _ (sym c.check.ensures ∙ c.if-not-check.false) _ c.words_length.ensures)
