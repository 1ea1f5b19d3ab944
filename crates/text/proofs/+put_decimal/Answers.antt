-- `text::put_decimal` meets its contract: the digits of the tenth, and then the last.
use Rattle.output.proofs.Laws.{then, as-text}
use Rattle.text.proofs.Numbers.{one-digit, more-digits}
use Rattle.text.proofs.+put_decimal.Goals as goal

pub returns-then-v-lt10 : goal.returns-then-v-lt10
returns-then-v-lt10 t c = as-text _ _ _ _ _ _ (one-digit _ c.if-v-lt10.true) c.put_byte.ensures

pub returns : goal.returns
returns t c =
    as-text _ _ _ _ _ _ (more-digits _ c.if-v-lt10.false c.ranges.v.fits)
    (then _ _ _ _ _ _ _ _ c.put_decimal-next.ensures c.put_byte-2.ensures)
