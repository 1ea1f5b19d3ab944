-- `cell_slots` meets its contract: the cell's word for the kind.
use Rattle.rules.specs.Layout.{cell_word}
use Rattle.work.proofs.Table.cell_slots.Goals as goal

pub returns : goal.returns
unfolding cell_word
returns c =
    rw (c.word.ensures, c.cell_word.ensures.0, c.wide.ensures)
