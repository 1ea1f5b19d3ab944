-- `room::run_of` meets its contract: the kind's word of a cell counts its slots.
use mathlib.Core.Path.{◌≡◌, ◌∙◌}
use native.Mathlib.Omega.{arith}
use Rattle.layout.specs.Kinds.{kind_of}
use Rattle.rules.specs.Layout.{configuration, first_slot, cell_slots}
use Rattle.calls.proofs.Worlds.{kind-word, first-by-kind}
use Rattle.calls.proofs.Searches.{run-slots}
use Rattle.calls.proofs.room.run_of.Goals.{After-in_cell}
use Rattle.calls.proofs.room.run_of.Goals as goal

pub first_slot-requires : goal.first_slot-requires
first_slot-requires c =
    let w = kind-word c.requires.0 (kind_of c.args.kind) c.cell_word-k.ensures.0 in (c.requires.0, omega (arith, c.requires.1), w.0, w.1)

pub in_cell-requires : goal.in_cell-requires
in_cell-requires c = (c.requires.0, c.requires.1, c.cell_word-k.ensures.1)

from : (c : After-in_cell) → c.first_slot.result ≡ first_slot (configuration c.args.t.now) (kind_of c.args.kind) c.args.c
from c = c.first_slot.ensures.0 ∙ rw c.cell_word-k.ensures.0 (first-by-kind (configuration c.args.t.now) (kind_of c.args.kind) c.args.c)

count : (c : After-in_cell) → c.in_cell.result ≡ cell_slots (configuration c.args.t.now) (kind_of c.args.kind) c.args.c
count c = c.in_cell.ensures ∙ rw c.cell_word-k.ensures.0

pub returns : goal.returns
returns c =
    let x = (goal.at.returns c).After-in_cell in
    record { from = from x; count = count x; within = run-slots c.requires.0 (kind_of c.args.kind) c.args.c c.requires.1 (from x) (count x) }
