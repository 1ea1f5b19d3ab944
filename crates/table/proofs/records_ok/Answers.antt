-- `records_ok` meets its contract: a wrong process decides, else segments and files do.
use Rattle.std.proofs.Common.{◌&&◌, sym, ◌∙◌, ap₂}
use Rattle.table.proofs.Object.{tally-none}
use Rattle.table.proofs.Formed.{wrong-process, right-processes}
use Rattle.table.proofs.records_ok.Goals as goal

pub processes_ok-requires : goal.processes_ok-requires
processes_ok-requires c = (tally-none _ _ _, tally-none _ _ _)

pub returns-then-not-processes_ok : goal.returns-then-not-processes_ok
returns-then-not-processes_ok c = sym (wrong-process _ _ (sym c.processes_ok.ensures.value ∙ c.if-not-processes_ok.true))

pub objects_ok-requires : goal.objects_ok-requires
objects_ok-requires c = c.processes_ok.ensures.tally_2 c.if-not-processes_ok.false

pub objects_ok-requires-2 : goal.objects_ok-requires-2
objects_ok-requires-2 c = c.processes_ok.ensures.tally_3 c.if-not-processes_ok.false

pub returns : goal.returns
returns c =
    ap₂ ◌&&◌ c.objects_ok.ensures c.objects_ok-2.ensures
    ∙ right-processes _ _ (sym c.processes_ok.ensures.value ∙ c.if-not-processes_ok.false)
