-- `found::Found::flows` meets its contract: the matrix has an entry for every two cells.
use Rattle.std.proofs.Common.{[]}
use Rattle.table.proofs.Holders.{flow-at}
use Rattle.table.proofs.found.Found.flows.Goals as goal

pub returns : goal.returns
returns c =
    let a = c.args in
    flow-at _ a.self.now.flow.now a.self.now.flow_is a.c a.d [] c.requires.0 c.requires.1
