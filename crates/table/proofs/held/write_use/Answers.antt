-- `held::write_use` meets its contract, kind by kind.
use Rattle.table.proofs.held.write_use.Goals as goal

pub returns-in-Process : goal.returns-in-Process
returns-in-Process c = rw c.in-Process.is

pub returns-in-Segment : goal.returns-in-Segment
returns-in-Segment c = rw c.in-Segment.is c.asks_write.ensures

pub returns-in-File : goal.returns-in-File
returns-in-File c = rw c.in-File.is c.writes.ensures
