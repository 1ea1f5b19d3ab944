-- `held::Holder::subtype_entry_ok` meets its contract, kind by kind.
use Rattle.std.proofs.Common.{◌∙◌}
use Rattle.table.proofs.Named.{descriptor-holds}
use Rattle.table.proofs.held.Holder.subtype_entry_ok.Goals as goal

pub returns-in-File : goal.returns-in-File
returns-in-File c = rw c.in-File.is (c.held_subtype_ok.ensures ∙ descriptor-holds _ _ _ _)
