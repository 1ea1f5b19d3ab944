-- `held::Holder::valid_use` meets its contract, kind by kind.
use Rattle.std.proofs.Common.{Bool, List, ap, ◌∙◌}
use Rattle.modes.specs.Valid.{said_in}
use Rattle.modes.proofs.Numbers.{valid-told}
use Rattle.table.proofs.held.Holder.valid_use.Goals as goal

pub returns-in-File : goal.returns-in-File
returns-in-File c =
    let found = c.args.self.now.found in
    rw c.in-File.is (c.valid_in.ensures ∙ ap (λ (table : List Bool). said_in table c.args.u) found.valid_is ∙ valid-told c.args.u)
