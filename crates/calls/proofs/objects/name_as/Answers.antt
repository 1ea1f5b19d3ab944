-- `objects::name_as` meets its contract: the check of the kind says whether the word names anything.
use mathlib.Core.Path.{sym, ◌∙◌}
use Rattle.calls.proofs.Names.{named}
use Rattle.calls.proofs.objects.name_as.Goals as goal

pub returns : goal.returns
returns g c =
    let i = g.I.Identifier in
    named i.kind i.of i.word_of g.met.I.Identifier.word_back _ _ (sym c.check.ensures ∙ c.in_ok-id.was) c.index.ensures c.serial.ensures
