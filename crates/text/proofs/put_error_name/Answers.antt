-- `text::put_error_name` meets its contract: what stands in the table is the name, and past its end is none.
use Rattle.rules.specs.Errors.{ascii, error_names}
use Rattle.output.proofs.Laws.{none, as-text}
use Rattle.text.proofs.Names.{no_name, named}
use Rattle.text.proofs.put_error_name.Goals as goal

pub returns-in-Some : goal.returns-in-Some
unfolding ascii error_names
returns-in-Some c =
    let there = c.in-Some.ensures.lookup in
    as-text _ _ _ _ _ _ (search (named, there.3.0, there.1)) c.put_bytes.ensures

pub returns-in-None : goal.returns-in-None
returns-in-None c = rw (no_name _ c.in-None.ensures.lookup.3) (none _ _)
