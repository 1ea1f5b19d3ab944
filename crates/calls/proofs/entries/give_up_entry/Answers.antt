-- `entries::give_up_entry` meets its contract: the words written are the rule's, over the kind.
use Rattle.calls.proofs.Given.{given-told}
use Rattle.calls.proofs.Worlds.{slots-is}
use Rattle.rules.specs.Layout.{configuration}
use Rattle.rules.specs.Seid.{formed}
use mathlib.Core.Path.{◌≡◌, ◌∙◌}
use Rattle.layout.specs.Kinds.{kind_of}
use Rattle.calls.proofs.entries.give_up_entry.Goals as goal

pub returns : goal.returns
returns c =
    let form : c.is_seid-formed.result ≡ formed (configuration c.args.t.now) (kind_of c.args.kind) c.args.s =
    c.is_seid-formed.ensures ∙ rw (c.slots.ensures, c.class.ensures, slots-is c.requires.0 (kind_of c.args.kind)) in
    c.give_up.ensures ∙ given-told c.requires.0 c.args.on.me (kind_of c.args.kind) _ _ _ c.requires.1
    c.requires.2 c.index_of-i.ensures form c.cell_of.ensures c.is_kept-kept.ensures
    c.entry_at-entry.ensures.0 c.record_at-object.ensures.0 (rw (← c.holders_word.ensures)
    c.read-holders.ensures) c.clear_pages.ensures
