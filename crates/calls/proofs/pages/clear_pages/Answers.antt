-- `pages::clear_pages` meets its contract: a designator leaves its pages; nothing is written for a descriptor.
use mathlib.Core.Path.{ap, ◌∙◌}
use mathlib.Core.List.{List}
use Rattle.rules.specs.Layout.{configuration}
use Rattle.rules.specs.Rule.{Word, write}
use Rattle.calls.specs.World.{words_of}
use Rattle.calls.proofs.MapLaws.{cleared-is}
use Rattle.calls.proofs.pages.clear_pages.Goals as goal

pub returns-in-Segment : goal.returns-in-Segment
returns-in-Segment c =
    rw c.in-Segment.is (c.set_pages.ensures ∙ ap (λ (ws : List Word). write (configuration
    c.args.t.now) c.args.t.now ws) (cleared-is (words_of c.args.t.now) c.args.p c.args.d
    c.map_of-m.ensures c.left.ensures))
