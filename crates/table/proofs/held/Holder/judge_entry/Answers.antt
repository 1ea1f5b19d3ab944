-- `held::Holder::judge_entry` meets its contract: an index that is no slot's leaves a subtype to be judged, and else the entry is counted for its slot and judged.
use Rattle.std.proofs.Common.{◌∙◌, arith}
use Rattle.layout.specs.Kinds.{kind_of}
use Rattle.table.specs.Frame.{conf, words}
use Rattle.table.proofs.Config.{slots-few}
use Rattle.table.proofs.Holders.{entry-out, counted_none}
use Rattle.table.proofs.held.Holder.judge_entry.Goals as goal

pub returns-then-slots-i : goal.returns-then-slots-i
returns-then-slots-i c =
    let f = c.args.self.now.found.frame in
    let k = kind_of c.args.self.now.kind in
    let says = c.subtype_entry_ok.ensures in
    record {
      value = says ∙ entry-out (conf f) (words f) k c.args.self.now.mine c.args.e.held c.args.e.used _
          c.requires.used c.index_in-i.ensures (slots-few f k) (omega (arith, c.slots.ensures.value, c.if-slots-i.true));
      counts = counted_none (conf f) k c.args.self.now.mine c.args.e.held _ _ _ says;
    }
