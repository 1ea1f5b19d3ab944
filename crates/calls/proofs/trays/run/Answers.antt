-- `run` meets its contract: the call on a part that lies inside, or a refusal; a working slice follows.
use mathlib.Core.Path.{refl}
use Rattle.calls.proofs.Whole.{known}
use Rattle.calls.proofs.TrayLaws.{ready-judged, ran-inside, ran-outside}
use Rattle.calls.proofs.trays.run.Goals as goal

pub call_judged-x-requires : goal.call_judged-x-requires
call_judged-x-requires c =
    c.requires

pub returns-then-end-bytes : goal.returns-then-end-bytes
returns-then-end-bytes c =
    record {
      ran = ran-inside c.args.t.now c.args.store.now c.args.bytes.now c.requires.0 c.args.r _ _
          c.wide-from.ensures c.wide.ensures c.if-end-bytes.true _ refl c.call_judged-x.ensures.did
          c.call_judged-x.auto.buffer c.answered.ensures;
      right_in = c.call_judged-x.ensures.right_in;
    }

pub outside-requires : goal.outside-requires
outside-requires c =
    known (ready-judged c.requires.0 c.header_of-n.ensures)

pub returns : goal.returns
returns c =
    record {
      ran = ran-outside c.args.t.now c.args.store.now c.args.bytes.now c.requires.0 c.args.r _ _
          c.wide-from.ensures c.wide.ensures c.if-end-bytes.false c.outside.ensures c.answered-2.ensures;
      right_in = c.requires.1;
    }
