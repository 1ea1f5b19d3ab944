-- `call_judged` meets its contract: what refuses before the call's own list, or the rule of the call carried out; a working slice follows.
use Rattle.calls.specs.World.{Judged}
use Rattle.calls.proofs.Leaves.{ended-so}
use Rattle.calls.proofs.Whole.{known, store_long, caller-few, sound, sound-conf, unasked, done-asked}
use Rattle.calls.proofs.TrayLaws.{ready-judged}
use Rattle.calls.proofs.QuickLaws.{caller-lives, right_there}
use mathlib.Core.Path.{refl}
use Rattle.calls.proofs.call_judged.Goals.{After-header_of-n}
use Rattle.calls.proofs.call_judged.Goals as goal

-- the header that was read is the judged table's
judged : (c : After-header_of-n) → Judged c.args.t.now c.args.store.now c.header_of-n.result c.args.m.now
    c.args.hall.now
judged c = ready-judged c.requires.0 c.header_of-n.ensures

pub asked-requires : goal.asked-requires
asked-requires c = known (judged (goal.at.asked-requires c).After-header_of-n)

pub returns-in_err-code : goal.returns-in_err-code
returns-in_err-code c =
    record {
      did = rw (ended-so _ _ c.from_residual.ensures.0 c.from_residual.ensures.1)
          (unasked (judged (goal.at.returns-in_err-code c).After-header_of-n) _ _ _ _ _ _ _ c.in_err-code.ensures);
      right_in = c.requires.1;
    }

pub cell_in-cell-requires : goal.cell_in-cell-requires
cell_in-cell-requires c =
    caller-few (judged (goal.at.cell_in-cell-requires c).After-header_of-n) _ refl c.in_ok-code.ensures.0

pub carry_out_by-requires : goal.carry_out_by-requires
carry_out_by-requires c =
    let j = judged (goal.at.carry_out_by-requires c).After-header_of-n in let good = c.in_ok-code.ensures.0 in (
      sound-conf j.header (sound j _ refl good c.cell_in-cell.ensures),
      c.requires.0.handed,
      store_long j,
      c.requires.1,
      caller-lives c.requires.0 _ refl good,
    )

pub returns : goal.returns
returns c =
    let did =
    done-asked (judged (goal.at.returns c).After-header_of-n) _ _ _ _ _ _ _ c.in_ok-code.ensures c.carry_out_by.ensures.through in
    record {
      did = did;
      right_in = λ l. right_there c.requires.0 _ did _ (c.carry_out_by.ensures.right l);
    }
