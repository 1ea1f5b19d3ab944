-- `found::Found::processes_ok` meets its contract: every process passed is right and counted, and one that is wrong decides.
use Rattle.std.proofs.Common.{◌≡◌, ◌<◌, sym, ◌∙◌, true≢false, arith, rules}
use Rattle.rules.specs.Layout.{max_slots, process, slots}
use Rattle.table.specs.Frame.{conf}
use Rattle.table.proofs.Loops.{all_first, all-next, all-last}
use Rattle.table.proofs.Object.{tally-next, tally-room, all-not}
use Rattle.table.proofs.found.Found.processes_ok.Goals as goal

pub loop-p-init : goal.loop-p-init
loop-p-init c = (
  search rules,
  c.slots-p-end.ensures.value,
  c.slots-p-end.ensures.few,
  all_first _,
  c.requires.0,
  c.requires.1,
)

pub process_ok-requires : goal.process_ok-requires
process_ok-requires c =
    let l = c.loop-p in
    let few : l.p < max_slots = omega (arith, l.invariant.2, c.loop-p-test.true) in
    record {
      shaped = omega (arith, l.invariant.1, c.loop-p-test.true);
      countable = (tally-room _ _ _ l.p _ l.invariant.4 few, tally-room _ _ _ l.p _ l.invariant.5 few);
    }

pub returns-then-not-process_ok : goal.returns-then-not-process_ok
returns-then-not-process_ok c =
    let l = c.loop-p in
    let bad = c.if-not-process_ok.true in
    record {
      value = sym (all-not _ _ l.p (omega (arith, l.invariant.1, c.loop-p-test.true)) (sym c.process_ok.ensures.value ∙ bad));
      tally_2 = λ e. absurd (true≢false (sym e));
      tally_3 = λ e. absurd (true≢false (sym e));
    }

pub loop-p-preserved : goal.loop-p-preserved
loop-p-preserved c =
    let l = c.loop-p in
    let good = c.if-not-process_ok.false in (
      search rules,
      search rules,
      search rules,
      all-next _ l.invariant.3 (sym good ∙ c.process_ok.ensures.value),
      tally-next _ _ _ l.p _ _ l.invariant.4 (c.process_ok.ensures.counted good) c.process_ok.auto.references,
      tally-next _ _ _ l.p _ _ l.invariant.5 (c.process_ok.ensures.counted_2 good) c.process_ok.auto.opens,
    )

pub returns : goal.returns
returns c =
    let l = c.loop-p in
    let end : l.p ≡ slots (conf c.args.self.now.frame) process = omega (arith, l.invariant.0, l.invariant.1, c.loop-p-test.false) in
    record {
      value = all-last _ l.invariant.3 l.invariant.0 c.loop-p-test.false l.invariant.1;
      tally_2 = λ e. rw end at l.invariant.4;
      tally_3 = λ e. rw end at l.invariant.5;
    }
