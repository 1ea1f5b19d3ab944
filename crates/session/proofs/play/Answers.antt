-- `session::play` meets its contract: what is written so far, and what playing the rest comes to, is what playing the whole does.
use Rattle.std.proofs.Common.{drop, arith}
use Rattle.output.proofs.Laws.{none}
use Rattle.session.proofs.Due.{nearer}
use Rattle.session.proofs.Playing.{play-starts, inside, again-written, again-same, ended, filled}
use Rattle.session.proofs.play.Goals as goal

pub loop-next-init : goal.loop-next-init
loop-next-init c = record {
  inside = omega arith;
  written = none _ 0;
  same = play-starts c.args.x c.args.table.now c.args.store.now c.args.buf.now (drop c.args.from c.args.s.now) c.args.out.now c.args.from;
}

pub loop-next-smaller : goal.loop-next-smaller
loop-next-smaller c =
    nearer _ _ _ _ _ _ _ c.loop-next-test.true c.step-r.ensures.next

pub loop-next-preserved : goal.loop-next-preserved
loop-next-preserved c =
    let room = c.if-out-end-ge-LINE_BYTES.true in
    record {
      inside = inside _ _ _ _ _ _ _ _ _ _ _ _ _ c.step-r.ensures c.loop-next-test.true room;
      written = again-written _ _ _ _ _ _ _ _ _ _ _ _ _ c.step-r.ensures c.loop-next-test.true room _ c.loop-next.invariant.written;
      same =
          again-same _ _ _ _ _ _ _ _ _ _ _ _ _ c.step-r.ensures c.loop-next-test.true room
          _ c.loop-next.invariant.written _ c.loop-next.invariant.same;
    }

pub returns-after-loop-next : goal.returns-after-loop-next
returns-after-loop-next c =
    ended _ _ _ _ _ _ _ _ _ c.loop-next.invariant.written _ c.loop-next.invariant.same c.loop-next-test.false

pub returns-else-out-end-ge-LINE_BYTES : goal.returns-else-out-end-ge-LINE_BYTES
returns-else-out-end-ge-LINE_BYTES c =
    filled _ _ _ _ _ _ _ _ _ c.loop-next.invariant.written _ c.loop-next.invariant.same c.if-out-end-ge-LINE_BYTES.false
