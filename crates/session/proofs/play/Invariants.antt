-- `session::play` meets its contract: what is written so far, and what playing the rest comes to, is what playing the whole does.
use Rattle.std.proofs.Common.{◌≡◌, ◌-◌, ◌≤◌, length, take, drop}
use Rattle.output.specs.Wrote.{Wrote}
use Rattle.session.specs.Play.{after, play}
use Rattle.session.proofs.play.Given as goal

abbrev pub invariant-loop-next : goal.invariant-loop-next
invariant-loop-next l = record {
  inside : l.end ≤ length l.out;
  written : Wrote l.initial.out 0 (take l.end l.out) l.end l.out;
  same :
      after (take l.end l.out) (play l.session l.table l.store l.buf (drop l.next l.s) l.next (length l.out - l.end))
      ≡ play l.initial.session l.initial.table l.initial.store l.initial.buf (drop l.from l.s) l.from (length l.initial.out);
}

abbrev pub decreases-loop-next : goal.decreases-loop-next
decreases-loop-next l = length l.s - l.next
