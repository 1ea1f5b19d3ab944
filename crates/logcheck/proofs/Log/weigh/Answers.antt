-- `Log::weigh` finds that recorded bytes do not agree, or that they have ended; or it goes some way with them.
use Rattle.std.proofs.Common.{sym, rules}
use Rattle.logcheck.proofs.Ways.{went-wrong, went-met, went-out, went-recorded}
use Rattle.logcheck.proofs.Log.weigh.Goals as goal

pub returns-then-self : goal.returns-then-self
returns-then-self c = went-out c.args.self.now _ _ _ (search rules) c.if-self.true c.requires c.found.ensures

pub returns-then-is_used_up : goal.returns-then-is_used_up
returns-then-is_used_up c = went-recorded _ _ _ (search rules) c.in_ok-take_in.ensures.next

pub returns-then-is_used_up-2 : goal.returns-then-is_used_up-2
returns-then-is_used_up-2 c = went-met _ _ _ _ _ (rw c.as_slice.ensures at c.compare-q.ensures)

pub returns : goal.returns
returns c =
    went-wrong c.args.self.now _ _ _ _ _ (rw c.as_slice.ensures at c.compare-q.ensures) (sym c.if-wants_input.ensures) (search rules) c.found-2.ensures
