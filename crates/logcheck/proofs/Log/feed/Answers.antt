-- `Log::feed` goes some way with the input: on in the piece, to the input's end, or to another piece.
use Rattle.std.proofs.Common.{rules}
use Rattle.logcheck.proofs.Ways.{closed-last, went-fed, went-last, went-input}
use Rattle.logcheck.proofs.Log.feed.Goals as goal

pub invariant_of-self-then-self : goal.invariant_of-self-then-self
invariant_of-self-then-self c =
    record { closed = closed-last c.args.self.now c.requires c.take_in.new.self _ _ c.last-self.ensures }

pub returns-then-self : goal.returns-then-self
returns-then-self c =
    went-last _ c.requires _ _ _ _ (search rules) (search rules) c.in_ok-take_in.ensures.next c.if-self.true c.last-self.ensures

pub returns-else-self : goal.returns-else-self
returns-else-self c = went-input _ c.requires _ _ (search rules) c.in_ok-take_in.ensures.next

pub returns : goal.returns
returns c = went-fed _ c.requires _ _ _ _ _ _ _ _ (search rules) (rw c.as_slice.ensures at c.due-q.ensures)
