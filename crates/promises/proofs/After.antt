-- What is read of a table after a call that succeeds: what is read over the words that its rule says.
use mathlib.Core.Path.{◌≡◌}
use lib.ListN.{length}
use Rattle.rules.specs.Layout.{configuration, Addr, Valid, rd}
use Rattle.rules.specs.Errors.{XOK}
use Rattle.rules.specs.Rule.{over}
use Rattle.rules.specs.Step.{State, Call, step, next, whole_rule}
use Rattle.laws.proofs.Shape.{good_of}
use Rattle.laws.proofs.Written.{rd-write}
use Rattle.kept.proofs.Keeps.{Caller}
use Rattle.kept.proofs.Calls.{keeps}
use Rattle.kept.proofs.Stepped.{caller}
use Rattle.kept.proofs.Kept.{Well}
use Rattle.promises.proofs.Refusals.{own, no-refusal-holds, own-clear, none-holds, done}

module _ (s : State) (k : Call) (w : Well s) (ok : (step s k).answered.error ≡ XOK) where
  pub its-caller : Caller (configuration s.table) (rd (configuration s.table) s.table) k.caller
  unfolding whole_rule
  its-caller = caller s w k.caller (no-refusal-holds s k ok).1.0

  pub read-after : (a : Addr) → Valid (configuration s.table) a
      → rd (configuration s.table) (next s k).table a ≡ over (rd (configuration s.table) s.table) (own s k).effects.words a
  unfolding whole_rule
  read-after a v =
      let h = configuration s.table in
      let g = good_of s.table (length s.store) w in
      let valid = (keeps h (rd h s.table) s.store k its-caller (none-holds (own s k).refusals (own-clear s k ok))).valid in
      rw (done s k ok).table (rd-write h s.table valid g.words a v)
