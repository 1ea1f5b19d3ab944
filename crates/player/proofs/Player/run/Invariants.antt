-- `Player::run` goes turn after turn as long as the input has not ended.
use Rattle.std.proofs.Common.{◌≡◌, false, Ok}
use Rattle.player.specs.Went.{Went}
use Rattle.player.proofs.Player.run.Given as goal

abbrev pub invariant-loop : goal.invariant-loop
invariant-loop l = Went l.fn.self (Ok tt) l.self × (l.self.ended ≡ false)
