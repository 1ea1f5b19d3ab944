-- What a replay hands on is the listing that the rules define: of its input, where that has ended; and where a bad line was written, of its input with whatever
-- is left of it.
use Rattle.std.proofs.Common.{◌≡◌, ℕ, ◌^◌, ◌<◌, true, false, List, [], ◌++◌, length, refl}
use Rattle.rules.specs.Replay.{listing}
use Rattle.session.specs.Turn.{new_session, blank_table}
use Rattle.session.proofs.Whole.{HandedOn, handed_out}
use Rattle.player.specs.declared.Report.{Report}
use Rattle.player.specs.Went.{Replayed}

module _ (r : Report) (p : Replayed r) where
  all_of : (input : List ℕ) → length input < 2 ^ 64 → HandedOn new_session (blank_table p.table) p.store p.buffer [] 0 input p.text
      → p.text ≡ listing input
  all_of input = handed_out p.table p.store p.buffer p.lent new_session (blank_table p.table) (refl, refl) input p.text

  pub listed : r.ended ≡ true → length p.input < 2 ^ 64 → p.text ≡ listing p.input
  listed e l = all_of p.input l (p.ended e)

  pub listed-over : r.ended ≡ false → r.over ≡ true → (ys : List ℕ) → length (p.input ++ ys) < 2 ^ 64 → p.text ≡ listing (p.input ++ ys)
  listed-over e o ys l = all_of (p.input ++ ys) l (p.over e o ys)
