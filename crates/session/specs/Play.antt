-- What a session does with a piece of the input as long as the output has room: turn after turn, their texts one after the other.
use Rattle.std.specs.Prelude.{◌≡◌, ℕ, zero, suc, ◌-◌, cond, List, [], ◌++◌, length, take, ◌==◌, nat_lt}
use Rattle.output.specs.Wrote.{Wrote}
use Rattle.text.specs.Room.{line_bytes}
use Rattle.session.specs.declared.Session.{Session}
use Rattle.session.specs.declared.Stepped.{Stepped}
use Rattle.session.specs.Turn.{Turn, turn}

-- no turn
abbrev pub stay : Session → List ℕ → List ℕ → List ℕ → List ℕ → ℕ → Turn
stay x t st l s i = record { session = x; next = i; rest = s; table = t; store = st; buffer = l; text = [] }

-- what k does, after a text
abbrev pub after : List ℕ → Turn → Turn
after text k = record k { text = text ++ k.text }

-- s is the piece from place i on, room that of the output (n is at least the number of turns: each takes a byte or more)
unfoldable pub play_in : ℕ → Session → List ℕ → List ℕ → List ℕ → List ℕ → ℕ → ℕ → Turn
play_in zero x t st l s i room = stay x t st l s i
play_in (suc n) x t st l s i room =
    let k : Turn = turn x t st l s i in
    cond (length s == 0) (stay x t st l s i)
    (cond (nat_lt room line_bytes) (stay x t st l s i)
    (after k.text (play_in n k.session k.table k.store k.buffer k.rest k.next (room - length k.text))))

abbrev pub play : Session → List ℕ → List ℕ → List ℕ → List ℕ → ℕ → ℕ → Turn
play x t st l s i room = play_in (length s) x t st l s i room

-- what the code leaves: the session and the slices are those of k, and its text stands at the front of the buffer o
pub record Played (k : Turn) (o : List ℕ) (r : Stepped) (t' st' l' o' : List ℕ) : Type 0 where
  pub session : r.session ≡ k.session
  pub next : r.next ≡ k.next
  pub table : t' ≡ k.table
  pub store : st' ≡ k.store
  pub buffer : l' ≡ k.buffer
  pub written : Wrote o 0 k.text r.end o'
  pub handed : take r.end o' ≡ k.text
