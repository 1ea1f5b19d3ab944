-- What the parts of replay's loop ensure, over the session: what is lent, what is handed on, and what is left to do.
-- `HandedOn x t st l s i ys text` (crates/session/proofs/Whole): a driver of a session x, to which the table t, the store st and the buffer l are lent, stands at
-- place i of a piece s of the input, and has not read ys; what it hands on from there to the end is `text`.
use Rattle.std.specs.Prelude.{◌≡◌, ℕ, ◌+◌, ◌%◌, ◌^◌, ◌≤◌, ⊤, true, false, Result, OnOk, List, [], ◌++◌, length, take}
use Rattle.session.specs.Turn.{new_session, blank_table}
use Rattle.session.proofs.Whole.{Lent, HandedOn}
use Rattle.player.specs.declared.Failed.{Failed}
use Rattle.player.specs.declared.Player.{Player}
use Rattle.player.specs.declared.Report.{Report}

-- n counts the bytes of s on from m, modulo 2^64
abbrev pub Counts : ℕ → ℕ → List ℕ → Type 0
Counts m n s = n % 2 ^ 64 ≡ (m + length s) % 2 ^ 64

-- a player that was handed a new session, with memory of the size that the largest script takes: its table was t
pub record Fresh (p : Player) : Type 0 where
  pub table : List ℕ
  pub lent : Lent table p.store p.buf
  pub session : p.session ≡ new_session
  pub blank : p.table ≡ blank_table table
  pub read : p.read ≡ 0
  pub handed : p.handed ≡ 0
  pub ended : p.ended ≡ false

-- n more bytes are handed on
abbrev pub counted : Player → ℕ → Player
counted p n = record p { handed = (p.handed + n) % 2 ^ 64 }

-- what is handed on from where the player stands, at place i of a piece s of the input, where ys is not read
abbrev pub HandsOn : Player → List ℕ → ℕ → List ℕ → List ℕ → Type 0
HandsOn p s i ys text = HandedOn p.session p.table p.store p.buf s i ys text

-- a way from one place to another: what is handed on from there is handed on from here too, after a text; and that text is counted
pub record Way (p : Player) (s : List ℕ) (i : ℕ) (p' : Player) (s' : List ℕ) (i' : ℕ) (read : List ℕ) : Type 0 where
  pub text : List ℕ
  pub counted : Counts p.handed p'.handed text
  pub leads : (ys more : List ℕ) → HandsOn p' s' i' ys more → HandsOn p s i (read ++ ys) (text ++ more)

-- the first n bytes of the input's piece are played as far as a place of them
pub record Pieced (p : Player) (n place : ℕ) (p' : Player) : Type 0 where
  pub way : Way p (take n p.input) 0 p' (take n p.input) place []
  pub same-piece : p'.input ≡ p.input
  pub none_read : p'.read ≡ p.read
  pub not-ended : p'.ended ≡ p.ended

-- what was read and played in one turn or more; or, where the input has ended, what was handed on by then
pub record Went (p : Player) (r : Result ⊤ Failed) (p' : Player) : Type 0 where
  pub input : List ℕ
  pub read-counted : Counts p.read p'.read input
  pub piece : List ℕ
  pub place : ℕ
  pub way : p'.ended ≡ false → Way p [] 0 p' piece place input
  pub used-up : OnOk r (length piece ≤ place)
  pub last : p'.ended ≡ true → (text : List ℕ) × Counts p.handed p'.handed text × HandsOn p [] 0 input text

abbrev pub report_of : Player → Report
report_of p = record { read = p.read; handed = p.handed; ended = p.ended; over = p.session.over }

-- a whole replay: a table, a store and a buffer of the size that the largest script takes are lent to a new session, input is read, and text handed on
pub record Replayed (r : Report) : Type 0 where
  pub table : List ℕ
  pub store : List ℕ
  pub buffer : List ℕ
  pub lent : Lent table store buffer
  pub input : List ℕ
  pub text : List ℕ
  pub read-counted : Counts 0 r.read input
  pub counted : Counts 0 r.handed text
  -- the input has ended: that is all of the text
  pub ended : r.ended ≡ true → HandedOn new_session (blank_table table) store buffer [] 0 input text
  -- a bad line was written: that is all of the text, whatever is left of the input
  pub over : r.ended ≡ false → r.over ≡ true → (ys : List ℕ) → HandedOn new_session (blank_table table) store buffer [] 0 (input ++ ys) text
