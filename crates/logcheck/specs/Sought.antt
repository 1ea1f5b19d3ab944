-- What the parts of logcheck's loop ensure, over the check: what is lent, what is read, and what is found.
-- `Goes x t st l o s i ys r j zs f` (crates/checker/proofs/Whole): a driver of a check x, to which the table t, the store st, the buffer l and the output o are
-- lent, stands at place i of a piece s of the input, of which it has not read ys, and at place j of a piece r of what is recorded, of which it has not read zs;
-- it finds f.
use Rattle.std.specs.Prelude.{Bool, true, false, not, List, [], ◌++◌, ◌⊎◌, ◌≡◌, ℕ, ◌≤◌, Option, None, Some, length, take}
use Rattle.text.specs.Room.{line_bytes}
use Rattle.session.specs.Turn.{blank_table}
use Rattle.session.proofs.Whole.{Lent}
use Rattle.checker.specs.declared.Finding.{Finding}
use Rattle.checker.specs.Scan.{verdict}
use Rattle.checker.specs.Check.{new_check, waits, coded}
use Rattle.checker.proofs.Whole.{Goes}
use Rattle.logcheck.specs.declared.piece.Piece.{Piece}
use Rattle.logcheck.specs.declared.Log.{Log}

-- the bytes of a piece
abbrev pub bytes_of : Piece → List ℕ
bytes_of a = take a.end a.bytes

-- what may be unread: anything, but nothing of what has ended
abbrev pub Unread : Bool → List ℕ → Type 0
Unread ended ys = ended ≡ true → ys ≡ []

-- a driver that stands where p says, and has ys and zs left to read, finds f
abbrev pub Finds : Log → List ℕ → List ℕ → Finding → Type 0
Finds p ys zs f =
    Unread p.input.ended ys
    × Goes p.check p.table p.store p.buf p.out (bytes_of p.input) p.input.next ys (bytes_of p.recorded) p.recorded.next zs f

-- what `checker::found` gives there: recorded bytes are left where what is recorded has not ended
abbrev pub told : Log → Finding
told p = coded (verdict p.check.lines p.check.within (waits p.check) (not p.recorded.ended))

-- a way from one place to another: what is found from there is found from here too, once so much of the input and of what is recorded is read
pub record Way (p p' : Log) : Type 0 where
  pub input : List ℕ
  pub recorded : List ℕ
  pub leads : (ys zs : List ℕ) (f : Finding) → Finds p' ys zs f → Finds p (input ++ ys) (recorded ++ zs) f

-- what was read on the way: nothing, or the bytes of the piece that is at hand then
abbrev pub Came : List ℕ → Piece → Type 0
Came xs a = (xs ≡ []) ⊎ (xs ≡ bytes_of a)

-- one turn: it goes some way, or something is found, whatever is left to read of what has not ended
pub record Went (p : Log) (r : Option Finding) (p' : Log) : Type 0 where
  pub way : r ≡ None → (w : Way p p') × Came w.input p'.input × Came w.recorded p'.recorded
  pub found : (f : Finding) → r ≡ Some f → (ys zs : List ℕ) → Unread p'.input.ended ys → Unread p'.recorded.ended zs → Finds p ys zs f

-- room for the largest table, store and buffer that replay takes, and for a line
pub record Enough (t st l o : List ℕ) : Type 0 where
  pub lent : Lent t st l
  pub line : line_bytes ≤ length o

-- a new check, to which room enough is lent: its table was t. Nothing is read
pub record Fresh (p : Log) : Type 0 where
  pub table : List ℕ
  pub enough : Enough table p.store p.buf p.out
  pub check : p.check ≡ new_check
  pub blank : p.table ≡ blank_table table
  pub input : (p.input.next ≡ 0) × (p.input.end ≡ 0) × (p.input.ended ≡ false)
  pub recorded : (p.recorded.next ≡ 0) × (p.recorded.end ≡ 0) × (p.recorded.ended ≡ false)

-- A whole check. Room enough is lent to a new check; some of the input is read, and some of what is recorded. What is found then, a driver of the check finds,
-- whatever is left to read: nothing of what is recorded where it has ended, and nothing of the input where it has, which `ended` says of each.
-- (The input need not have ended: a line can be wrong or missing before, and after a bad line of the input nothing more is due.)
pub record Sought (p : Log) (r : Option Finding) (p' : Log) : Type 0 where
  pub fresh : Fresh p
  pub input : List ℕ
  pub recorded : List ℕ
  pub found : (f : Finding) → r ≡ Some f → (ys zs : List ℕ) → Unread p'.input.ended ys → Unread p'.recorded.ended zs
      → Goes new_check (blank_table fresh.table) p.store p.buf p.out [] 0 (input ++ ys) [] 0 (recorded ++ zs) f
