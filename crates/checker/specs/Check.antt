-- A check of a recorded listing, over a session: what each function of it comes to.
use Rattle.std.specs.Prelude.{◌≡◌, ℕ, ◌≤◌, min, Bool, true, false, cond, not, ◌||◌, List, [], length, take, drop, nat_lt}
use Rattle.std.proofs.lemmas.List.Edits.{sets}
use Rattle.text.specs.Room.{line_bytes}
use Rattle.session.specs.declared.Session.{Session}
use Rattle.session.specs.Turn.{new_session, onward, finish_text, Turn, turn}
use Rattle.checker.specs.declared.Check.{Check}
use Rattle.checker.specs.declared.Checked.{Checked}
use Rattle.checker.specs.declared.Finding as code
use Rattle.checker.specs.declared.Finding.TheVariants as found
use Rattle.rules.specs.Finding.{Finding, agree, wrong, missing, over}
use Rattle.checker.specs.Scan.{Agreed, agreeing}

-- nothing is read yet
abbrev pub new_check : Check
new_check = record { session = new_session; at = 0; end = 0; lines = 0; within = false }

-- whether text that is due waits in the output for recorded bytes
abbrev pub waits : Check → Bool
waits x = nat_lt x.at x.end

-- whether the check goes on with the input: all that is due so far is compared, and more may come
abbrev pub wants_input : Check → Bool
wants_input x = not (waits x || x.session.over)

-- a text of n bytes stands at the front of the output, of a session that is y then
abbrev pub filled : Check → Session → ℕ → Check
filled x y n = record x { session = y; at = 0; end = n }

-- ---- what is due next

-- a check, the place in the piece of the input, the text that came, and what is lent
pub record Fed : Type 0 where
  pub check : Check
  pub next : ℕ
  pub text : List ℕ
  pub table : List ℕ
  pub store : List ℕ
  pub buffer : List ℕ
  pub output : List ℕ

-- the text of the session's turn k is put into the output o
abbrev pub fed_by : Check → List ℕ → Turn → Fed
fed_by x o k =
    record {
      check = filled x k.session (min (length k.text) (length o));
      next = k.next;
      text = k.text;
      table = k.table;
      store = k.store;
      buffer = k.buffer;
      output = sets o 0 k.text;
    }

-- s is the piece of the input from place i on; where text waits, nothing is done
unfoldable pub fed : Check → List ℕ → List ℕ → List ℕ → List ℕ → List ℕ → ℕ → Fed
fed x t st l o s i =
    cond (waits x) (record { check = x; next = i; text = []; table = t; store = st; buffer = l; output = o }) (fed_by x o (turn x.session t st l s i))

-- that, as the code leaves it; no text is longer than the room of a line
pub record Feeds (k : Fed) (r : Checked) (t' st' l' o' : List ℕ) : Type 0 where
  pub check : r.check ≡ k.check
  pub next : r.next ≡ k.next
  pub table : t' ≡ k.table
  pub store : st' ≡ k.store
  pub buffer : l' ≡ k.buffer
  pub output : o' ≡ k.output
  pub short : length k.text ≤ line_bytes

-- ---- the input has ended: the last text is due, and nothing after it
abbrev pub ended : Session → Session
ended y = onward y y.reader y.lines true

unfoldable pub last_check : Check → List ℕ → Check
last_check x o = cond (waits x) x (filled x (ended x.session) (min (length (finish_text x.session)) (length o)))

unfoldable pub last_output : Check → List ℕ → List ℕ
last_output x o = cond (waits x) o (sets o 0 (finish_text x.session))

-- ---- what waits in the output o is compared with a piece r of what is recorded, from place i on
abbrev pub waiting : Check → List ℕ → List ℕ
waiting x o = drop x.at (take x.end o)

abbrev pub agreed : Check → List ℕ → List ℕ → ℕ → Agreed
agreed x o r i = agreeing x.lines x.within x.at i (waiting x o) (drop i r)

abbrev pub met : Check → Agreed → Checked
met x k = record { check = record x { at = k.at; lines = k.lines; within = k.within }; next = k.next }

-- ---- the finding, as the code has it
abbrev pub coded : Finding → code.Finding
coded (agree n) = found.Agree n
coded (wrong n) = found.Wrong n
coded (missing n) = found.Missing n
coded (over n) = found.Over n

abbrev pub meant : code.Finding → Finding
meant (found.Agree n) = agree n
meant (found.Wrong n) = wrong n
meant (found.Missing n) = missing n
meant (found.Over n) = over n
