-- What a session does with a piece of the input: it reads up to the end of the configuration or of a call, a fault, or the piece's end, and writes the text that is due.
-- (That all the text is the listing that the rules give is proved in proofs/Whole.antt.)
use Rattle.std.specs.Prelude.{◌≡◌, ℕ, ◌+◌, ◌*◌, ◌%◌, ◌^◌, ◌≤◌, min, Bool, true, false, cond, not, List, [], length, take, replicate, ◌==◌, slice_index, slice_set}
use Rattle.std.proofs.lemmas.List.Edits.{sets}
use Rattle.rules.specs.Layout.{block_bytes, process, segment, file, record_words, slots, blocks, configuration_words}
use Rattle.rules.specs.Errors.{XOK}
use Rattle.rules.specs.SetUp.{set_up_answer, set_up_table}
use Rattle.rules.specs.Step.{Outcome, step}
use Rattle.rules.specs.Replay.{header_numbers, max_replay_blocks, max_replay_slots, max_buffer, call_from, line, heading, bad_configuration, bad_script}
use Rattle.script.specs.declared.Reader.{Reader}
use Rattle.script.specs.declared.What.{What}
use Rattle.script.specs.declared.What.TheVariants.{More, Configuration, Call, Fault}
use Rattle.script.specs.declared.Moved.{Moved}
use Rattle.script.specs.Take.{new_reader, is_calling, is_between}
use Rattle.script.specs.Advance.{Advanced, advance}
use Rattle.output.specs.Wrote.{Wrote}
use Rattle.text.specs.Room.{line_bytes}
use Rattle.session.specs.declared.Session.{Session}
use Rattle.session.specs.declared.Stepped.{Stepped}

-- a session at the start of an input
abbrev pub new_session : Session
new_session = record { reader = new_reader; lines = 0; words = 0; bytes = 0; over = false }

-- a session with the same table and store, further on in the input
abbrev pub onward : Session → Reader → ℕ → Bool → Session
onward x r n b = record x { reader = r; lines = n; over = b }

-- the lent table at the start: the header's last zero, which the input does not have, is written
abbrev pub blank_table : List ℕ → List ℕ
blank_table t = slice_set t header_numbers 0

-- "bad configuration" or "bad script"
abbrev pub fault_text : Bool → List ℕ
fault_text true = bad_script
fault_text false = bad_configuration

-- where the input ends: nothing, but for what is read in part
unfoldable pub finish_text : Session → List ℕ
finish_text x = cond x.over [] (cond (is_between x.reader) [] (fault_text (is_calling x.reader)))

-- what a piece came to: the session, where it was left and what of it is left, the lent slices, and the text that is due
pub record Turn : Type 0 where
  pub session : Session
  pub next : ℕ
  pub rest : List ℕ
  pub table : List ℕ
  pub store : List ℕ
  pub buffer : List ℕ
  pub text : List ℕ

-- ---- the configuration is whole: it stands at the front of the table t

-- how much of the lent table and store it takes; "Files x B at most 64", so no more of the store than that many blocks is ever in use
-- (02, CR 5: "the replay program keeps its own limit of 64 slots of each kind": no more of the table is asked for, so that set-up, which wants the length exact, refuses a larger hall)
abbrev pub words_asked : List ℕ → ℕ
words_asked t =
    configuration_words t + record_words process * min (slots t process) max_replay_slots + record_words segment * min (slots t segment) max_replay_slots
    + record_words file * min (slots t file) max_replay_slots

abbrev pub words_of : List ℕ → ℕ
words_of t = min (words_asked t) (length t)

abbrev pub bytes_of : List ℕ → List ℕ → ℕ
bytes_of t st = min (min (slots t file * blocks t) max_replay_blocks * block_bytes) (length st)

-- it is taken where set-up takes it (which refuses a store of another length)
unfoldable pub accepts : List ℕ → List ℕ → Bool
accepts t st = set_up_answer (take (words_of t) t) (bytes_of t st) == XOK

-- the session that reads on after it, or is over where set-up refuses it
abbrev pub opened : Reader → List ℕ → List ℕ → Session
opened reader t st = record { reader = reader; lines = 0; words = words_of t; bytes = bytes_of t st; over = not (accepts t st) }

-- the table set up; the store is zeros
abbrev pub table_ready : List ℕ → List ℕ → List ℕ
table_ready t st = sets t 0 (set_up_table (take (words_of t) t) (bytes_of t st))

abbrev pub store_ready : List ℕ → List ℕ
store_ready st = sets st 0 (replicate (length st) 0)

-- ---- a call is whole: its numbers are nums, its bytes stand at the front of the buffer l (a reader takes no more than max_buffer of them)
unfoldable pub outcome_of : Session → List ℕ → List ℕ → List ℕ → List ℕ → Outcome
outcome_of x nums t st l =
    step (record { table = take x.words t; store = take x.bytes st }) (call_from nums (take (min (slice_index nums 5) max_buffer) l))

abbrev pub one_more : ℕ → ℕ
one_more n = (n + 1) % 2 ^ 64

-- its outcome is o: what it leaves is stored over the front of the lent slices, and its line is due
abbrev pub after_call : Session → List ℕ → Advanced → Outcome → Turn
after_call x st p o =
    record {
      session = onward x p.moved.reader (one_more x.lines) false;
      next = p.moved.next;
      rest = p.rest;
      table = sets p.table 0 o.state.table;
      store = sets st 0 o.state.store;
      buffer = sets p.buffer 0 o.buffer;
      text = line (one_more x.lines) (slice_index p.moved.reader.nums 1) o.answered o.buffer;
    }

-- ---- by what was read
unfoldable pub acted : What → Session → List ℕ → Advanced → Turn
acted More x st p =
    record {
      session = onward x p.moved.reader x.lines false;
      next = p.moved.next;
      rest = p.rest;
      table = p.table;
      store = st;
      buffer = p.buffer;
      text = [];
    }
acted Configuration x st p =
    record {
      session = opened p.moved.reader p.table st;
      next = p.moved.next;
      rest = p.rest;
      table = table_ready p.table st;
      store = store_ready st;
      buffer = p.buffer;
      text = cond (accepts p.table st) heading bad_configuration;
    }
acted Call x st p = after_call x st p (outcome_of x p.moved.reader.nums p.table st p.buffer)
acted Fault x st p =
    record {
      session = onward x p.moved.reader x.lines true;
      next = p.moved.next;
      rest = p.rest;
      table = p.table;
      store = st;
      buffer = p.buffer;
      text = fault_text (is_calling x.reader);
    }

-- s is the piece from place i on; a session that is over reads nothing more
unfoldable pub turn : Session → List ℕ → List ℕ → List ℕ → List ℕ → ℕ → Turn
turn x t st l s i =
    cond x.over
    (record { session = x; next = i + length s; rest = []; table = t; store = st; buffer = l; text = [] })
    (acted (advance x.reader t l s i).moved.what x st (advance x.reader t l s i))

-- ---- what the code leaves

-- the text s is written into the buffer o from a place on, and r is the place past it; no text is longer than the room of a line
pub record Written (o : List ℕ) (at : ℕ) (s : List ℕ) (r : ℕ) (o' : List ℕ) : Type 0 where
  pub text : Wrote o at s r o'
  pub short : length s ≤ line_bytes

-- the configuration at the front of the table t is set up
pub record Prepared (reader : Reader) (t st : List ℕ) (r : Session) (t' st' : List ℕ) : Type 0 where
  pub session : r ≡ opened reader t st
  pub table : t' ≡ table_ready t st
  pub store : st' ≡ store_ready st

-- a call is run: k is its outcome, and n its number
pub record Ran (k : Outcome) (n : ℕ) (nums t st l o : List ℕ) (at r : ℕ) (t' st' l' o' : List ℕ) : Type 0 where
  pub table : t' ≡ sets t 0 k.state.table
  pub store : st' ≡ sets st 0 k.state.store
  pub buffer : l' ≡ sets l 0 k.buffer
  pub written : Written o at (line n (slice_index nums 1) k.answered k.buffer) r o'

-- the session and the slices are those of the turn k, and its text is written into the buffer o from a place on
pub record Turned (k : Turn) (o : List ℕ) (at : ℕ) (r : Stepped) (t' st' l' o' : List ℕ) : Type 0 where
  pub session : r.session ≡ k.session
  pub next : r.next ≡ k.next
  pub table : t' ≡ k.table
  pub store : st' ≡ k.store
  pub buffer : l' ≡ k.buffer
  pub written : Written o at k.text r.end o'

-- that, where the configuration is whole: the session before it, the rest of the piece and the buffer do not matter
pub record Begun (reader : Reader) (i : ℕ) (t st o : List ℕ) (at : ℕ) (r : Stepped) (t' st' o' : List ℕ) : Type 0 where
  pub session : r.session ≡ opened reader t st
  pub next : r.next ≡ i
  pub table : t' ≡ table_ready t st
  pub store : st' ≡ store_ready st
  pub written : Written o at (cond (accepts t st) heading bad_configuration) r.end o'

-- that, where a piece was read as far as m says, whatever is left of it
abbrev pub Acts : Session → Moved → List ℕ → List ℕ → List ℕ → List ℕ → ℕ → Stepped → List ℕ → List ℕ → List ℕ → List ℕ → Type 0
Acts x m t st l o at r t' st' l' o' =
    (rest : List ℕ) → Turned (acted m.what x st (record { moved = m; rest = rest; table = t; buffer = l })) o at r t' st' l' o'
