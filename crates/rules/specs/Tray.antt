-- 02, CR 3, calls by the tray: "a lent list of call records, each with room for its answer, run in order, with the table judged once at the start".
use Rattle.std.specs.Prelude.{◌≡◌, Bool, true, false, cond, ◌&&◌, ◌||◌, not, List, [], ◌∷◌, ℕ, ◌+◌, ltb, leb, eqb, length, get_or}
use Rattle.std.proofs.lemmas.List.Edits.{sets}
use Rattle.rules.specs.Words.{part}
use Rattle.rules.specs.Claim.{test}
use Rattle.rules.specs.Layout.{configuration, rd}
use Rattle.rules.specs.WellFormed.{well_formed}
use Rattle.rules.specs.Errors.{XOK, XbTab, XbPrSd, XbdKcl, XbParam, XbSz}
use Rattle.rules.specs.Rule.{Refusal, ◌⇒◌, first_refusal, Rule, rule}
use Rattle.rules.specs.Step.{State, Call, Answer, answer, Outcome, rule_of, bad_caller, bad_code, carried_out}
use Rattle.rules.specs.Observer.{stays}

-- A record is a call with room for its answer. "Buffers are parts of one lent byte slice, given by offset and length".
pub record Record : Type 0 where
  pub caller : ℕ
  pub code : ℕ
  pub a : ℕ
  pub b : ℕ
  pub c : ℕ
  pub offset : ℕ
  pub length : ℕ
  pub answer : Answer

-- its part of the byte slice, and the call that it asks for
abbrev pub part_of : List ℕ → Record → List ℕ
part_of bytes r = part bytes r.offset r.length

abbrev pub record_call : List ℕ → Record → Call
record_call bytes r = record { caller = r.caller; code = r.code; a = r.a; b = r.b; c = r.c; buffer = part_of bytes r }

-- the part lies inside the slice: offset + length is a true sum, so an empty part at the very end does
unfoldable pub inside : List ℕ → Record → Bool
inside bytes r = leb (r.offset + r.length) (length bytes)

-- "a part that doesn't lie inside it answers 5 in that record, after refusals 2 and 3 and before the call's own list". 1 is no refusal of a record: the table was
-- judged for them all.
unfoldable pub record_rule : List ℕ → State → List ℕ → Record → Rule
record_rule h s bytes r =
    let own : Rule = rule_of h (rd h s.table) s.store (record_call bytes r) in
    rule
    ((bad_caller h (rd h s.table) r.caller ⇒ XbPrSd) ∷ (bad_code r.code ⇒ XbdKcl) ∷ (not (inside bytes r) ⇒ XbSz) ∷ own.refusals)
    own.effects

unfoldable pub record_step : State → List ℕ → Record → Outcome
record_step s bytes r = carried_out (configuration s.table) s (part_of bytes r) (record_rule (configuration s.table) s bytes r)

-- a record with its answer; its other fields stay
abbrev pub with_answer : Record → Answer → Record
with_answer r x = record { caller = r.caller; code = r.code; a = r.a; b = r.b; c = r.c; offset = r.offset; length = r.length; answer = x }

-- what a tray leaves: table and store, the byte slice, the records
pub record Tray : Type 0 where
  pub state : State
  pub bytes : List ℕ
  pub records : List Record

abbrev pub left : State → List ℕ → List Record → Tray
left s bytes rs = record { state = s; bytes = bytes; records = rs }

abbrev pub behind : Record → Tray → Tray
behind r x = left x.state x.bytes (r ∷ x.records)

-- "run in order": each record finds what those before it left, in the byte slice too; where one is refused "the tray goes on"
unfoldable pub in_order : State → List ℕ → List Record → Tray
in_order s bytes [] = left s bytes []
in_order s bytes (r ∷ rs) =
    let o : Outcome = record_step s bytes r in
    behind (with_answer r o.answered) (in_order o.state (sets bytes r.offset o.buffer) rs)

-- "A tray holds up to 1,024; a longer one is refused with 4, then a bad table with 1"
abbrev pub most_records : ℕ
most_records = 1024

abbrev pub tray_refusals : State → List Record → List Refusal
tray_refusals s rs =
    (ltb most_records (length rs) ⇒ XbParam) ∷ (not (test (well_formed s.table (length s.store))) ⇒ XbTab) ∷ []

unfoldable pub tray_answer : State → List Record → ℕ
tray_answer s rs = first_refusal (tray_refusals s rs)

-- "and either way nothing changes, records included"
unfoldable pub after_tray : State → List ℕ → List Record → Tray
after_tray s bytes rs = cond (eqb (tray_answer s rs) XOK) (in_order s bytes rs) (left s bytes rs)

-- ---- what an observer's set of cells C sees of a tray

-- a record is struck out as its call is
abbrev pub stays_in : List ℕ → (ℕ → Bool) → Record → Bool
stays_in h C r = stays h C (record_call [] r)

-- the records that are not struck out, with their answers; and what they ask, whatever stands in the room for their answers
unfoldable pub remaining_in : List ℕ → (ℕ → Bool) → List Record → List Record
remaining_in h C [] = []
remaining_in h C (r ∷ rs) = cond (stays_in h C r) (r ∷ remaining_in h C rs) (remaining_in h C rs)

unfoldable pub asked : List Record → List Record
asked [] = []
asked (r ∷ rs) = with_answer r (answer 0 0 0) ∷ asked rs

-- byte i lies in a record's part
unfoldable pub in_part : Record → ℕ → Bool
in_part r i = leb r.offset i && ltb i (r.offset + r.length)

-- "the remaining calls' parts": byte i lies in one of them; and in one of "the struck-out ones'"
unfoldable pub seen : List ℕ → (ℕ → Bool) → List Record → ℕ → Bool
seen h C [] i = false
seen h C (r ∷ rs) i = (stays_in h C r && in_part r i) || seen h C rs i

unfoldable pub hidden : List ℕ → (ℕ → Bool) → List Record → ℕ → Bool
hidden h C [] i = false
hidden h C (r ∷ rs) i = (not (stays_in h C r) && in_part r i) || hidden h C rs i

-- a tray places "those parts apart from the struck-out ones'"
abbrev pub Apart : List ℕ → (ℕ → Bool) → List Record → Type 0
Apart h C rs = (i : ℕ) → seen h C rs i ≡ true → hidden h C rs i ≡ false

-- two byte slices are "equal .. on the remaining calls' parts"
abbrev pub SameParts : List ℕ → (ℕ → Bool) → List Record → List ℕ → List ℕ → Type 0
SameParts h C rs x y = (i : ℕ) → seen h C rs i ≡ true → get_or x i 0 ≡ get_or y i 0
