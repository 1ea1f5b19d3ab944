-- Calls by the tray: a record of the code as the rules' record, what a run of one record and of a tray comes to, and what the judging of a tray hands on.
use Rattle.std.specs.Prelude.{◌≡◌, Bool, true, cond, List, map, ℕ, ltb, eqb, length, get_or, replicate}
use Rattle.std.proofs.lemmas.List.Edits.{sets}
use Rattle.rules.specs.Claim.{test}
use Rattle.rules.specs.Layout.{configuration}
use Rattle.rules.specs.WellFormed.{well_formed}
use Rattle.rules.specs.Errors.{XOK, XbTab, XbParam}
use Rattle.rules.specs.Step.{State}
use Rattle.rules.specs.Tray as rules
use Rattle.rules.specs.Tray.{record_step, with_answer, most_records, tray_answer, after_tray}
use Rattle.layout.specs.Hall.{flows_at, hall_bytes, hall_of}
use Rattle.calls.specs.declared.Record.{Record}
use Rattle.calls.specs.declared.Answer.{Answer}
use Rattle.calls.specs.Did.{rule_answer}
use Rattle.calls.specs.Handed.{Handed}

-- the same numbers
abbrev pub rule_record : Record → rules.Record
rule_record r = record {
  caller = r.caller;
  code = r.code;
  a = r.a;
  b = r.b;
  c = r.c;
  offset = r.offset;
  length = r.length;
  answer = rule_answer r.answer;
}

abbrev pub rule_records : List Record → List rules.Record
rule_records rs = map rule_record rs

-- the record with its answer; its other fields are as they were
abbrev pub answered_by : Record → Answer → Record
answered_by r x = record {
  caller = r.caller;
  code = r.code;
  a = r.a;
  b = r.b;
  c = r.c;
  offset = r.offset;
  length = r.length;
  answer = x;
}

-- what the public tray ensures: its answer, every table word, every stored byte, every record and every byte of the lent slice are those of the rules' tray
pub record Trayed (s : State) (lent : List ℕ) (rs : List Record) (v : ℕ) (t' s' bytes' : List ℕ) (rs' : List Record) : Type 0 where
  pub answer : v ≡ tray_answer s (rule_records rs)
  pub table : t' ≡ (after_tray s lent (rule_records rs)).state.table
  pub store : s' ≡ (after_tray s lent (rule_records rs)).state.store
  pub bytes : bytes' ≡ (after_tray s lent (rule_records rs)).bytes
  pub records : rule_records rs' ≡ (after_tray s lent (rule_records rs)).records

-- ---- on the way there

-- one record run
pub record Ran (s : State) (lent : List ℕ) (r y : Record) (t' s' bytes' : List ℕ) : Type 0 where
  pub answered : rule_record y ≡ with_answer (rule_record r) (record_step s lent (rule_record r)).answered
  pub table : t' ≡ (record_step s lent (rule_record r)).state.table
  pub store : s' ≡ (record_step s lent (rule_record r)).state.store
  pub bytes : bytes' ≡ sets lent r.offset (record_step s lent (rule_record r)).buffer

-- a table that was judged: it is well formed for its store, and m and hall are what the check handed on of it
pub record Ready (t s : List ℕ) (m : List (List Bool)) (hall : List ℕ) : Type 0 where
  pub good : test (well_formed t (length s)) ≡ true
  pub handed : Handed (configuration t) m hall

-- no cell flows to any, not even to itself: nothing of the kind is handed on of a well-formed table, so it says that no tray is run
abbrev pub no_hall : List ℕ
no_hall = replicate hall_bytes 0

-- what the judging of a tray of so many records hands on
unfoldable pub begun : List ℕ → ℕ → ℕ → List ℕ
begun t bytes count = cond (ltb most_records count) no_hall (cond (test (well_formed t bytes)) (hall_of (configuration t)) no_hall)

-- "a longer one is refused with 4, then a bad table with 1"
unfoldable pub verdict_of : List ℕ → ℕ → ℕ
verdict_of hall count = cond (ltb most_records count) XbParam (cond (eqb (get_or hall flows_at 0) 1) XOK XbTab)
