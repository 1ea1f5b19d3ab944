-- What the quick engine counts on: a working slice that is the table's, and what is known of a clash before the search.
use Rattle.std.specs.Prelude.{◌≡◌, Bool, cond, ◌&&◌, ◌||◌, List, Option, Some, None, IfSome, ℕ, ◌<◌, eqb, length}
use Rattle.rules.specs.Layout.{Kind, process, segment, file, cells, slots, configuration, cell_of}
use Rattle.rules.specs.Seid.{index_of}
use Rattle.rules.specs.Call08.{clashes}
use Rattle.rules.specs.Claim.{test}
use Rattle.rules.specs.SetUp.{can_set_up}
use Rattle.rules.specs.Step.{State, regrade_code}
use Rattle.rules.specs.Work.{work_in}
use Rattle.rules.specs.Quick.{same_words, quick_answer, after_quick}
use Rattle.follow.specs.Right.{Right}
use Rattle.calls.specs.declared.Caller.{Caller}
use Rattle.calls.specs.declared.Record.{Record}
use Rattle.calls.specs.World.{words_of}
use Rattle.calls.specs.Seen.{slot_found}
use Rattle.calls.specs.Regrade.{FoundIn}
use Rattle.calls.specs.Tray.{rule_records, no_hall, begun}

-- the working slice is the table's
abbrev pub RightIn : List ℕ → List ℕ → Type 0
RightIn t w = Right (configuration t) (words_of t) w

-- and so is one that is lent to a call: the plain engine lends none
abbrev pub OwnIfLent : List ℕ → List ℕ → Type 0
OwnIfLent t w = 0 < length w → RightIn t w

-- the kind of object that a call makes, if it makes one
abbrev pub kind_made : ℕ → Option Kind
kind_made code = cond (eqb code 1) (Some process) (cond (eqb code 3) (Some segment) (cond (eqb code 7 || eqb code regrade_code) (Some file) None))

-- q is the slot that is found for what a call makes, if any: in the caller's cell, and for a copy in cell b
pub record Made (t : List ℕ) (c : Caller) (code b : ℕ) (q : Option ℕ) : Type 0 where
  pub spawned : code ≡ 1 → q ≡ slot_found (configuration t) (words_of t) process c.cell
  pub built : code ≡ 3 → q ≡ slot_found (configuration t) (words_of t) segment c.cell
  pub created : code ≡ 7 → q ≡ slot_found (configuration t) (words_of t) file c.cell
  pub copied : code ≡ regrade_code → FoundIn t b q

-- what is known of an open of s with modes b, in a cell, is so
abbrev pub Tells : List ℕ → ℕ → ℕ → ℕ → Option Bool → Type 0
Tells t c s b x = IfSome x (λ clash. clash ≡ clashes (configuration t) (words_of t) c s b)

-- slot i of a kind is one of the caller's cell
pub record Near (t : List ℕ) (c : Caller) (k : Kind) (i : ℕ) : Type 0 where
  pub in-range : i < slots (configuration t) k
  pub in_cell : cell_of (configuration t) k i ≡ c.cell

-- what a call that succeeded was about: a released process is one of the caller's cell, a copy went to a cell that there is
pub record Followable (t : List ℕ) (c : Caller) (s code b : ℕ) : Type 0 where
  pub released : code ≡ 2 → Near t c process (index_of s)
  pub copied : code ≡ regrade_code → b < cells (configuration t)

-- what the judging of a quick tray of so many records hands on
unfoldable pub begun_quick : List ℕ → ℕ → ℕ → List ℕ → List ℕ
begun_quick t bytes count w = cond (test (can_set_up t bytes) && same_words w (work_in t)) (begun t bytes count) no_hall

-- what the public quick tray ensures: its answer, every table word, every stored byte, every record, every byte and every word of the working slice are the rules'
pub record QuickTrayed (s : State) (lent w : List ℕ) (rs : List Record) (v : ℕ) (t' s' bytes' : List ℕ) (rs' : List Record) (w' : List ℕ) : Type 0 where
  pub answer : v ≡ quick_answer s w (rule_records rs)
  pub table : t' ≡ (after_quick s w lent (rule_records rs)).tray.state.table
  pub store : s' ≡ (after_quick s w lent (rule_records rs)).tray.state.store
  pub bytes : bytes' ≡ (after_quick s w lent (rule_records rs)).tray.bytes
  pub records : rule_records rs' ≡ (after_quick s w lent (rule_records rs)).tray.records
  pub work : w' ≡ (after_quick s w lent (rule_records rs)).work
