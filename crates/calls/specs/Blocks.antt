-- What blocks are to be used for, and what the two block calls leave.
use Rattle.std.specs.Prelude.{◌≡◌, Bool, true, false, List, ℕ}
use Rattle.rules.specs.Layout.{configuration}
use Rattle.rules.specs.Modes.{reads, writes}
use Rattle.rules.specs.Errors.{XnotReadable, XnotWritable}
use Rattle.rules.specs.Rule.{Refusal}
use Rattle.rules.specs.Call13.{read_block}
use Rattle.rules.specs.Call14.{write_block}
use Rattle.calls.specs.declared.Answer.{Answer}
use Rattle.calls.specs.declared.blocks.Purpose.{Purpose}
use Rattle.calls.specs.declared.blocks.Purpose.TheVariants.{Read, Write}
use Rattle.calls.specs.declared.entries.Entry.{Entry}
use Rattle.calls.specs.declared.objects.Seen.{Seen}
use Rattle.calls.specs.Calls.{use_tests}
use Rattle.calls.specs.Left.{rule_at, store_of, buffer_of, Left}

-- what an entry with these modes is held for, and the number that answers where it is not
abbrev pub held_for : Purpose → ℕ → Bool
held_for Read modes = reads modes
held_for Write modes = writes modes

abbrev pub unheld_for : Purpose → ℕ
unheld_for Read = XnotReadable
unheld_for Write = XnotWritable

-- what refuses that use by entry a, which is d, of the file that is seen
abbrev pub tests_for : Purpose → ℕ → Entry → Seen → List Refusal
tests_for Read a d f = use_tests a d.held (reads d.used) XnotReadable f true false
tests_for Write a d f = use_tests a d.held (writes d.used) XnotWritable f false true

-- the answer, the table, the store and the buffer that the rule gives
pub record ReadLeft (t st : List ℕ) (p a b : ℕ) (buf : List ℕ) (r : Answer) (buf' : List ℕ) : Type 0 where
  pub left : Left t (λ h q. read_block h q st p a b buf) r t
  pub store : st ≡ store_of (configuration t) st (rule_at t (λ h q. read_block h q st p a b buf))
  pub buffer : buf' ≡ buffer_of buf (rule_at t (λ h q. read_block h q st p a b buf))

pub record WriteLeft (t st : List ℕ) (p a b : ℕ) (buf : List ℕ) (r : Answer) (t' st' : List ℕ) : Type 0 where
  pub left : Left t (λ h q. write_block h q p a b buf) r t'
  pub store : st' ≡ store_of (configuration t) st (rule_at t (λ h q. write_block h q p a b buf))
  pub buffer : buf ≡ buffer_of buf (rule_at t (λ h q. write_block h q p a b buf))
