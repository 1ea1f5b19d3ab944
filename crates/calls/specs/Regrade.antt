-- What a regrade leaves, and what its copy counts on.
use Rattle.std.specs.Prelude.{◌≡◌, List, Option, ℕ, ◌+◌, ◌*◌, ◌≤◌, ◌<◌, length}
use Rattle.rules.specs.Layout.{max_slots, max_blocks, block_bytes, file, cells, configuration}
use Rattle.rules.specs.Call21.{regrade}
use Rattle.calls.specs.declared.Answer.{Answer}
use Rattle.calls.specs.World.{words_of}
use Rattle.calls.specs.Seen.{slot_found}
use Rattle.calls.specs.Left.{rule_at, store_of, buffer_of, Left}

-- the first blocks of file f, as many as its size, can be copied to file g: the stretches are within the store, and the files are two
pub record Copyable (st : List ℕ) (blocks f g size : ℕ) : Type 0 where
  pub source : f * (blocks * block_bytes) + blocks * block_bytes ≤ length st
  pub target : g * (blocks * block_bytes) + blocks * block_bytes ≤ length st
  pub within : size ≤ blocks
  pub few-blocks : blocks ≤ max_blocks
  pub few-files : (f < max_slots) × (g < max_slots)
  pub other : f ≡ g → ⊥

-- the slot that the search finds in cell b, if any, where the table has such a cell
abbrev pub FoundIn : List ℕ → ℕ → Option ℕ → Type 0
FoundIn t b g = b < cells (configuration t) → g ≡ slot_found (configuration t) (words_of t) file b

-- the answer, the table, the store and the buffer that the rule gives
pub record RegradeLeft (t st : List ℕ) (p a b c : ℕ) (buf : List ℕ) (r : Answer) (t' st' : List ℕ) : Type 0 where
  pub left : Left t (λ h q. regrade h q st p a b c buf) r t'
  pub store : st' ≡ store_of (configuration t) st (rule_at t (λ h q. regrade h q st p a b c buf))
  pub buffer : buf ≡ buffer_of buf (rule_at t (λ h q. regrade h q st p a b c buf))
