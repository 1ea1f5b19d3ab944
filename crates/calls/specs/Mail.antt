-- Messages in the table's words: a message shown as bytes.
use Rattle.std.specs.Prelude.{List, ℕ, zero, suc, ◌+◌, ◌*◌, get_or}
use Rattle.std.proofs.lemmas.List.Edits.{sets}
use Rattle.rules.specs.Words.{bytes4}

-- the first n words of the message at a place, in bytes
unfoldable pub shown_at : List ℕ → ℕ → List ℕ → ℕ → List ℕ
shown_at t from b zero = b
shown_at t from b (suc n) = sets (shown_at t from b n) (4 * n) (bytes4 (get_or t (from + n) 0))
