-- 02, CR 8, reading without a copy: "It wants to be shown the 512 bytes as a part of the lent store, not a copy". A view is no call: it has no code and no buffer,
-- and leaves no state, for nothing changes.
use Rattle.std.specs.Prelude.{cond, not, List, ◌∷◌, ℕ, ◌+◌, ◌*◌, eqb, length}
use Rattle.rules.specs.Words.{part}
use Rattle.rules.specs.Claim.{test}
use Rattle.rules.specs.Layout.{block_bytes, process, file, configuration, stretch, Addr, at, rd, held_at}
use Rattle.rules.specs.Seid.{index_of}
use Rattle.rules.specs.WellFormed.{well_formed}
use Rattle.rules.specs.Errors.{XbTab, XbPrSd}
use Rattle.rules.specs.Rule.{Refusal, ◌⇒◌, first_refusal}
use Rattle.rules.specs.Call13.{unbuffered}
use Rattle.rules.specs.Step.{State, bad_caller}

-- "under exactly the refusals of call 13 less the buffer length", of process p's descriptor a and block b; before them 1 and 2, as before every call's own list. A view
-- has no code, so no 3.
unfoldable pub view_refusals : State → ℕ → ℕ → ℕ → List Refusal
view_refusals s p a b =
    let h : List ℕ = configuration s.table in
    (not (test (well_formed s.table (length s.store))) ⇒ XbTab) ∷ (bad_caller h (rd h s.table) p ⇒ XbPrSd) ∷ unbuffered h (rd h s.table) p a b

-- "its number is asked apart"
unfoldable pub view_number : State → ℕ → ℕ → ℕ → ℕ
view_number s p a b = first_refusal (view_refusals s p a b)

-- where block b of the file at descriptor a of process p stands in the store
unfoldable pub block_place : List ℕ → (Addr → ℕ) → ℕ → ℕ → ℕ → ℕ
block_place h r p a b = index_of (r (at process p (held_at file a))) * stretch h + b * block_bytes

-- the part shown, its first byte and how many: "A refusal shows an empty part."
unfoldable pub view_from : State → ℕ → ℕ → ℕ → ℕ
view_from s p a b = let h : List ℕ = configuration s.table in cond (eqb (view_number s p a b) 0) (block_place h (rd h s.table) p a b) 0

unfoldable pub view_count : State → ℕ → ℕ → ℕ → ℕ
view_count s p a b = cond (eqb (view_number s p a b) 0) block_bytes 0

-- its bytes: "The part shown is that file's block as it stands"
unfoldable pub view_shown : State → ℕ → ℕ → ℕ → List ℕ
view_shown s p a b = part s.store (view_from s p a b) (view_count s p a b)
