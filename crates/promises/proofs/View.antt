-- Reading without a copy (02, CR 8): what a view shows is that file's block as it stands, exactly what call 13 would copy into a buffer of 512 bytes, under the same
-- number; a refusal shows an empty part. All this of every state, well formed or not.
use mathlib.Core.Path.{◌≡◌, refl, sym, ◌∙◌}
use mathlib.Core.Bool.{false}
use mathlib.Core.List.{List, []}
use Prim.Native.Nat.{ℕ}
use native.Mathlib.Omega.{arith}
use lib.Dec.{leb, eqb}
use lib.ListN.{length}
use borrow.Author.Tests.{eq-eqb, ne_eqb}
use Rattle.rules.specs.Words.{part}
use Rattle.rules.specs.Layout.{block_bytes, process, file, configuration, at, rd, entries, held_at}
use Rattle.rules.specs.Seid.{index_of}
use Rattle.rules.specs.Errors.{XOK, XbdKcl, XbSz}
use Rattle.rules.specs.Call13.{block, read_block}
use Rattle.rules.specs.Step.{State, Call, bad_caller, bad_code, rule_of, whole_rule, step}
use Rattle.rules.specs.View.{view_refusals, view_number, block_place, view_from, view_count, view_shown}
use Rattle.laws.proofs.Tests.{cond-true, cond-false}
use Rattle.laws.proofs.Refusals.{Clear, clear, never}
use Rattle.promises.proofs.Refusals

-- process p reads block b by descriptor a into a buffer; the c of a call 13 is any number
abbrev pub reading : ℕ → ℕ → ℕ → ℕ → List ℕ → Call
reading p a b c buffer = record { caller = p; code = 13; a = a; b = b; c = c; buffer = buffer }

module _ (s : State) (p a b : ℕ) where
  -- a view that is refused shows nothing, from byte 0 on
  pub refused-from : (view_number s p a b ≡ XOK → ⊥) → view_from s p a b ≡ 0
  unfolding view_from
  refused-from n = cond-false (eqb (view_number s p a b) 0) _ 0 (ne_eqb (view_number s p a b) 0 n)

  pub refused-count : (view_number s p a b ≡ XOK → ⊥) → view_count s p a b ≡ 0
  unfolding view_count
  refused-count n = cond-false (eqb (view_number s p a b) 0) block_bytes 0 (ne_eqb (view_number s p a b) 0 n)

  pub refused-shows-nothing : (view_number s p a b ≡ XOK → ⊥) → view_shown s p a b ≡ []
  unfolding view_shown part
  refused-shows-nothing n = rw (refused-count n) refl

  -- else it shows 512 bytes from that block's first on
  pub shown-from : view_number s p a b ≡ XOK → view_from s p a b ≡ block_place (configuration s.table) (rd (configuration s.table) s.table) p a b
  unfolding view_from
  shown-from e = cond-true (eqb (view_number s p a b) 0) _ 0 (eq-eqb (view_number s p a b) 0 e)

  pub shown-count : view_number s p a b ≡ XOK → view_count s p a b ≡ block_bytes
  unfolding view_count
  shown-count e = cond-true (eqb (view_number s p a b) 0) block_bytes 0 (eq-eqb (view_number s p a b) 0 e)

  -- "that file's block as it stands"
  pub shown-is-block : view_number s p a b ≡ XOK
      → view_shown s p a b ≡ block (configuration s.table) s.store (index_of (rd (configuration s.table) s.table (at process p (held_at file a)))) b
  unfolding view_shown block_place block
  shown-is-block e = rw (shown-count e, shown-from e) refl

  -- a block is shown exactly when no test of the view's refusals holds
  pub no-refusal-holds : view_number s p a b ≡ XOK → Clear (view_refusals s p a b)
  unfolding view_number view_refusals
  no-refusal-holds e = clear (view_refusals s p a b) refl e

  pub shows : Clear (view_refusals s p a b) → view_number s p a b ≡ XOK
  unfolding view_number
  shows c = Refusals.none-holds (view_refusals s p a b) c

  -- so its caller is one of the table's, and its descriptor one of sixteen
  pub shown-caller : view_number s p a b ≡ XOK → bad_caller (configuration s.table) (rd (configuration s.table) s.table) p ≡ false
  unfolding view_refusals
  shown-caller e = (no-refusal-holds e).1.0

  pub shown-entry : view_number s p a b ≡ XOK → leb entries a ≡ false
  unfolding view_refusals
  shown-entry e = (no-refusal-holds e).1.1.0

  -- a view has no code and no buffer: it never answers 3, and never 5
  pub never-3 : view_number s p a b ≡ XbdKcl → ⊥
  unfolding view_number view_refusals
  never-3 e = never XbdKcl (view_refusals s p a b) (omega arith) refl e

  pub never-5 : view_number s p a b ≡ XbSz → ⊥
  unfolding view_number view_refusals
  never-5 e = never XbSz (view_refusals s p a b) (omega arith) refl e

  -- ---- beside call 13 with a buffer of 512 bytes

  module _ (c : ℕ) (buffer : List ℕ) (long : length buffer ≡ block_bytes) where
    pub same_number : view_number s p a b ≡ (step s (reading p a b c buffer)).answered.error
    unfolding view_number view_refusals whole_rule rule_of bad_code read_block
    same_number = sym (Refusals.answered s (reading p a b c buffer) ∙ rw long refl)

    pub same_bytes : view_number s p a b ≡ XOK → view_shown s p a b ≡ (step s (reading p a b c buffer)).buffer
    unfolding whole_rule rule_of read_block
    same_bytes e = shown-is-block e ∙ sym (Refusals.done s (reading p a b c buffer) (sym same_number ∙ e)).buffer

    -- a view shows exactly what call 13 copies, and is refused exactly where call 13 is, with its number
    pub record AsRead : Type 0 where
      pub number : view_number s p a b ≡ (step s (reading p a b c buffer)).answered.error
      pub bytes : (step s (reading p a b c buffer)).answered.error ≡ XOK → view_shown s p a b ≡ (step s (reading p a b c buffer)).buffer
      pub nothing : ((step s (reading p a b c buffer)).answered.error ≡ XOK → ⊥) → view_shown s p a b ≡ []

    pub as_read : AsRead
    as_read = record {
      number = same_number;
      bytes = λ e. same_bytes (same_number ∙ e);
      nothing = λ n. refused-shows-nothing (λ e. n (sym same_number ∙ e));
    }
