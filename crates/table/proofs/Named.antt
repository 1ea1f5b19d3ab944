-- Subtypes, as the code reads them: whether a word names one, what is asked of a descriptor that holds one, and of a file's word for one.
use Rattle.std.proofs.Common.{◌≡◌, ℕ, ◌<◌, Bool, true, false, not, ◌&&◌, ◌||◌, eqb, List, sym, ◌∙◌, true≢false, arith, eq-eqb, ne_eqb}
use Rattle.rules.specs.Claim.{test}
use Rattle.rules.specs.Layout.{max_cells, file, subtype_cell, cell_of, flows, configuration}
use Rattle.rules.specs.Modes.{valid_modes, writes}
use Rattle.rules.specs.Seid.{subtype_class, index_of, serial_of, is_seid, names_subtype}
use Rattle.rules.specs.WellFormed.{subtype_entry_ok, holds_subtype, file_subtype_ok}
use Rattle.laws.proofs.Tests.{and_left, refuted, split}
use Rattle.laws.proofs.Seids.{is-formed}
use Rattle.layout.specs.declared.Header.{Header}
use Rattle.table.specs.Shape.{IsHeader, Shaped}
use Rattle.table.proofs.Config.{cells-read, subtypes-read}

-- ---- a word that names a subtype

-- what the code asks of it, by the header
abbrev pub named_by : Header → ℕ → Bool
named_by n s = is_seid subtype_class n.subtypes s && eqb (serial_of s) 1

pub named-read : (t : List ℕ) (n : Header) → IsHeader t n → (s : ℕ) → named_by n s ≡ names_subtype (configuration t) s
unfolding names_subtype
named-read t n is s = rw (subtypes-read t n is)

pub named_in : (n : Header) (s : ℕ) → named_by n s ≡ true → index_of s < n.subtypes
named_in n s e = (is-formed subtype_class n.subtypes s (and_left _ _ e)).index_in

-- a subtype's cell is one
pub subtype-low : (t : List ℕ) (n : Header) → Shaped t n → (i : ℕ) → i < n.subtypes → subtype_cell (configuration t) i < max_cells
subtype-low t n shaped i l =
    let is = shaped.framed.header in
    omega (arith, shaped.subtype-cells i (omega (arith, subtypes-read t n is)), cells-read t n is, shaped.framed.small.few-cells)

-- ---- a descriptor that holds one

module _ (h : List ℕ) (c s u : ℕ) where
  pub descriptor-out : names_subtype h s ≡ false → test (subtype_entry_ok h c s u) ≡ false
  unfolding subtype_entry_ok
  descriptor-out e = rw e

  pub descriptor-in : names_subtype h s ≡ true
      → flows h (subtype_cell h (index_of s)) c && (valid_modes u && (not (writes u) || eqb (subtype_cell h (index_of s)) c)) ≡ test (subtype_entry_ok h c s u)
  unfolding subtype_entry_ok
  descriptor-in e = rw e

  -- what names one is of its class
  named-class : names_subtype h s ≡ true → holds_subtype file s ≡ true
  unfolding names_subtype
  named-class e = eq-eqb _ subtype_class (is-formed _ _ s (and_left _ _ e)).class-is

  pub descriptor-holds : test (subtype_entry_ok h c s u) ≡ holds_subtype file s && test (subtype_entry_ok h c s u)
  descriptor-holds =
      split _ (holds_subtype file s)
      (λ e. rw e)
      (λ e. rw e (descriptor-out (refuted (names_subtype h s) (λ q. true≢false (sym (named-class q) ∙ e)))))

-- ---- a file's word for its subtype

module _ (h : List ℕ) (f s : ℕ) where
  pub untyped : s ≡ 0 → test (file_subtype_ok h f s) ≡ true
  unfolding file_subtype_ok
  untyped e = rw (eq-eqb s 0 e)

  pub typed : (s ≡ 0 → ⊥) → names_subtype h s && eqb (subtype_cell h (index_of s)) (cell_of h file f) ≡ test (file_subtype_ok h f s)
  unfolding file_subtype_ok
  typed n = rw (ne_eqb s 0 n)
