-- Subtypes: their words in the configuration, and what a caller sees of one.
use mathlib.Core.Path.{◌≡◌, refl, sym, ap, ◌∙◌}
use mathlib.Core.Bool.{Bool, true, false, cond, ◌&&◌, ◌||◌, not}
use Rattle.std.specs.Prelude.{Some, None}
use mathlib.Core.List.{List, [], ◌∷◌}
use Prim.Native.Nat.{ℕ, ◌+◌, ◌≤◌, ◌<◌}
use native.Mathlib.Omega.{arith}
use lib.Dec.{eqb, ltb}
use borrow.Author.Tests.{ne_eqb}
use lib.ListN.{get_or, take, length-take, get_or-eq_default}
use Rattle.rules.specs.Layout.{subtype_words, process, configuration, configuration_words, subtypes, subtype_at, subtype_word, subtype_cell, subtype_owner, subtype_group, subtype_bits, flow_matrix, cell_of, Addr, at, owner, group, entries}
use Rattle.rules.specs.Seid.{index_of, serial_of, is_subtype, formed_subtype}
use Rattle.rules.specs.Rights.{rights}
use Rattle.rules.specs.Errors.{XbadStCap, XbadSubtypeMatch}
use Rattle.rules.specs.Rule.{◌⇒◌, first_refusal}
use Rattle.rules.specs.Modes.{reads, writes}
use Rattle.rules.specs.Subtype.{held_by, modes_by, no_subtype}
use Rattle.rules.specs.Call07.{unfit, subtype_for}
use Rattle.rules.specs.Call08.{subtype_rights}
use Rattle.laws.proofs.Tests.{both_ways, or_left, or_right}
use Rattle.laws.proofs.Places.{conf-word, conf-cells, conf-subtypes}
use Rattle.levels.proofs.Cells.{matrix-any}
use Rattle.layout.specs.declared.Header.{Header}
use Rattle.layout.specs.Header.{subtype_of}
use Rattle.calls.specs.declared.Caller.{Caller}
use Rattle.calls.specs.declared.objects.Seen.{Seen}
use Rattle.calls.specs.World.{Known, Sound, words_of}
use Rattle.calls.specs.declared.entries.Entry.{Entry}
use Rattle.calls.specs.Seen.{unseen, seen_subtype, capability_of}
use Rattle.calls.specs.Calls.{create_under, open_under}
use Rattle.calls.proofs.Worlds.{shape, cells_is}
use Rattle.calls.proofs.Searches.{some-found, none-found}

module _ {t : List ℕ} {n : Header} (known : Known t n) where
  pub subtypes-is : n.subtypes ≡ subtypes (configuration t)
  subtypes-is = ap (λ (x : Header). x.subtypes) known.header

  -- past the last subtype the configuration ends
  pub word-past : (i k : ℕ) → n.subtypes ≤ i → 0 ≡ subtype_word (configuration t) i k
  unfolding subtype_word configuration
  word-past i k l =
      let end : ℕ = configuration_words t in
      sym (get_or-eq_default (take end t) 0 (omega (arith, length-take end t, subtypes-is, conf-subtypes t, conf-cells t)))

  pub word-told : (i k : ℕ) → i < n.subtypes → k < subtype_words → {place x : ℕ} → place ≡ subtype_of n i → x ≡ get_or t (place + k) 0
      → x ≡ subtype_word (configuration t) i k
  unfolding subtype_word
  word-told i k l m {place} pe xe =
      let here : place + k ≡ subtype_at (configuration t) i k = omega (arith, pe, cells_is known) in
      xe ∙ ap (λ (j : ℕ). get_or t j 0) here
      ∙ sym (conf-word t (subtype_at (configuration t) i k) (omega (arith, subtypes-is, conf-subtypes t, conf-cells t)))

-- what has no form isn't seen; else field by field
module _ {t : List ℕ} {n : Header} {c : Caller} (sound : Sound t n c) (s : ℕ) where
  pub subtype-unseen : {x : Seen} → formed_subtype (configuration t) s ≡ false → x ≡ unseen → x ≡ seen_subtype (configuration t) (words_of t) c.slot s
  subtype-unseen form xe = rw (form, xe)

  module _ {m : List (List Bool)} (matrix : m ≡ flow_matrix (configuration t)) {i cell owner-word group-word bits-word mine my-group z y : ℕ} {f : Bool}
      (index_is : i ≡ index_of s) (cell-is : cell ≡ subtype_cell (configuration t) i) (owner-is : owner-word ≡ subtype_owner (configuration t) i)
      (group-is : group-word ≡ subtype_group (configuration t) i) (bits_is : bits-word ≡ subtype_bits (configuration t) i)
      (mine-is : mine ≡ words_of t (at process c.slot owner)) (my-group-is : my-group ≡ words_of t (at process c.slot group))
      (flow-is : f ≡ get_or (get_or m cell []) c.cell false) (rights-is : y ≡ rights mine my-group owner-word group-word bits-word) (serial-is : z ≡ serial_of s) where
    pub subtype-looked : formed_subtype (configuration t) s ≡ true → ◌≡◌ {A = Seen} (record {
      formed = true;
      slot = i;
      cell = cell;
      own = eqb cell c.cell;
      flows = f;
      present = eqb z 1;
      mine = eqb owner-word mine;
      rights = y;
    }) (seen_subtype (configuration t) (words_of t) c.slot s)
    unfolding subtype_rights
    subtype-looked form =
        rw (form, rights-is, flow-is, matrix, bits_is, group-is, owner-is, cell-is, index_is, mine-is, my-group-is, serial-is, sound.home)
        (rw (matrix-any (configuration t) (shape sound.known).few-cells _ _))

-- ---- the descriptor that c names: past the entries, of another kind, or of a subtype

module _ (r : Addr → ℕ) (p c : ℕ) where
  pub held-past : eqb c 0 || ltb entries c ≡ true → None ≡ capability_of r p c
  unfolding capability_of no_subtype
  held-past e = past (eqb c 0) (ltb entries c) _ _ e
    where
      past : {A : Type 0} (a b c : Bool) (x : A) → a || b ≡ true → None ≡ cond (a || (b || c)) None (Some x)
      past true b c x e = refl
      past false true c x e = refl
      past false false c x e = both_ways false e refl

  -- within the entries it goes by what the descriptor holds
  module _ (within : eqb c 0 || ltb entries c ≡ false) where
    pub held-other : is_subtype (held_by r p c) ≡ false → None ≡ capability_of r p c
    unfolding capability_of no_subtype
    held-other e = rw (or_left (eqb c 0) (ltb entries c) within, or_right (eqb c 0) (ltb entries c) within, e) refl

    pub held-there : is_subtype (held_by r p c) ≡ true → Some (record { held = held_by r p c; used = modes_by r p c }) ≡ capability_of r p c
    unfolding capability_of no_subtype
    held-there e = rw (or_left (eqb c 0) (ltb entries c) within, or_right (eqb c 0) (ltb entries c) within, e) refl

-- ---- the tests of a create and of an open, where a subtype is named or asked for: x is what the descriptor holds

module _ (h : List ℕ) (r : Addr → ℕ) (p c : ℕ) (named : c ≡ 0 → ⊥) where
  pub create-none : None ≡ capability_of r p c → XbadStCap ≡ first_refusal (create_under h r p c)
  unfolding capability_of
  create-none none = rw (ne_eqb c 0 named, none-found (no_subtype r p c) _ none) refl

  pub create-held : {x : Entry} {cell e : ℕ} → Some x ≡ capability_of r p c → cell ≡ subtype_cell h (index_of x.held)
      → e ≡ first_refusal ((not (eqb cell (cell_of h process p)) || not (reads x.used && writes x.used) ⇒ XbadSubtypeMatch) ∷ [])
      → e ≡ first_refusal (create_under h r p c)
  unfolding capability_of unfit
  create-held {x} held ce found =
      let there = some-found (no_subtype r p c) _ x held in
      rw (ne_eqb c 0 named, there.0) (found ∙ rw (ce, there.1))

pub create-subtype : (r : Addr → ℕ) (p c : ℕ) → (c ≡ 0 → ⊥) → {x : Entry} → Some x ≡ capability_of r p c → x.held ≡ subtype_for r p c
unfolding capability_of subtype_for
create-subtype r p c named {x} held = rw (ne_eqb c 0 named) (ap (λ (y : Entry). y.held) (some-found (no_subtype r p c) _ x held).1)

module _ (r : Addr → ℕ) (p s b c : ℕ) (asked : s ≡ 0 → ⊥) where
  pub open-none : None ≡ capability_of r p c → XbadStCap ≡ first_refusal (open_under r p s b c)
  unfolding capability_of
  open-none none = rw (ne_eqb s 0 asked, none-found (no_subtype r p c) _ none) refl

  pub open-held : {x : Entry} {e : ℕ} → Some x ≡ capability_of r p c
      → e ≡ first_refusal ((not (eqb x.held s) || ((reads b && not (reads x.used)) || (writes b && not (writes x.used))) ⇒ XbadSubtypeMatch) ∷ [])
      → e ≡ first_refusal (open_under r p s b c)
  unfolding capability_of
  open-held {x} held found =
      let there = some-found (no_subtype r p c) _ x held in
      rw (ne_eqb s 0 asked, there.0) (found ∙ rw there.1)
