-- `segments::build_segment` meets its contract: the rule's refusals in order, the new segment and its designator.
use mathlib.Core.Path.{◌≡◌, refl, sym, ◌∙◌}
use Rattle.std.specs.Prelude.{Some, None}
use mathlib.Core.Bool.{◌||◌, not}
use mathlib.Core.List.{List, [], ◌∷◌, ◌++◌}
use Prim.Native.Nat.{ℕ, ◌+◌}
use native.Mathlib.Omega.{arith}
use lib.Dec.{ltb}
use lib.ListN.{set}
use Rattle.rules.specs.Layout.{max_bits, process, segment, configuration, cell_of, at, offset, held_at, serial, owner, group}
use Rattle.rules.specs.Seid.{class}
use Rattle.rules.specs.WellFormed.{segment_size}
use Rattle.rules.specs.Errors.{XbParam, XbSgSz, XodSpace, XnoSpace}
use Rattle.rules.specs.Rule.{Refusal, ◌⇒◌, first_refusal, write}
use Rattle.rules.specs.Find.{free_slot, no_slot, free_entry, no_entry, entered}
use Rattle.rules.specs.Call03.{build_segment}
use Rattle.ids.specs.Seid.{seid_of}
use Rattle.layout.specs.declared.Header.{Header}
use Rattle.layout.specs.Header.{record_of}
use Rattle.calls.specs.declared.Caller.{Caller}
use Rattle.calls.specs.declared.error.Error.{Error}
use Rattle.calls.specs.Refusing.{number_of}
use Rattle.calls.specs.World.{Known, Sound, words_of}
use Rattle.calls.specs.Left.{rule_at}
use Rattle.calls.specs.Seen.{slot_found, entry_found}
use Rattle.calls.specs.Entries.{made_at}
use Rattle.calls.specs.Calls.{owner_access}
use Rattle.calls.proofs.Worlds.{spot}
use Rattle.calls.proofs.Refused.{stopped, later}
use Rattle.calls.proofs.Leaves.{error-named, left-stopped, left-told}
use Rattle.calls.proofs.Given.{begins}
use Rattle.calls.proofs.Holders.{made-is, entered-is}
use Rattle.calls.proofs.Searches.{entry-none, entry-some, slot-none, slot-some, serial-rises, new-seid}
use Rattle.calls.proofs.segments.build_segment.Goals as goal

module _ {t : List ℕ} {n : Header} {p : Caller} (sound : Sound t n p) (a b c : ℕ) (buffer : List ℕ) where
  -- the refusals stage by stage
  abbrev args : List Refusal
  args = (ltb max_bits b || ltb 1 c ⇒ XbParam) ∷ (not (segment_size a) ⇒ XbSgSz) ∷ []

  abbrev slot_tests : List Refusal
  slot_tests = (no_slot (configuration t) (words_of t) segment p.cell ⇒ XnoSpace) ∷ []

  abbrev room_tests : List Refusal
  room_tests = (no_entry (words_of t) segment p.slot ⇒ XodSpace) ∷ slot_tests

  number : first_refusal (args ++ room_tests) ≡ first_refusal (rule_at t (λ h q. build_segment h q p.slot a b c buffer)).refusals
  unfolding build_segment
  number = rw sound.home

  judged : (e : Error) → number_of e ≡ first_refusal args → number_of e ≡ first_refusal (rule_at t (λ h q. build_segment h q p.slot a b c buffer)).refusals
  judged e found = stopped args room_tests e found ∙ number

  module _ (z : 0 ≡ first_refusal args) where
    no-designator : None ≡ entry_found (words_of t) segment p.slot → XodSpace ≡ first_refusal (rule_at t (λ h q. build_segment h q p.slot a b c buffer)).refusals
    no-designator none = later args room_tests refl z (entry-none (words_of t) segment p.slot slot_tests none) ∙ number

    module _ {d : ℕ} (empty : Some d ≡ entry_found (words_of t) segment p.slot) where
      past-entry : {e : ℕ} → e ≡ first_refusal slot_tests → e ≡ first_refusal (rule_at t (λ h q. build_segment h q p.slot a b c buffer)).refusals
      past-entry found = later args room_tests refl z (found ∙ (entry-some (words_of t) segment p.slot d slot_tests empty).1) ∙ number

      full : None ≡ slot_found (configuration t) (words_of t) segment p.cell
          → XnoSpace ≡ first_refusal (rule_at t (λ h q. build_segment h q p.slot a b c buffer)).refusals
      full none = past-entry (slot-none (configuration t) (words_of t) segment p.cell XnoSpace none)

      passed : {i : ℕ} → Some i ≡ slot_found (configuration t) (words_of t) segment p.cell
          → 0 ≡ first_refusal (rule_at t (λ h q. build_segment h q p.slot a b c buffer)).refusals
      passed {i} some = past-entry (slot-some (configuration t) (words_of t) segment p.cell i XnoSpace some).1

  -- the answer and the words written are the rule's: d is the designator and i the slot found, x the slot's serial, s the seid made
  module _ {d i x s : ℕ} (empty : Some d ≡ entry_found (words_of t) segment p.slot) (slot : Some i ≡ slot_found (configuration t) (words_of t) segment p.cell)
      (old : x ≡ words_of t (at segment i serial)) (made : s ≡ seid_of (class segment) i (x + 1)) where
    index : i ≡ free_slot (configuration t) (words_of t) segment (cell_of (configuration t) process p.slot)
    index = (slot-some (configuration t) (words_of t) segment p.cell i XnoSpace slot).0 ∙ rw sound.home

    designator : d ≡ free_entry (words_of t) segment p.slot
    designator = (entry-some (words_of t) segment p.slot d [] empty).0

    result : (s ≡ (rule_at t (λ h q. build_segment h q p.slot a b c buffer)).effects.first)
        × (d ≡ (rule_at t (λ h q. build_segment h q p.slot a b c buffer)).effects.second)
    unfolding build_segment
    result = (rw (← index) (new-seid sound segment slot old made), designator)

    words : {u v place entry access : ℕ} {t₁ t₂ : List ℕ} → u ≡ words_of t (at process p.slot owner) → v ≡ words_of t (at process p.slot group)
        → place ≡ record_of n segment i → t₁ ≡ made_at t place (x + 1) u v b c a 1 → entry ≡ record_of n process p.slot + held_at segment d
        → access ≡ owner_access b → t₂ ≡ set (set t₁ entry s) (entry + 1) access
        → t₂ ≡ write (configuration t) t (rule_at t (λ h q. build_segment h q p.slot a b c buffer)).effects.words
    unfolding build_segment
    words {u} {v} {place} {entry} {access} {t₁} {t₂} mine ours begin record-made at_entry_lem used filled =
        let h : List ℕ = configuration t in
        let known : Known t n = sound.known in
        let seid-is = new-seid sound segment slot old made in
        let made_at_is : t₁ ≡ made_at t (offset h (at segment i 0)) (x + 1) u v b c a 1 = record-made ∙ rw (begin, begins known segment i) in
        let entry-is : entry ≡ offset h (at process p.slot (held_at segment d)) = at_entry_lem ∙ spot known (at process p.slot (held_at segment d)) in
        let entered_at : t₂ ≡ write h t₁ (entered segment p.slot d s access) =
        filled ∙ rw entry-is (sym (entered-is h t₁ segment p.slot d s access [] refl)) in
        rw (← index, ← designator, ← seid-is, ← old, ← used, ← mine, ← ours)
        (entered_at ∙ rw made_at_is (sym (made-is h t segment i (x + 1) u v b c a 1 (entered segment p.slot d s access))))

pub returns-in_err-refuse : goal.returns-in_err-refuse
returns-in_err-refuse c =
    λ buffer. left-stopped _ (λ h q. build_segment h q _ _ _ _ buffer) _ _
    (judged c.requires.0 _ _ _ buffer _ (rw c.is_size.ensures at c.in_err-refuse.ensures))
    c.from_residual.ensures.0 c.from_residual.ensures.1

pub returns-in_err-d : goal.returns-in_err-d
returns-in_err-d c =
    λ buffer. left-stopped _ (λ h q. build_segment h q _ _ _ _ buffer) _ _
    (error-named _ _ _ c.in_err-d.ensures.value
    ∙ no-designator c.requires.0 c.args.size c.args.bits c.args.sharable buffer (rw c.is_size.ensures at c.in_ok-refuse.ensures)
    (sym c.in_err-d.ensures.ok_part ∙ c.free_entry.ensures))
    c.from_residual-in_err-d.ensures.0 c.from_residual-in_err-d.ensures.1

pub returns-in_err-i : goal.returns-in_err-i
returns-in_err-i c =
    λ buffer. left-stopped _ (λ h q. build_segment h q _ _ _ _ buffer) _ _
    (error-named _ _ _ c.in_err-i.ensures.value
    ∙ full c.requires.0 c.args.size c.args.bits c.args.sharable buffer (rw c.is_size.ensures at c.in_ok-refuse.ensures)
    (sym c.in_ok-d.ensures.ok_part ∙ c.free_entry.ensures) (sym c.in_err-i.ensures.ok_part ∙ c.requires.1))
    c.from_residual-in_err-i.ensures.0 c.from_residual-in_err-i.ensures.1

pub overflow_add-serial : goal.overflow_add-serial
overflow_add-serial c =
    record { fits = omega (arith, serial-rises c.requires.0 segment (sym c.in_ok-i.ensures.ok_part ∙ c.requires.1) c.read-serial.ensures) }

pub enter-requires : goal.enter-requires
enter-requires c = c.entry_at.ensures.1

pub returns : goal.returns
returns c =
    let slot = sym c.in_ok-i.ensures.ok_part ∙ c.requires.1 in
    let empty = sym c.in_ok-d.ensures.ok_part ∙ c.free_entry.ensures in
    λ buffer. left-told _ (λ h q. build_segment h q _ _ _ _ buffer)
    (passed c.requires.0 c.args.size c.args.bits c.args.sharable buffer (rw c.is_size.ensures at c.in_ok-refuse.ensures) empty slot)
    (result c.requires.0 c.args.size c.args.bits c.args.sharable buffer empty slot c.read-serial.ensures c.seid-s.ensures).0
    (result c.requires.0 c.args.size c.args.bits c.args.sharable buffer empty slot c.read-serial.ensures c.seid-s.ensures).1
    (words c.requires.0 _ _ _ buffer empty slot c.read-serial.ensures c.seid-s.ensures c.read-owner.ensures c.read-group.ensures
    c.record_at.ensures.0 c.make.ensures c.entry_at.ensures.0 c.owner_access.ensures c.enter.ensures)
