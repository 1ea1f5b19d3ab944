-- `processes::spawn` meets its contract: the rule's refusals in order, and the new process.
use mathlib.Core.Path.{◌≡◌, refl, sym, ◌∙◌}
use Rattle.std.specs.Prelude.{Some, None}
use mathlib.Core.Bool.{◌&&◌, ◌||◌, not}
use mathlib.Core.List.{List, [], ◌∷◌, ◌++◌}
use Prim.Native.Nat.{ℕ, ◌+◌}
use native.Mathlib.Omega.{arith}
use lib.Dec.{ltb, eqb}
use lib.ListN.{set}
use Rattle.rules.specs.Layout.{max_owner, max_bits, process, configuration, cell_of, at, serial, owner, group, parent, bits}
use Rattle.rules.specs.Seid.{class, or_self, seid_at}
use Rattle.rules.specs.Errors.{XbParam, XnoPriv, XnoProc}
use Rattle.rules.specs.Rule.{Refusal, ◌⇒◌, ◌≔◌, first_refusal, write}
use Rattle.rules.specs.Find.{free_slot, no_slot}
use Rattle.rules.specs.Call01.{spawn}
use Rattle.ids.specs.Seid.{seid_of}
use Rattle.layout.specs.declared.Header.{Header}
use Rattle.layout.specs.Header.{record_of, place_of}
use Rattle.calls.specs.declared.Caller.{Caller}
use Rattle.calls.specs.declared.error.Error.{Error}
use Rattle.calls.specs.World.{Sound, words_of}
use Rattle.calls.specs.Refusing.{number_of}
use Rattle.calls.specs.Left.{rule_at}
use Rattle.calls.specs.Seen.{slot_found}
use Rattle.calls.specs.Entries.{four_at}
use Rattle.calls.proofs.Worlds.{spot}
use Rattle.calls.proofs.Refused.{stopped, later}
use Rattle.calls.proofs.Leaves.{error-named, left-stopped, left-told}
use Rattle.calls.proofs.Given.{begins}
use Rattle.calls.proofs.Searches.{slot-none, slot-some, serial-rises, new-seid}
use Rattle.calls.proofs.SegmentsLaws.{four_is}
use Rattle.calls.proofs.processes.spawn.Goals as goal

module _ {t : List ℕ} {n : Header} {p : Caller} (sound : Sound t n p) (a b c : ℕ) (buffer : List ℕ) where
  abbrev slot_tests : List Refusal
  slot_tests = (no_slot (configuration t) (words_of t) process p.cell ⇒ XnoProc) ∷ []

  -- the refusals stage by stage: u and v are the caller's owner and group
  module _ {u v : ℕ} (mine : u ≡ words_of t (at process p.slot owner)) (ours : v ≡ words_of t (at process p.slot group)) where
    abbrev args : List Refusal
    args = (ltb max_owner a || (ltb max_owner b || ltb max_bits c) ⇒ XbParam) ∷ (not (eqb u 0) && (not (eqb a u) || not (eqb b v)) ⇒ XnoPriv) ∷ []

    number : first_refusal (args ++ slot_tests) ≡ first_refusal (rule_at t (λ h r. spawn h r p.slot a b c buffer)).refusals
    unfolding spawn
    number = rw (mine, ours, sound.home)

    judged : (e : Error) → number_of e ≡ first_refusal args → number_of e ≡ first_refusal (rule_at t (λ h r. spawn h r p.slot a b c buffer)).refusals
    judged e found = stopped args slot_tests e found ∙ number

    full : 0 ≡ first_refusal args → None ≡ slot_found (configuration t) (words_of t) process p.cell
        → XnoProc ≡ first_refusal (rule_at t (λ h r. spawn h r p.slot a b c buffer)).refusals
    full z none = later args slot_tests refl z (slot-none (configuration t) (words_of t) process p.cell XnoProc none) ∙ number

    passed : 0 ≡ first_refusal args → {i : ℕ} → Some i ≡ slot_found (configuration t) (words_of t) process p.cell
        → 0 ≡ first_refusal (rule_at t (λ h r. spawn h r p.slot a b c buffer)).refusals
    passed z {i} some = later args slot_tests refl z (slot-some (configuration t) (words_of t) process p.cell i XnoProc some).1 ∙ number

  -- the seid answered and the words written are the rule's: i is the slot found, x its serial
  module _ {i x : ℕ} (slot : Some i ≡ slot_found (configuration t) (words_of t) process p.cell) (old : x ≡ words_of t (at process i serial)) where
    index : i ≡ free_slot (configuration t) (words_of t) process (cell_of (configuration t) process p.slot)
    index = (slot-some (configuration t) (words_of t) process p.cell i XnoProc slot).0 ∙ rw sound.home

    result : {s : ℕ} → s ≡ seid_of (class process) i (x + 1) → s ≡ (rule_at t (λ h r. spawn h r p.slot a b c buffer)).effects.first
    unfolding spawn
    result made = rw (← index) (new-seid sound process slot old made)

    words : {self place : ℕ} {t₁ t₂ t₃ : List ℕ} → self ≡ or_self (words_of t) p.slot 0 → place ≡ record_of n process i
        → t₁ ≡ four_at t place 1 (x + 1) a b
        → t₂ ≡ set t₁ (place_of n (at process i parent)) self
        → t₃ ≡ set t₂ (place_of n (at process i (bits process))) c
        → t₃ ≡ write (configuration t) t (rule_at t (λ h r. spawn h r p.slot a b c buffer)).effects.words
    unfolding spawn or_self
    words {self} {place} {t₁} {t₂} {t₃} me begin four fifth sixth =
        let h : List ℕ = configuration t in
        rw (← index, ← old)
        (sixth
        ∙ rw (
          fifth,
          four,
          spot sound.known (at process i parent),
          spot sound.known (at process i (bits process)),
          begin,
          begins sound.known process i,
          me,
        )
        (sym (four_is h t process i 1 (x + 1) a b
        ((at process i parent ≔ seid_at (words_of t) process p.slot) ∷ (at process i (bits process) ≔ c) ∷ []))))

pub returns-in_err-refuse : goal.returns-in_err-refuse
returns-in_err-refuse c =
    λ buffer. left-stopped _ (λ h r. spawn h r _ _ _ c.args.bits buffer) _ _
    (judged c.requires.0 _ _ _ buffer c.read-owner.ensures c.read-group.ensures _ c.in_err-refuse.ensures)
    c.from_residual.ensures.0 c.from_residual.ensures.1

pub returns-in_err-i : goal.returns-in_err-i
returns-in_err-i c =
    λ buffer. left-stopped _ (λ h r. spawn h r _ _ _ _ buffer) _ _
    (error-named _ _ _ c.in_err-i.ensures.value
    ∙ full c.requires.0 c.args.a c.args.b c.args.bits buffer c.read-owner.ensures c.read-group.ensures c.in_ok-refuse.ensures
    (sym c.in_err-i.ensures.ok_part ∙ c.requires.1))
    c.from_residual-in_err-i.ensures.0 c.from_residual-in_err-i.ensures.1

pub overflow_add-serial : goal.overflow_add-serial
overflow_add-serial c =
    record { fits = omega (arith, serial-rises c.requires.0 process (sym c.in_ok-i.ensures.ok_part ∙ c.requires.1) c.read-serial.ensures) }

pub returns : goal.returns
unfolding spawn
returns c =
    let slot = sym c.in_ok-i.ensures.ok_part ∙ c.requires.1 in
    λ buffer. left-told _ (λ h r. spawn h r _ _ _ _ buffer)
    (passed c.requires.0 c.args.a c.args.b c.args.bits buffer c.read-owner.ensures c.read-group.ensures c.in_ok-refuse.ensures slot)
    (result c.requires.0 c.args.a c.args.b c.args.bits buffer slot c.read-serial.ensures c.seid.ensures) refl
    (words c.requires.0 _ _ _ buffer slot c.read-serial.ensures c.or_self-parent.ensures c.record_at-at.ensures.0 c.put_four.ensures
    c.write.ensures c.write-2.ensures)
