-- `processes::release_process` meets its contract: the rule's refusals in order, and the process released.
use mathlib.Core.Path.{◌≡◌, refl, sym, ◌∙◌}
use mathlib.Core.Bool.{true}
use mathlib.Core.List.{List, []}
use Prim.Native.Nat.{ℕ, ◌<◌}
use borrow.Author.Tests.{eqb-true}
use Rattle.rules.specs.Layout.{Kind, process, file, configuration, slots, cell_of}
use Rattle.rules.specs.Seid.{formed, or_self}
use Rattle.rules.specs.Rule.{first_refusal, write}
use Rattle.rules.specs.Call02.{released, release_process}
use Rattle.laws.proofs.Tests.{passed}
use Rattle.layout.specs.declared.Header.{Header}
use Rattle.calls.specs.declared.Caller.{Caller}
use Rattle.calls.specs.declared.objects.Seen.{Seen}
use Rattle.calls.specs.World.{Sound, words_of, holdable}
use Rattle.calls.specs.Left.{rule_at}
use Rattle.calls.specs.Refusing.{found}
use Rattle.calls.specs.Seen.{named_of, seen_of, own_tests}
use Rattle.calls.specs.Holding.{Holding}
use Rattle.laws.proofs.Refusals.{clear}
use Rattle.calls.proofs.Looks.{slot_is, own_is, slot-in, own_first, form-past}
use Rattle.calls.proofs.Leaves.{left-stopped, left-told}
use Rattle.calls.proofs.ProcessesLaws.{then-segments, released-is}
use Rattle.calls.proofs.processes.release_process.Goals.{After-own, In_ok-own}
use Rattle.calls.proofs.processes.release_process.Goals as goal

-- s is the seid that a stands for, g what is seen of it
module _ {t : List ℕ} {n : Header} {c : Caller} (sound : Sound t n c) (a : ℕ) {s : ℕ} {g : Seen} (self : s ≡ or_self (words_of t) c.slot a)
    (seen : g ≡ seen_of (configuration t) (words_of t) c.slot process (named_of n process s)) where
  -- the first of the code's refusals is the rule's
  number : (buffer : List ℕ) → first_refusal (own_tests g process) ≡ first_refusal (rule_at t (λ h r. release_process h r c.slot a buffer)).refusals
  unfolding release_process
  number buffer =
      rw (← self) (own_first sound.known c.slot process s seen [] [] (λ _. refl))

  -- where there is none, s names a process of the caller's cell
  module _ (none : first_refusal (own_tests g process) ≡ 0) where
    form : formed (configuration t) process s ≡ true
    form = form-past sound.known c.slot process s seen (clear (own_tests g process) refl none).0

    here : g.slot < slots (configuration t) process
    here = slot-in sound.known c.slot process s seen form

    at_home : c.cell ≡ cell_of (configuration t) process g.slot
    at_home =
        let own = sym (own_is sound.known c.slot process s seen form) ∙ passed g.own (clear (own_tests g process) refl none).1.0 in
        sound.home ∙ rw (slot_is sound.known c.slot process s seen form) (sym (eqb-true _ _ own))

    -- and its entries hold what they should
    holding : (k : Kind) → holdable k ≡ true → Holding t n c k g.slot
    holding k held = record {
      at_all = record { known = sound.known; held = held; homed = at_home };
      words = sound.words;
      here = here;
    }

    words : (buffer : List ℕ) {u : List ℕ} → u ≡ write (configuration t) t (released (configuration t) (words_of t) g.slot)
        → u ≡ write (configuration t) t (rule_at t (λ h r. release_process h r c.slot a buffer)).effects.words
    unfolding release_process
    words buffer done = done ∙ rw (slot_is sound.known c.slot process s seen form, self)

-- what the code finds is the rule's first refusal
counted : (c : After-own) (buffer : List ℕ)
    → found c.own.result ≡ first_refusal (rule_at c.args.t.now (λ h r. release_process h r c.args.on.me.slot c.args.a buffer)).refusals
counted c buffer = c.own.ensures ∙ number c.requires.sound c.args.a c.or_self-s.ensures c.look-q.ensures buffer

held : (c : In_ok-own) (k : Kind) → holdable k ≡ true → Holding c.args.t.now c.args.on.n c.args.on.me k c.look-q.result.slot
held c = holding c.requires.sound c.args.a c.or_self-s.ensures c.look-q.ensures (sym c.in_ok-own.ensures)

pub returns-in_err-own : goal.returns-in_err-own
returns-in_err-own c =
    λ buffer. left-stopped _ _ _ _ (c.in_err-own.ensures ∙ sym c.own.ensures ∙ counted (goal.at.returns-in_err-own c).After-own buffer)
    c.from_residual.ensures.0 c.from_residual.ensures.1

pub drop_entries-requires : goal.drop_entries-requires
drop_entries-requires c = held (goal.at.drop_entries-requires c).In_ok-own file refl

pub drop_entries-requires-2 : goal.drop_entries-requires-2
drop_entries-requires-2 c =
    then-segments _ (held (goal.at.drop_entries-requires-2 c).In_ok-own file refl) c.drop_entries.ensures

pub returns : goal.returns
unfolding release_process
returns c =
    let x = goal.at.returns c in
    λ buffer. left-told _ (λ h r. release_process h r _ c.args.a buffer) (c.in_ok-own.ensures ∙ sym c.own.ensures ∙ counted x.After-own buffer) refl refl
    (words c.requires.sound c.args.a c.or_self-s.ensures c.look-q.ensures (sym c.in_ok-own.ensures) buffer
    (released-is _ (held x.In_ok-own file refl) c.drop_entries.ensures c.drop_entries-2.ensures c.record_at.ensures.0 c.free_record.ensures))
