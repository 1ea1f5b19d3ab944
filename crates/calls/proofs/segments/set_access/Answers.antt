-- `segments::set_access` meets its contract: the rule's refusals in order, and the access stored.
use mathlib.Core.Path.{◌≡◌, refl, sym, ap, ◌∙◌}
use mathlib.Core.Bool.{◌&&◌, not}
use mathlib.Core.List.{List, [], ◌∷◌}
use Prim.Native.Nat.{ℕ, ◌+◌}
use lib.Dec.{leb, eqb}
use Rattle.layout.specs.declared.Header.{Header}
use Rattle.calls.specs.declared.Caller.{Caller}
use Rattle.calls.specs.declared.entries.Entry.{Entry}
use Rattle.calls.specs.declared.objects.Seen.{Seen}
use Rattle.calls.specs.World.{Sound, words_of, Known}
use Rattle.calls.specs.Entries.{entry_of}
use Rattle.calls.specs.Seen.{named_of, seen_of}
use native.Mathlib.Omega.{arith}
use lib.ListN.{set}
use Rattle.layout.specs.Header.{record_of}
use Rattle.calls.specs.Refusing.{found}
use borrow.Author.Tests.{leb-false, eqb-false}
use Rattle.rules.specs.Layout.{used_at, process, segment, configuration, at, entries, held_at}
use Rattle.rules.specs.Rule.{◌≔◌, write, Refusal, ◌⇒◌, first_refusal}
use Rattle.rules.specs.Seid.{present}
use Rattle.rules.specs.Rights.{lacks, asks_read, asks_write, valid_access}
use Rattle.rules.specs.Errors.{XbParam, XnSgDes, XbSgDes, XbSgSd, XnoAcc, XdapViol}
use Rattle.rules.specs.Call06.{set_access}
use Rattle.calls.specs.Left.{rule_at}
use Rattle.calls.proofs.Leaves.{left-stopped, left-told}
use Rattle.calls.proofs.SegmentsLaws.{after, entry-formed, entry_named}
use Rattle.calls.proofs.Worlds.{spot}
use Rattle.calls.proofs.segments.set_access.Goals.{After-refuse}
use Rattle.calls.proofs.segments.set_access.Goals as goal

-- the code's tests, of entry a and what is seen of what it holds
abbrev tests : ℕ → ℕ → Entry → Seen → List Refusal
tests a b d g =
    (not (valid_access b) ⇒ XbParam) ∷ (leb entries a ⇒ XnSgDes) ∷ (eqb d.held 0 ⇒ XbSgDes) ∷ (not g.present ⇒ XbSgSd)
    ∷ (asks_write b && not g.own ⇒ XnoAcc) ∷ (lacks g.rights (asks_read b) (asks_write b) ⇒ XdapViol) ∷ []

-- d is the entry, g what is seen of what it holds
module _ {t : List ℕ} {n : Header} {c : Caller} (sound : Sound t n c) (a b : ℕ) (buffer : List ℕ) {d : Entry} {g : Seen}
    (entry : d ≡ entry_of (words_of t) segment c.slot a) (seen : g ≡ seen_of (configuration t) (words_of t) c.slot segment (named_of n segment d.held)) where
  -- the first of the code's refusals is the rule's
  number : first_refusal (tests a b d g) ≡ first_refusal (rule_at t (λ h q. set_access h q c.slot a b buffer)).refusals
  unfolding set_access present
  number =
      rw (seen, entry)
      (after (not (valid_access b)) XbParam (λ v. after (leb entries a) XnSgDes
      (λ l. after (eqb (words_of t (at process c.slot (held_at segment a))) 0) XbSgDes
      (λ s. rw (entry_named sound a l s, entry-formed sound c.slot a sound.caller (leb-false entries a l) (eqb-false _ 0 s))))))

-- the word written is the rule's
stored : {t : List ℕ} {n : Header} → Known t n → (p a b : ℕ) {x : ℕ} → x ≡ record_of n process p + held_at segment a
    → set t (x + 1) b ≡ write (configuration t) t ((at process p (used_at segment a) ≔ b) ∷ [])
stored {t} known p a b place = ap (λ (i : ℕ). set t i b) (omega (arith, spot known (at process p (used_at segment a))))

-- what the code finds is the rule's first refusal
counted : (c : After-refuse) (buffer : List ℕ) → found c.refuse.result ≡ first_refusal (rule_at c.args.t.now
    (λ h q. set_access h q c.args.on.me.slot c.args.a c.args.b buffer)).refusals
counted c buffer =
    c.refuse.ensures
    ∙ rw (c.valid_access.ensures, c.asks_write.ensures, c.lacks.ensures, c.asks_read.ensures, c.asks_write-2.ensures)
    (number c.requires.sound _ _ buffer c.entry_of-d.ensures c.look-g.ensures)

pub returns-in_err-refuse : goal.returns-in_err-refuse
returns-in_err-refuse c =
    λ buffer. left-stopped _ _ _ _ (c.in_err-refuse.ensures ∙ sym c.refuse.ensures ∙ counted (goal.at.returns-in_err-refuse c).After-refuse buffer)
    c.from_residual.ensures.0 c.from_residual.ensures.1

pub returns : goal.returns
unfolding set_access
returns c =
    λ buffer. left-told _ (λ h q. set_access h q _ _ _ buffer) (c.in_ok-refuse.ensures ∙ sym c.refuse.ensures ∙ counted (goal.at.returns c).After-refuse buffer)
    refl refl (c.put.ensures ∙ stored c.requires.sound.known _ _ _
    c.entry_at.ensures.0)
