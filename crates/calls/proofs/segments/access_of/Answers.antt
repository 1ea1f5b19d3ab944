-- `segments::access_of` meets its contract: the rule's refusals in order, and the stored access limited by today's bits.
use mathlib.Core.Path.{◌≡◌, refl, sym, ◌∙◌}
use mathlib.Core.Bool.{not}
use mathlib.Core.List.{List, [], ◌∷◌}
use Prim.Native.Nat.{ℕ}
use lib.Dec.{leb, eqb}
use Rattle.layout.specs.declared.Header.{Header}
use Rattle.calls.specs.declared.Caller.{Caller}
use Rattle.calls.specs.declared.entries.Entry.{Entry}
use Rattle.calls.specs.declared.objects.Seen.{Seen}
use Rattle.calls.specs.World.{Sound, words_of}
use Rattle.calls.specs.Entries.{entry_of}
use Rattle.calls.specs.Seen.{named_of, seen_of}
use borrow.Author.Tests.{leb-false, eqb-false}
use Rattle.rules.specs.Layout.{process, segment, configuration, at, entries, held_at}
use Rattle.rules.specs.Seid.{present}
use Rattle.rules.specs.Errors.{XnSgDes, XbSgDes, XbSgSd}
use Rattle.rules.specs.Rule.{Refusal, ◌⇒◌, first_refusal}
use Rattle.rules.specs.Call18.{limited, access_of}
use Rattle.calls.specs.Refusing.{found}
use Rattle.calls.specs.Left.{rule_at}
use Rattle.laws.proofs.Refusals.{clear}
use Rattle.calls.proofs.Leaves.{left-stopped, left-told}
use Rattle.calls.proofs.SegmentsLaws.{after, entry-formed, entry_named}
use Rattle.calls.proofs.segments.access_of.Goals.{After-access, After-refuse}
use Rattle.calls.proofs.segments.access_of.Goals as goal

-- the code's tests, of entry a and what is seen of what it holds
abbrev tests : ℕ → Entry → Seen → List Refusal
tests a d g = (leb entries a ⇒ XnSgDes) ∷ (eqb d.held 0 ⇒ XbSgDes) ∷ (not g.present ⇒ XbSgSd) ∷ []

-- d is the entry, g what is seen of what it holds
module _ {t : List ℕ} {n : Header} {c : Caller} (sound : Sound t n c) (a : ℕ) (buffer : List ℕ) {d : Entry} {g : Seen}
    (entry : d ≡ entry_of (words_of t) segment c.slot a) (seen : g ≡ seen_of (configuration t) (words_of t) c.slot segment (named_of n segment d.held)) where
  -- the first of the code's refusals is the rule's
  number : first_refusal (tests a d g) ≡ first_refusal (rule_at t (λ h q. access_of h q c.slot a buffer)).refusals
  unfolding access_of present
  number = rw (seen, entry) (after (leb entries a) XnSgDes
      (λ l. after (eqb (words_of t (at process c.slot (held_at segment a))) 0) XbSgDes
      (λ s. rw (entry_named sound a l s, entry-formed sound c.slot a sound.caller (leb-false entries a l) (eqb-false _ 0 s)))))

  -- where there is none, the access is the rule's
  result : first_refusal (tests a d g) ≡ 0 → limited d.used g.rights ≡ (rule_at t (λ h q. access_of h q c.slot a buffer)).effects.first
  unfolding access_of
  result z =
      let none = clear (tests a d g) refl z in
      rw (seen, entry) (rw (entry_named sound a none.0 (rw entry at none.1.0)))

-- what the code finds is the rule's first refusal
counted : (c : After-refuse) (buffer : List ℕ) → found c.refuse.result ≡ first_refusal (rule_at c.args.t.now
    (λ h q. access_of h q c.args.on.me.slot c.args.a buffer)).refusals
counted c buffer = c.refuse.ensures ∙ number c.requires.sound c.args.a buffer c.entry_of-d.ensures c.look-g.ensures

pub returns-in_err-refuse : goal.returns-in_err-refuse
returns-in_err-refuse c =
    λ buffer. left-stopped _ _ _ _ (c.in_err-refuse.ensures ∙ sym c.refuse.ensures ∙ counted (goal.at.returns-in_err-refuse c).After-refuse buffer)
    c.from_residual.ensures.0 c.from_residual.ensures.1

limits : (c : After-access) → c.access.result ≡ limited c.entry_of-d.result.used c.look-g.result.rights
unfolding limited
limits c =
    rw (
      c.access.ensures,
      c.may_write.ensures,
      c.asks_write.ensures,
      c.may_read.ensures,
      c.asks_read.ensures,
    )

pub returns : goal.returns
unfolding access_of
returns c =
    λ buffer. left-told _ (λ h q. access_of h q _ _ buffer) (c.in_ok-refuse.ensures ∙ sym c.refuse.ensures ∙ counted (goal.at.returns c).After-refuse buffer)
    (limits (goal.at.returns c).After-access ∙ result c.requires.sound c.args.a buffer c.entry_of-d.ensures c.look-g.ensures (sym c.in_ok-refuse.ensures))
    refl refl
