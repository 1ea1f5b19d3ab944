-- `segments::rendezvous` meets its contract: the rule's refusals in order, and the segment taken up.
use mathlib.Core.Path.{◌≡◌, refl, sym, ap, ◌∙◌}
use mathlib.Core.Bool.{Bool, true, ◌&&◌, ◌||◌, not}
use mathlib.Core.List.{List, [], ◌∷◌, ◌++◌}
use Prim.Native.Nat.{ℕ, ◌+◌, ◌<◌}
use native.Mathlib.Omega.{arith}
use lib.Dec.{eqb}
use Rattle.rules.specs.Layout.{process, segment, configuration, slots, Addr, at, held_at, sharable}
use Rattle.rules.specs.Seid.{formed, or_self}
use Rattle.rules.specs.Rights.{lacks, asks_read, asks_write, valid_access}
use Rattle.rules.specs.Errors.{XbParam, XsgNoAcc, XdapViol, XdupSg, XodSpace}
use Rattle.rules.specs.Rule.{Refusal, ◌⇒◌, first_refusal, write}
use Rattle.rules.specs.Find.{free_entry, no_entry}
use Rattle.rules.specs.Call04.{already_held, rendezvous}
use Rattle.layout.specs.declared.Header.{Header}
use Rattle.layout.specs.Header.{record_of}
use Rattle.calls.specs.declared.Caller.{Caller}
use Rattle.calls.specs.declared.objects.Seen.{Seen}
use Rattle.calls.specs.World.{Sound, words_of}
use Rattle.calls.specs.Left.{rule_at}
use Rattle.calls.specs.Seen.{name_of, named_of, seen_as, seen_of, find_tests}
use Rattle.calls.specs.Entries.{taken_up_at}
use Rattle.calls.specs.declared.error.Error.{Error}
use Rattle.calls.specs.Refusing.{number_of, found}
use Rattle.laws.proofs.Refusals.{clear}
use Rattle.calls.proofs.Refused.{stopped, later}
use Rattle.calls.proofs.Looks.{seen-formed, slot_is, own_is, slot-in, find_first, form-past}
use Rattle.calls.proofs.Leaves.{error-named, left-stopped, left-told}
use Rattle.calls.proofs.Searches.{entry-none, entry-some}
use Rattle.calls.proofs.Holders.{one-fits, taken-told}
use Rattle.calls.proofs.SegmentsLaws.{after}
use Rattle.calls.proofs.segments.rendezvous.Goals.{After-look-g, After-refuse, After-find, After-refuse-2, After-refuse-3, In_ok-d}
use Rattle.calls.proofs.segments.rendezvous.Goals as goal

-- the code's tests: process p asks for access b to the segment s, and g is what is seen of it
abbrev forbidden : ℕ → Seen → Bool
forbidden b g = not g.flows || (asks_write b && not g.own)

-- its five steps, by what they look at: the access asked for, the segment's name, the segment, the caller's entries, and the empty one among these
abbrev asked : ℕ → List Refusal
asked b = (eqb b 0 || not (valid_access b) ⇒ XbParam) ∷ []

abbrev sought : ℕ → Seen → List Refusal
sought b g = find_tests g segment (forbidden b g)

abbrev shared : (Addr → ℕ) → ℕ → Seen → List Refusal
shared r b g = (eqb (r (at segment g.slot sharable)) 0 ⇒ XsgNoAcc) ∷ (lacks g.rights (asks_read b) (asks_write b) ⇒ XdapViol) ∷ []

abbrev held : (Addr → ℕ) → ℕ → ℕ → List Refusal
held r p s = (already_held r p s ⇒ XdupSg) ∷ []

abbrev room : (Addr → ℕ) → ℕ → List Refusal
room r p = (no_entry r segment p ⇒ XodSpace) ∷ []

abbrev entered : (Addr → ℕ) → ℕ → ℕ → List Refusal
entered r p s = held r p s ++ room r p

abbrev rest : (Addr → ℕ) → ℕ → ℕ → ℕ → Seen → List Refusal
rest r p s b g = shared r b g ++ entered r p s

abbrev tests : (Addr → ℕ) → ℕ → ℕ → ℕ → Seen → List Refusal
tests r p s b g = asked b ++ (sought b g ++ rest r p s b g)

-- an end of a step, and its passing, past those before it
module _ (r : Addr → ℕ) (p s b : ℕ) (g : Seen) where
  past-asked : 0 ≡ first_refusal (asked b) → {n : ℕ} → n ≡ first_refusal (sought b g ++ rest r p s b g) → n ≡ first_refusal (tests r p s b g)
  past-asked = later (asked b) (sought b g ++ rest r p s b g) refl

  past-sought : 0 ≡ first_refusal (asked b) → 0 ≡ first_refusal (sought b g) → {n : ℕ} → n ≡ first_refusal (rest r p s b g)
      → n ≡ first_refusal (tests r p s b g)
  past-sought y z f = past-asked y (later (sought b g) (rest r p s b g) refl z f)

  past-shared : 0 ≡ first_refusal (asked b) → 0 ≡ first_refusal (sought b g) → 0 ≡ first_refusal (shared r b g)
      → {n : ℕ} → n ≡ first_refusal (entered r p s) → n ≡ first_refusal (tests r p s b g)
  past-shared x y z f = past-sought x y (later (shared r b g) (entered r p s) refl z f)

  at-asked : (e : Error) → number_of e ≡ first_refusal (asked b) → number_of e ≡ first_refusal (tests r p s b g)
  at-asked = stopped (asked b) (sought b g ++ rest r p s b g)

  at-sought : 0 ≡ first_refusal (asked b) → (e : Error) → number_of e ≡ first_refusal (sought b g) → number_of e ≡ first_refusal (tests r p s b g)
  at-sought x e f = past-asked x (stopped (sought b g) (rest r p s b g) e f)

  at-shared : 0 ≡ first_refusal (asked b) → 0 ≡ first_refusal (sought b g) → (e : Error) → number_of e ≡ first_refusal (shared r b g)
      → number_of e ≡ first_refusal (tests r p s b g)
  at-shared x y e f = past-sought x y (stopped (shared r b g) (entered r p s) e f)

  past-held : 0 ≡ first_refusal (asked b) → 0 ≡ first_refusal (sought b g) → 0 ≡ first_refusal (shared r b g) → 0 ≡ first_refusal (held r p s)
      → {n : ℕ} → n ≡ first_refusal (room r p) → n ≡ first_refusal (tests r p s b g)
  past-held x y z w f = past-shared x y z (later (held r p s) (room r p) refl w f)

  at-held : 0 ≡ first_refusal (asked b) → 0 ≡ first_refusal (sought b g) → 0 ≡ first_refusal (shared r b g) → (e : Error) → number_of e ≡ first_refusal (held r p s)
      → number_of e ≡ first_refusal (tests r p s b g)
  at-held x y z e f = past-shared x y z (stopped (held r p s) (room r p) e f)

-- s is the seid that a stands for, g what is seen of it
module _ {t : List ℕ} {n : Header} {c : Caller} (sound : Sound t n c) (a b : ℕ) (buffer : List ℕ) {s : ℕ} {g : Seen}
    (self : s ≡ or_self (words_of t) c.slot a) (seen : g ≡ seen_of (configuration t) (words_of t) c.slot segment (named_of n segment s)) where
  -- the first of the code's refusals is the rule's
  number : first_refusal (tests (words_of t) c.slot s b g) ≡ first_refusal (rule_at t (λ h q. rendezvous h q c.slot a b buffer)).refusals
  unfolding rendezvous
  number =
      let y : Seen = seen_as (configuration t) (words_of t) c.slot segment (name_of s) in
      rw (← self)
      (after (eqb b 0 || not (valid_access b)) XbParam
      (λ v. find_first sound.known c.slot segment s seen (forbidden b g) (forbidden b y)
      (rest (words_of t) c.slot s b g) (rest (words_of t) c.slot s b y)
      (λ f. ap (forbidden b) (seen-formed sound.known c.slot segment s seen f))
      (λ f. ap (λ (x : Seen). first_refusal (rest (words_of t) c.slot s b x)) (seen-formed sound.known c.slot segment s seen f))))

  -- where there is none, s names a segment
  module _ (none : first_refusal (tests (words_of t) c.slot s b g) ≡ 0) where
    form : formed (configuration t) segment s ≡ true
    form = form-past sound.known c.slot segment s seen (clear (tests (words_of t) c.slot s b g) refl none).1.0

    within : g.slot < slots (configuration t) segment
    within = slot-in sound.known c.slot segment s seen form

    -- the words written are the rule's
    words : {d entry object : ℕ} → d ≡ free_entry (words_of t) segment c.slot
        → entry ≡ record_of n process c.slot + held_at segment d → object ≡ record_of n segment g.slot
        → taken_up_at t segment entry s b object g.own ≡ write (configuration t) t (rule_at t (λ h q. rendezvous h q c.slot a b buffer)).effects.words
    unfolding rendezvous
    words free entry object =
        rw (← self, ← free)
        (taken-told sound.known segment c.slot _ s b refl (slot_is sound.known c.slot segment s seen form)
        (own_is sound.known c.slot segment s seen form) entry object)

-- what the code finds in each step: e is what it ends with, where it does
by-asked : (c : After-refuse) → {e : ℕ} → e ≡ found c.refuse.result → e ≡ first_refusal (asked c.args.b)
by-asked c f = f ∙ c.refuse.ensures ∙ rw c.valid_access.ensures

by-find : (c : After-find) → {e : ℕ} → e ≡ found c.find.result → e ≡ first_refusal (sought c.args.b c.look-g.result)
by-find c f = f ∙ c.find.ensures ∙ rw c.asks_write.ensures

by-shared : (c : After-refuse-2) → {e : ℕ} → e ≡ found c.refuse-2.result → e ≡ first_refusal (shared (words_of c.args.t.now) c.args.b c.look-g.result)
by-shared c f = f ∙ c.refuse-2.ensures ∙ rw (c.lacks.ensures, c.asks_read.ensures, c.asks_write-2.ensures, c.read-sharable.ensures)

by-held : (c : After-refuse-3) → {e : ℕ} → e ≡ found c.refuse-3.result → e ≡ first_refusal (held (words_of c.args.t.now) c.args.on.me.slot c.or_self-s.result)
by-held c f = f ∙ c.refuse-3.ensures ∙ rw c.already_held.ensures

-- the code's list is the rule's
by-rule : (c : After-look-g) (buffer : List ℕ)
    → first_refusal (tests (words_of c.args.t.now) c.args.on.me.slot c.or_self-s.result c.args.b c.look-g.result)
    ≡ first_refusal (rule_at c.args.t.now (λ h q. rendezvous h q c.args.on.me.slot c.args.a c.args.b buffer)).refusals
by-rule c buffer = number c.requires.sound c.args.a _ buffer c.or_self-s.ensures c.look-g.ensures

-- past the last step none of the list holds
none-found : (c : In_ok-d) → 0 ≡ first_refusal (tests (words_of c.args.t.now) c.args.on.me.slot c.or_self-s.result c.args.b c.look-g.result)
none-found c =
    let x = goal.at.In_ok-d c in
    past-held (words_of c.args.t.now) c.args.on.me.slot c.or_self-s.result c.args.b c.look-g.result (by-asked x.After-refuse (c.in_ok-refuse.ensures ∙ sym c.refuse.ensures))
    (by-find x.After-find (c.in_ok-find.ensures ∙ sym c.find.ensures))
    (by-shared x.After-refuse-2 (c.in_ok-refuse-2.ensures ∙ sym c.refuse-2.ensures))
    (by-held x.After-refuse-3 (c.in_ok-refuse-3.ensures ∙ sym c.refuse-3.ensures))
    (entry-some (words_of c.args.t.now) segment c.args.on.me.slot _ [] (sym c.in_ok-d.ensures.ok_part ∙ c.free_entry.ensures)).1

pub returns-in_err-refuse : goal.returns-in_err-refuse
returns-in_err-refuse c =
    let x = goal.at.returns-in_err-refuse c in
    λ buffer. left-stopped _ _ _ _ (at-asked (words_of c.args.t.now) c.args.on.me.slot c.or_self-s.result c.args.b c.look-g.result _ (by-asked x.After-refuse (c.in_err-refuse.ensures ∙ sym c.refuse.ensures))
    ∙ by-rule x.After-look-g buffer) c.from_residual.ensures.0 c.from_residual.ensures.1

pub returns-in_err-find : goal.returns-in_err-find
returns-in_err-find c =
    let x = goal.at.returns-in_err-find c in
    λ buffer. left-stopped _ _ _ _ (at-sought (words_of c.args.t.now) c.args.on.me.slot c.or_self-s.result c.args.b c.look-g.result (by-asked x.After-refuse (c.in_ok-refuse.ensures ∙ sym c.refuse.ensures)) _
    (by-find x.After-find (c.in_err-find.ensures ∙ sym c.find.ensures))
    ∙ by-rule x.After-look-g buffer) c.from_residual-in_err-find.ensures.0 c.from_residual-in_err-find.ensures.1

pub returns-in_err-refuse-2 : goal.returns-in_err-refuse-2
returns-in_err-refuse-2 c =
    let x = goal.at.returns-in_err-refuse-2 c in
    λ buffer. left-stopped _ _ _ _ (at-shared (words_of c.args.t.now) c.args.on.me.slot c.or_self-s.result c.args.b c.look-g.result (by-asked x.After-refuse (c.in_ok-refuse.ensures ∙ sym c.refuse.ensures))
    (by-find x.After-find (c.in_ok-find.ensures ∙ sym c.find.ensures)) _
    (by-shared x.After-refuse-2 (c.in_err-refuse-2.ensures ∙ sym c.refuse-2.ensures))
    ∙ by-rule x.After-look-g buffer) c.from_residual-in_err-refuse-2.ensures.0 c.from_residual-in_err-refuse-2.ensures.1

pub returns-in_err-refuse-3 : goal.returns-in_err-refuse-3
returns-in_err-refuse-3 c =
    let x = goal.at.returns-in_err-refuse-3 c in
    λ buffer. left-stopped _ _ _ _ (at-held (words_of c.args.t.now) c.args.on.me.slot c.or_self-s.result c.args.b c.look-g.result (by-asked x.After-refuse (c.in_ok-refuse.ensures ∙ sym c.refuse.ensures))
    (by-find x.After-find (c.in_ok-find.ensures ∙ sym c.find.ensures))
    (by-shared x.After-refuse-2 (c.in_ok-refuse-2.ensures ∙ sym c.refuse-2.ensures)) _
    (by-held x.After-refuse-3 (c.in_err-refuse-3.ensures ∙ sym c.refuse-3.ensures))
    ∙ by-rule x.After-look-g buffer) c.from_residual-in_err-refuse-3.ensures.0 c.from_residual-in_err-refuse-3.ensures.1

pub returns-in_err-d : goal.returns-in_err-d
returns-in_err-d c =
    let x = goal.at.returns-in_err-d c in
    λ buffer. left-stopped _ _ _ _ (error-named _ _ _ c.in_err-d.ensures.value
    ∙ past-held (words_of c.args.t.now) c.args.on.me.slot c.or_self-s.result c.args.b c.look-g.result (by-asked x.After-refuse (c.in_ok-refuse.ensures ∙ sym c.refuse.ensures))
    (by-find x.After-find (c.in_ok-find.ensures ∙ sym c.find.ensures))
    (by-shared x.After-refuse-2 (c.in_ok-refuse-2.ensures ∙ sym c.refuse-2.ensures))
    (by-held x.After-refuse-3 (c.in_ok-refuse-3.ensures ∙ sym c.refuse-3.ensures))
    (entry-none (words_of c.args.t.now) segment c.args.on.me.slot [] (sym c.in_err-d.ensures.ok_part ∙ c.free_entry.ensures))
    ∙ by-rule x.After-look-g buffer) c.from_residual-in_err-d.ensures.0 c.from_residual-in_err-d.ensures.1

pub take_up-requires : goal.take_up-requires
take_up-requires c = (
  c.entry_at-entry.ensures.1,
  c.record_at-object.ensures.1,
  omega (
    arith,
    one-fits c.requires.sound segment c.look-g.result.slot refl (within c.requires.sound c.args.a c.args.b [] c.or_self-s.ensures c.look-g.ensures
        (sym (none-found (goal.at.take_up-requires c).In_ok-d))) c.record_at-object.ensures.0,
  ),
)

pub returns : goal.returns
unfolding rendezvous
returns c =
    let none = none-found (goal.at.returns c).In_ok-d in
    let free = (entry-some (words_of c.args.t.now) segment c.args.on.me.slot _ [] (sym c.in_ok-d.ensures.ok_part ∙ c.free_entry.ensures)).0 in
    λ buffer. left-told _ (λ h q. rendezvous h q _ c.args.a c.args.b buffer) (none ∙ by-rule (goal.at.returns c).After-look-g buffer)
    free refl
    (c.take_up.ensures ∙ words c.requires.sound c.args.a c.args.b buffer c.or_self-s.ensures c.look-g.ensures (sym none)
    free c.entry_at-entry.ensures.0 c.record_at-object.ensures.0)
