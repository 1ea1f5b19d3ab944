-- `map::remap` meets its contract: the rule's refusals in order, and the map that is left.
use mathlib.Core.Path.{◌≡◌, refl, sym, ap, ◌∙◌}
use mathlib.Core.Bool.{true, false, ◌&&◌, ◌||◌, not}
use mathlib.Core.List.{List, [], ◌∷◌}
use Prim.Native.Nat.{ℕ, ◌+◌, ◌≤◌}
use native.Mathlib.Omega.{arith}
use lib.Dec.{ltb, eqb}
use borrow.Author.Tests.{ltb-true, ltb-false, lt-leb, eqb-false}
use Rattle.rules.specs.Layout.{process, segment, configuration, at, entries, held_at, page_at, size}
use Rattle.rules.specs.Seid.{formed, present}
use Rattle.rules.specs.Errors.{XnSgDes, XbSgDes, XbSgSd, XoutSgAldUmp, XinSgAldMap, XvrtMmCfl}
use Rattle.rules.specs.Rule.{Word, write, ◌⇒◌, first_refusal}
use Rattle.rules.specs.Find.{stale, page_left, pages_set}
use Rattle.rules.specs.Call19.{named, is_mapped, conflict, pages_of, remap}
use Rattle.laws.proofs.Tests.{split, or_left}
use Rattle.layout.specs.declared.Header.{Header}
use Rattle.calls.specs.declared.Caller.{Caller}
use Rattle.calls.specs.declared.entries.Entry.{Entry}
use Rattle.calls.specs.declared.objects.Seen.{Seen}
use Rattle.calls.specs.World.{Sound, words_of}
use Rattle.calls.specs.Left.{rule_at}
use Rattle.calls.specs.Refusing.{found}
use Rattle.calls.specs.Entries.{entry_of}
use Rattle.calls.specs.Seen.{name_of, named_of, seen_as, seen_of}
use Rattle.calls.specs.Map.{held, map_of, left_by, taken_by, run_of, remap_tests}
use Rattle.laws.proofs.Refusals.{clear}
use Rattle.calls.proofs.Leaves.{left-stopped, left-told}
use Rattle.calls.proofs.SegmentsLaws.{after, entry-formed, entry_named}
use Rattle.calls.proofs.MapLaws.{mapped-is, still-mapped, conflict-is, taken_is}
use Rattle.calls.proofs.map.remap.Goals.{After-may_remap}
use Rattle.calls.proofs.map.remap.Goals as goal

-- x and y are the entries a and d, g what is seen of what the first holds, m the map and rest what is left of it
module _ {t : List ℕ} {n : Header} {c : Caller} (sound : Sound t n c) (a b d : ℕ) (buffer : List ℕ) {x y : Entry} {g : Seen} {run : ℕ} {m rest : List ℕ}
    (x-is : x ≡ entry_of (words_of t) segment c.slot a) (y-is : y ≡ entry_of (words_of t) segment c.slot d)
    (seen : g ≡ seen_of (configuration t) (words_of t) c.slot segment (named_of n segment x.held))
    (run_is : run ≡ run_of (words_of t (at segment g.slot size)))
    (map_is : m ≡ map_of (words_of t) c.slot) (left_is : rest ≡ left_by m d) where
  abbrev s : ℕ
  s = words_of t (at process c.slot (held_at segment a))

  -- a filled entry names what is seen
  module _ (comes : named a ≡ true) (some : eqb s 0 ≡ false) where
    seen-named : g ≡ seen_as (configuration t) (words_of t) c.slot segment (name_of s)
    seen-named = seen ∙ rw (x-is, entry_named sound a (lt-leb entries a (ltb-true a entries comes)) some)

    formed-so : formed (configuration t) segment s ≡ true
    formed-so = entry-formed sound c.slot a sound.caller (ltb-true a entries comes) (eqb-false s 0 some)

    run-named : run ≡ pages_of (words_of t) s
    unfolding pages_of
    run-named = run_is ∙ rw seen-named

  some_in : (named a && eqb s 0) || (named d && eqb (words_of t (at process c.slot (held_at segment d))) 0) ≡ false → named a ≡ true → eqb s 0 ≡ false
  some_in z e = let w = or_left (named a && eqb s 0) _ z in rw e at w

  -- past the first two refusals
  later : (named a && eqb s 0) || (named d && eqb (words_of t (at process c.slot (held_at segment d))) 0) ≡ false
      → first_refusal ((named a && not g.present ⇒ XbSgSd) ∷ (named d && not (is_mapped (held m) d) ⇒ XoutSgAldUmp)
      ∷ (named a && is_mapped (held rest) a ⇒ XinSgAldMap) ∷ (named a && conflict (held rest) b run ⇒ XvrtMmCfl) ∷ [])
      ≡ first_refusal ((named a && stale (configuration t) (words_of t) segment s ⇒ XbSgSd)
      ∷ (named d && not (is_mapped (λ g. words_of t (at process c.slot (page_at g))) d) ⇒ XoutSgAldUmp)
      ∷ (named a && is_mapped (page_left (words_of t) c.slot d) a ⇒ XinSgAldMap)
      ∷ (named a && conflict (page_left (words_of t) c.slot d) b (pages_of (words_of t) s) ⇒ XvrtMmCfl) ∷ [])
  unfolding present
  later z =
      rw (
        mapped-is (words_of t) c.slot d map_is left_is,
        still-mapped (words_of t) c.slot d map_is left_is a,
        conflict-is (words_of t) c.slot d map_is left_is b run,
      )
      (split _ (named a) (λ e. rw (e, formed-so e (some_in z e), seen-named e (some_in z e), run-named e (some_in z e))) (λ e. rw e))

  -- the first of the code's refusals is the rule's
  number : first_refusal (remap_tests a b d x.held y.held g.present run m rest)
      ≡ first_refusal (rule_at t (λ h q. remap h q c.slot a b d buffer)).refusals
  unfolding remap
  number =
      rw (x-is, y-is)
      (after (ltb entries a || ltb entries d) XnSgDes
      (λ _. after ((named a && eqb s 0) || (named d && eqb (words_of t (at process c.slot (held_at segment d))) 0)) XbSgDes (λ z. later z)))

  -- where there is none, the pages written are the rule's
  module _ (z : first_refusal (remap_tests a b d x.held y.held g.present run m rest) ≡ 0) where
    low : a ≤ entries
    low = ltb-false entries a (or_left (ltb entries a) (ltb entries d) (clear (remap_tests a b d x.held y.held g.present run m rest) refl z).0)

    done : {to t' : List ℕ} {w : ℕ} → w ≡ a → to ≡ taken_by rest (ltb w entries) (a + 1) b run → t' ≡ write (configuration t) t (pages_set c.slot (held to))
        → t' ≡ write (configuration t) t (rule_at t (λ h q. remap h q c.slot a b d buffer)).effects.words
    unfolding remap
    done we te e =
        let filled = (clear (remap_tests a b d x.held y.held g.present run m rest) refl z).1.0 in
        e ∙ ap (λ (ws : List Word). write (configuration t) t ws)
        (taken_is (words_of t) c.slot d map_is left_is a b run (λ comes. run-named comes (some_in (rw (x-is, y-is) at filled) comes)) (rw we at te))

-- what the laws above say of the places where the code has judged it
module _ (c : After-may_remap) (buffer : List ℕ) where
  counted : found c.may_remap.result ≡ first_refusal (rule_at c.args.t.now (λ h q. remap h q c.args.on.me.slot
      c.args.incoming c.args.b c.args.outgoing buffer)).refusals
  counted = c.may_remap.ensures ∙ number c.requires.sound _ _ _ buffer c.entry_of-s.ensures
      c.entry_of-u.ensures c.look-g.ensures c.run_of-run.ensures
      c.map_of-map.ensures c.left-rest.ensures

  clear-low : found c.may_remap.result ≡ 0 → c.args.incoming ≤ entries
  clear-low z = low c.requires.sound _ _ _ buffer c.entry_of-s.ensures
      c.entry_of-u.ensures c.look-g.ensures c.run_of-run.ensures
      c.map_of-map.ensures c.left-rest.ensures (sym c.may_remap.ensures ∙ z)

  written : found c.may_remap.result ≡ 0 → {to t' : List ℕ}
      → to ≡ taken_by c.left-rest.result (ltb c.args.incoming entries) (c.args.incoming + 1) c.args.b
      c.run_of-run.result
      → t' ≡ write (configuration c.args.t.now) c.args.t.now (pages_set c.args.on.me.slot (held to))
      → t' ≡ write (configuration c.args.t.now) c.args.t.now (rule_at c.args.t.now
      (λ h q. remap h q c.args.on.me.slot c.args.incoming c.args.b c.args.outgoing buffer)
      ).effects.words
  written z = done c.requires.sound _ _ _ buffer c.entry_of-s.ensures
      c.entry_of-u.ensures c.look-g.ensures c.run_of-run.ensures
      c.map_of-map.ensures c.left-rest.ensures (sym c.may_remap.ensures ∙ z) refl

pub returns-in_err-may_remap : goal.returns-in_err-may_remap
returns-in_err-may_remap c =
    λ buffer. left-stopped _ _ _ _ (c.in_err-may_remap.ensures ∙ sym c.may_remap.ensures
    ∙ counted (goal.at.returns-in_err-may_remap c).After-may_remap buffer)
    c.from_residual.ensures.0 c.from_residual.ensures.1

pub overflow_add-incoming : goal.overflow_add-incoming
overflow_add-incoming c =
    record { fits = omega (arith, clear-low (goal.at.overflow_add-incoming c).After-may_remap [] (c.may_remap.ensures ∙ sym c.in_ok-may_remap.ensures)) }

pub returns : goal.returns
unfolding remap
returns c =
    let x = (goal.at.returns c).After-may_remap in
    let none : found c.may_remap.result ≡ 0 = c.may_remap.ensures ∙ sym c.in_ok-may_remap.ensures in
    λ buffer. left-told _ (λ h q. remap h q _ _ _ _ buffer) (sym none ∙ counted x buffer) refl refl
    (written x buffer none c.taken.ensures c.set_pages.ensures)
