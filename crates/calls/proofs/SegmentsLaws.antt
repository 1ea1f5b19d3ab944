-- The caller's entries: what a filled one holds has its kind's form, and names the object that is seen. Four words of a new record.
use mathlib.Core.Path.{◌≡◌, refl}
use Rattle.std.specs.Prelude.{Some}
use mathlib.Core.Bool.{Bool, true, false, cond}
use mathlib.Core.List.{List, ◌∷◌}
use Prim.Native.Nat.{ℕ, ◌<◌}
use lib.Dec.{eqb, leb}
use borrow.Author.Tests.{leb-false, eqb-false}
use Rattle.rules.specs.Layout.{Kind, process, segment, configuration, slots, at, offset, entries, held_at, live, serial, owner, group}
use Rattle.rules.specs.Seid.{class, is_seid}
use Rattle.rules.specs.Rule.{Word, ◌≔◌, write}
use Rattle.laws.proofs.Shape.{designator}
use Rattle.layout.specs.declared.Header.{Header}
use Rattle.calls.specs.declared.Caller.{Caller}
use Rattle.calls.specs.World.{Known, Sound, words_of}
use Rattle.calls.specs.Seen.{name_of, named_of}
use Rattle.calls.specs.Entries.{four_at}
use Rattle.calls.proofs.Worlds.{slots-is}
use Rattle.calls.proofs.Given.{along}

-- what follows a test counts only where the test fails
pub after : (b : Bool) (n : ℕ) {x y : ℕ} → (b ≡ false → x ≡ y) → cond b n x ≡ cond b n y
after true n f = refl
after false n f = f refl

pub name-is : {t : List ℕ} {n : Header} → Known t n → (k : Kind) (s : ℕ) → is_seid (class k) (slots (configuration t) k) s ≡ true → named_of n k s ≡ Some (name_of s)
unfolding named_of
name-is known k s form = rw (slots-is known k, form)

-- what a designator holds has a segment's form
pub entry-formed : {t : List ℕ} {n : Header} {c : Caller} → Sound t n c → (q d : ℕ) → q < slots (configuration t) process → d < entries
    → (words_of t (at process q (held_at segment d)) ≡ 0 → ⊥) → is_seid (class segment) (slots (configuration t) segment) (words_of t (at process q (held_at segment d))) ≡ true
entry-formed {t} sound q d ql dl some = ((designator (configuration t) (words_of t) sound.records q d ql dl).held (some, refl)).form

-- designator a of the caller, past the refusals of one past the last and of an empty one
pub entry_named : {t : List ℕ} {n : Header} {c : Caller} → Sound t n c → (a : ℕ) → leb entries a ≡ false
    → eqb (words_of t (at process c.slot (held_at segment a))) 0 ≡ false
    → named_of n segment (words_of t (at process c.slot (held_at segment a))) ≡ Some (name_of (words_of t (at process c.slot (held_at segment a))))
entry_named {t} {n} {c} sound a l some =
    name-is sound.known segment _ (entry-formed sound c.slot a sound.caller (leb-false entries a l) (eqb-false _ 0 some))

-- four words of a record
pub four_is : (h t : List ℕ) (k : Kind) (i a b c d : ℕ) (ws : List Word)
    → write h t ((at k i live ≔ a) ∷ (at k i serial ≔ b) ∷ (at k i owner ≔ c) ∷ (at k i group ≔ d) ∷ ws) ≡ write h (four_at t (offset h (at k i 0)) a b c d) ws
unfolding four_at
four_is h t k i a b c d ws = rw (along h k i 1, along h k i 2, along h k i 3)
