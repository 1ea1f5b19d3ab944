-- Call 19, remap, keeps tables well formed.
use mathlib.Core.Path.{◌≡◌, refl}
use mathlib.Core.Bool.{true, false, ◌&&◌}
use mathlib.Core.List.{List}
use Prim.Native.Nat.{ℕ, ◌+◌, ◌-◌}
use native.Mathlib.Omega.{arith}
use lib.Dec.{ltb, leb}
use borrow.Author.Tests.{ltb-true, eqb-false}
use Rattle.rules.specs.Layout.{process, segment, Addr, at, entries, held_at, page_at}
use Rattle.rules.specs.Call19.{named, vacant, pages_of, page_taken, remapped, remap}
use Rattle.laws.proofs.Tests.{or_left, split}
use Rattle.laws.proofs.Refusals.{clear}
use Rattle.kept.proofs.Fine.{Paged}
use Rattle.kept.proofs.Keeps.{KeptBy, Caller}
use Rattle.kept.proofs.Pages.{keeps-pages, left-page}

-- each page of the map that is left holds nothing, or a filled entry
page-after : (r : Addr → ℕ) (p a b c g : ℕ) → (named a ≡ true → vacant r p a ≡ false) → Paged r p (r (at process p (page_at g))) → Paged r p (remapped r p a b c g)
unfolding remapped page_taken
page-after r p a b c g filled x = split _ (named a)
    (λ t. rw t (split _ (leb b g && ltb g (b + pages_of r (r (at process p (held_at segment a)))))
    (λ e. rw e (λ n. let l = ltb-true a entries t in let z : a + 1 - 1 ≡ a = omega arith in (omega arith, rw z (eqb-false _ 0 (filled t)))))
    (λ e. rw e (left-page r p c g x))))
    (λ t. rw t (left-page r p c g x))

pub keeps : (h : List ℕ) (r : Addr → ℕ) (p : ℕ) → Caller h r p → (a b c : ℕ) (buffer : List ℕ) → KeptBy h r (remap h r p a b c buffer)
unfolding remap
keeps h r p me a b c buffer e =
    let ok = clear (remap h r p a b c buffer).refusals refl e in
    let filled : named a ≡ true → vacant r p a ≡ false = λ t. rw t at (or_left (named a && vacant r p a) (named c && vacant r p c) ok.1.0) in
    keeps-pages h r me.fine p me.in-range me.alive (remapped r p a b c)
    (λ g gl. page-after r p a b c g filled (((me.fine.own process p me.in-range).alive me.alive).paged g gl))
