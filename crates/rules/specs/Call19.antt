-- 02, CR 1. 19. Remap: "Call 19 takes as a, b and c an incoming designator, a first page and an outgoing designator, 16 meaning none. Both none succeeds and changes
-- nothing. The outgoing segment leaves first. Refusals in order: 8 for either number over 16; 9 for either entry empty; 11 for a stale incoming one; then 30 XoutSgAldUmp if
-- the outgoing one isn't mapped, 31 XinSgAldMap if the incoming one is still mapped once the outgoing one has left, 32 XvrtMmCfl if its run of pages passes page 7 or meets
-- a used page. With no incoming one the page is ignored. An outgoing entry may be stale."
use Rattle.std.specs.Prelude.{Bool, ◌&&◌, ◌||◌, not, cond, List, [], ◌∷◌, ℕ, ◌+◌, ◌-◌, ◌/◌, ltb, leb, eqb}
use Rattle.rules.specs.Words.{some_below}
use Rattle.rules.specs.Layout.{process, segment, Addr, at, entries, held_at, pages, page_bytes, page_at, size}
use Rattle.rules.specs.Seid.{index_of}
use Rattle.rules.specs.Errors.{XnSgDes, XbSgDes, XbSgSd, XoutSgAldUmp, XinSgAldMap, XvrtMmCfl}
use Rattle.rules.specs.Rule.{◌⇒◌, effect, Rule, rule}
use Rattle.rules.specs.Find.{stale, page_left, pages_set}

-- a designator is named; "16 meaning none"
abbrev pub named : ℕ → Bool
named d = ltb d entries

-- its entry is empty
abbrev pub vacant : (Addr → ℕ) → ℕ → ℕ → Bool
vacant r p d = eqb (r (at process p (held_at segment d))) 0

-- some page holds designator d, where page g holds f g
unfoldable pub is_mapped : (ℕ → ℕ) → ℕ → Bool
is_mapped f d = some_below pages (λ g. eqb (f g) (d + 1))

-- "its run of pages": the segment's size over 8,192, rounded up
unfoldable pub pages_of : (Addr → ℕ) → ℕ → ℕ
pages_of r s = (r (at segment (index_of s) size) + (page_bytes - 1)) / page_bytes

-- the n pages from b on pass page 7, or one of them is used
unfoldable pub conflict : (ℕ → ℕ) → ℕ → ℕ → Bool
conflict f b n = ltb pages (b + n) || some_below n (λ i. not (eqb (f (b + i)) 0))

-- designator a comes into the n pages from b on
unfoldable pub page_taken : (ℕ → ℕ) → ℕ → ℕ → ℕ → ℕ → ℕ
page_taken f a b n g = cond (leb b g && ltb g (b + n)) (a + 1) (f g)

-- the map that is left: with no incoming one, what the outgoing one leaves
unfoldable pub remapped : (Addr → ℕ) → ℕ → ℕ → ℕ → ℕ → ℕ → ℕ
remapped r p a b c g =
    cond (named a) (page_taken (page_left r p c) a b (pages_of r (r (at process p (held_at segment a)))) g) (page_left r p c g)

unfoldable pub remap : List ℕ → (Addr → ℕ) → ℕ → ℕ → ℕ → ℕ → List ℕ → Rule
remap h r p a b c buffer =
    let s : ℕ = r (at process p (held_at segment a)) in
    rule
    ((ltb entries a || ltb entries c ⇒ XnSgDes) ∷ ((named a && vacant r p a) || (named c && vacant r p c) ⇒ XbSgDes)
    ∷ (named a && stale h r segment s ⇒ XbSgSd)
    ∷ (named c && not (is_mapped (λ g. r (at process p (page_at g))) c) ⇒ XoutSgAldUmp)
    ∷ (named a && is_mapped (page_left r p c) a ⇒ XinSgAldMap)
    ∷ (named a && conflict (page_left r p c) b (pages_of r s) ⇒ XvrtMmCfl) ∷ [])
    (effect 0 0 buffer (pages_set p (remapped r p a b c)) [])
