-- 02, CR 1, "Segments in the address map": what call 19 leaves of its caller's map, what giving up leaves, and that nobody else changes a process's map.
use mathlib.Core.Path.{◌≡◌, refl, sym, ap, ◌∙◌}
use mathlib.Core.Bool.{Bool, true, false, ◌&&◌, not}
use mathlib.Core.List.{List}
use Prim.Native.Nat.{ℕ, ◌+◌, ◌*◌, ◌-◌, ◌≤◌, ◌<◌}
use native.Mathlib.Omega.{arith}
use native.Mathlib.Decide.{ℕ_discrete, dec_lt}
use lib.Dec.{ltb, leb, eqb}
use borrow.Author.Tests.{lt-ltb, le-leb, ltb-true, ltb-false, leb-true, eq-eqb, ne_eqb, eqb-true, eqb-false, lt-leb, le-ltb, leb-false}
use Rattle.rules.specs.Words.{some_below}
use Rattle.rules.specs.Layout.{Kind, process, segment, file, slots, configuration, Addr, at, Valid, rd, live, entries, held_at, pages, page_bytes, pages_at, page_at, bits, size}
use Rattle.rules.specs.Seid.{index_of, or_self}
use Rattle.rules.specs.Errors.{XOK}
use Rattle.rules.specs.Rule.{Word, Rule, over, store}
use Rattle.rules.specs.Find.{page_left, pages_set}
use Rattle.rules.specs.Call05.{release_segment}
use Rattle.rules.specs.Call18.{access_of}
use Rattle.rules.specs.Call19.{named, is_mapped, pages_of, conflict, page_taken, remapped, remap}
use Rattle.rules.specs.Call20.{page_access}
use Rattle.rules.specs.Step.{State, Call, step, next, rule_of, bad_code, whole_rule}
use Rattle.laws.proofs.Tests.{and_left, and_right, or_left, or_right, split, cond-true, cond-false, refuted}
use Rattle.laws.proofs.Below.{none-at, some_of}
use Rattle.laws.proofs.Written.{AllOf, all_map, all-tab, over-miss}
use Rattle.laws.proofs.Object.{no-process}
use Rattle.laws.proofs.Refusals.{Clear}
use Rattle.laws.proofs.Slots.{slot-untaken}
use Rattle.kept.proofs.Fine.{Paged}
use Rattle.kept.proofs.Pages.{pages-at, left-gone}
use Rattle.kept.proofs.Keeps.{Caller}
use Rattle.kept.proofs.Entries.{given-page}
use Rattle.kept.proofs.Kept.{Well, conf-kept}
use Rattle.promises.proofs.Refusals.{ruled, answered-whole, own, own-clear, goes_on, done, refused}
use Rattle.promises.proofs.After.{its-caller, read-after}
use Rattle.promises.proofs.Writes.{Acting, itself, released-one, EntryWord, Wrote, made, filled, emptied, paged, counted, freed-word, cleared, linked, sized, set-bits, posted, received, writes}

-- what page g of process p holds: 0, or designator + 1
abbrev pub page_of : State → ℕ → ℕ → ℕ
page_of s p g = rd (configuration s.table) s.table (at process p (page_at g))

-- ---- call 19

-- "its size over 8,192, rounded up": the run holds the segment, and no page fewer would
pub run_holds : (r : Addr → ℕ) (s : ℕ) → (r (at segment (index_of s) size) ≤ pages_of r s * page_bytes) × (pages_of r s * page_bytes < r (at segment (index_of s) size) + page_bytes)
unfolding pages_of
run_holds r s = (omega arith, omega arith)

module _ (r : Addr → ℕ) (p c g : ℕ) where
  -- what a designator that leaves leaves of the others
  pub left_other : (d : ℕ) → (d ≡ c → ⊥) → r (at process p (page_at g)) ≡ d + 1 → page_left r p c g ≡ d + 1
  unfolding page_left
  left_other d n e = rw (ne_eqb (r (at process p (page_at g))) (c + 1) (λ x. n (omega arith))) e

  pub left-some : (d : ℕ) → page_left r p c g ≡ d + 1 → r (at process p (page_at g)) ≡ d + 1
  unfolding page_left
  left-some d e = split _ (eqb (r (at process p (page_at g))) (c + 1))
      (λ t. absurd (omega (arith, cond-true (eqb (r (at process p (page_at g))) (c + 1)) 0 (r (at process p (page_at g))) t)))
      (λ t. sym (cond-false (eqb (r (at process p (page_at g))) (c + 1)) 0 (r (at process p (page_at g))) t) ∙ e)

module _ (s : State) (k : Call) (w : Well s) (code : k.code ≡ 19) (ok : (step s k).answered.error ≡ XOK) where
  abbrev h : List ℕ
  h = configuration s.table

  abbrev r : Addr → ℕ
  r = rd h s.table

  abbrev p : ℕ
  p = k.caller

  -- the number of pages that the incoming segment covers
  abbrev pub covers : ℕ
  covers = pages_of (rd (configuration s.table) s.table) (rd (configuration s.table) s.table (at process k.caller (held_at segment k.a)))

  clear : Clear (remap h r p k.a k.b k.c k.buffer).refusals
  unfolding rule_of
  clear = rw code at (own-clear s k ok)

  map-after : (g : ℕ) → g < pages → page_of (next s k) p g ≡ remapped r p k.a k.b k.c g
  unfolding rule_of remap
  map-after g l =
      rw (conf-kept s k w) (read-after s k w ok (at process p (page_at g)) ((its-caller s k w ok).in-range, omega arith)
      ∙ rw code (pages-at p (remapped r p k.a k.b k.c) r g l))

  -- with no incoming one: the outgoing one's pages are empty, and every other is as it was
  pub went-out : entries ≤ k.a → (g : ℕ) → g < pages → page_of (next s k) p g ≡ page_left (rd (configuration s.table) s.table) p k.c g
  unfolding remapped
  went-out l g gl = map-after g gl ∙ rw (le-ltb k.a entries l)

  module _ (incoming : k.a < entries) where
    abbrev f : ℕ → ℕ
    f = page_left r p k.c

    is-named : named k.a ≡ true
    is-named = lt-ltb k.a entries incoming

    no-conflict : conflict f k.b covers ≡ false
    unfolding remap
    no-conflict = rw is-named at clear.1.1.1.1.1.0

    not-mapped : is_mapped f k.a ≡ false
    unfolding remap
    not-mapped = rw is-named at clear.1.1.1.1.0

    -- its run ends by the last page
    pub fits : k.b + covers ≤ pages
    unfolding conflict
    fits = ltb-false pages (k.b + covers) (or_left (ltb pages (k.b + covers)) _ no-conflict)

    -- and met none in use but by the outgoing one
    pub met-none : (i : ℕ) → i < covers → f (k.b + i) ≡ 0
    unfolding conflict
    met-none i l = eqb-true (f (k.b + i)) 0 (passed_over (eqb (f (k.b + i)) 0)
        (none-at covers (λ i. not (eqb (f (k.b + i)) 0)) (or_right (ltb pages (k.b + covers)) _ no-conflict) i l))
      where
        passed_over : (a : Bool) → not a ≡ false → a ≡ true
        passed_over true e = refl
        passed_over false e = sym e

    in-run : (g : ℕ) → k.b ≤ g → g < k.b + covers → page_of (next s k) p g ≡ k.a + 1
    unfolding remapped page_taken
    in-run g lo hi = map-after g (omega (arith, fits)) ∙ rw (is-named, le-leb k.b g lo, lt-ltb g (k.b + covers) hi)

    out-of-run : (g : ℕ) → g < pages → (k.b ≤ g → g < k.b + covers → ⊥) → page_of (next s k) p g ≡ f g
    unfolding remapped page_taken
    out-of-run g l n = map-after g l
        ∙ rw (
          is-named,
          refuted (leb k.b g && ltb g (k.b + covers)) (λ t.
              n (leb-true k.b g (and_left (leb k.b g) (ltb g (k.b + covers)) t)) (ltb-true g (k.b + covers) (and_right (leb k.b g) (ltb g (k.b + covers)) t))),
        )

    -- exactly its pages hold it
    pub comes-in : (g : ℕ) → k.b ≤ g → g < k.b + covers → page_of (next s k) p g ≡ k.a + 1
    comes-in = in-run

    pub nowhere-else : (g : ℕ) → g < pages → page_of (next s k) p g ≡ k.a + 1 → (k.b ≤ g) × (g < k.b + covers)
    unfolding is_mapped
    nowhere-else g l e = elim (dec_lt g k.b) [
      | yes m ↦ absurd (outside (λ lo hi. omega arith))
      | no m ↦ elim (dec_lt g (k.b + covers)) [
        | yes n ↦ (omega arith, n)
        | no n ↦ absurd (outside (λ lo hi. n hi))
      ]
    ]
      where
        outside : (k.b ≤ g → g < k.b + covers → ⊥) → ⊥
        outside n = eqb-false (f g) (k.a + 1) (none-at pages (λ g. eqb (f g) (k.a + 1)) not-mapped g l) (sym (out-of-run g l n) ∙ e)

    -- and no page of another designator changed, the outgoing one's apart
    pub others-stay : (d g : ℕ) → g < pages → (d ≡ k.a → ⊥) → (d ≡ k.c → ⊥) → page_of s p g ≡ d + 1 → page_of (next s k) p g ≡ d + 1
    others-stay d g l a c e =
        let still = left_other r p k.c g d c e in
        out-of-run g l (λ lo hi. let i : k.b + (g - k.b) ≡ g = omega arith in omega (arith, rw i at (met-none (g - k.b) (omega arith)))) ∙ still

    pub no-new : (d g : ℕ) → g < pages → (d ≡ k.a → ⊥) → page_of (next s k) p g ≡ d + 1 → page_of s p g ≡ d + 1
    no-new d g l a e = left-some r p k.c g d (sym (out-of-run g l (λ lo hi. a (omega (arith, in-run g lo hi)))) ∙ e)

-- "An outgoing entry may be stale": whether or not its segment lives, a designator that is mapped goes out
pub stale-goes-out : (s : State) (k : Call) → Well s → k.caller < slots (configuration s.table) process
    → rd (configuration s.table) s.table (at process k.caller live) ≡ 1 → k.code ≡ 19 → k.a ≡ entries → k.c < entries
    → (rd (configuration s.table) s.table (at process k.caller (held_at segment k.c)) ≡ 0 → ⊥)
    → (g : ℕ) → g < pages → page_of s k.caller g ≡ k.c + 1 → (step s k).answered.error ≡ XOK
unfolding rule_of bad_code remap is_mapped
stale-goes-out s k w in-range alive code none c some g gl mapped =
    let r = rd (configuration s.table) s.table in
    let code-good : bad_code k.code ≡ false = rw code in
    let there : some_below pages (λ g. eqb (r (at process k.caller (page_at g))) (k.c + 1)) ≡ true =
    some_of pages (λ g. eqb (r (at process k.caller (page_at g))) (k.c + 1)) g gl (eq-eqb _ _ mapped) in
    goes_on s k w in-range alive code-good
    (rw (code, none) (
      rw (le-ltb entries k.c (omega arith)),
      (
        rw (lt-ltb k.c entries c, ne_eqb _ 0 some),
        (refl, (rw (lt-ltb k.c entries c, there), (refl, (refl, tt)))),
      ),
    ))

-- "Both none succeeds and changes nothing": every page is as it was (and so is all else: `pages-alone`)
pub both-none : (s : State) (k : Call) → Well s → k.caller < slots (configuration s.table) process
    → rd (configuration s.table) s.table (at process k.caller live) ≡ 1 → k.code ≡ 19 → k.a ≡ entries → k.c ≡ entries
    → ((step s k).answered.error ≡ XOK) × ((g : ℕ) → g < pages → page_of (next s k) k.caller g ≡ page_of s k.caller g)
unfolding rule_of bad_code remap page_left
both-none s k w in-range alive code no-in no-out =
    let code-good : bad_code k.code ≡ false = rw code in
    let ok : (step s k).answered.error ≡ XOK = goes_on s k w in-range alive code-good (rw (code, no-in, no-out) (refl, (refl, (refl, (refl, (refl, (refl, tt))))))) in (
      ok,
      λ g l. went-out s k w code ok (omega arith) g l ∙ unmapped g l ((((its-caller s k w ok).fine.own process k.caller in-range).alive alive).paged g l),
    )
  where
    -- no page holds 17
    unmapped : (g : ℕ) → g < pages → Paged (rd (configuration s.table) s.table) k.caller (page_of s k.caller g)
        → page_left (rd (configuration s.table) s.table) k.caller k.c g ≡ page_of s k.caller g
    unmapped g l x = cond-false (eqb (page_of s k.caller g) (k.c + 1)) 0 (page_of s k.caller g)
        (ne_eqb (page_of s k.caller g) (k.c + 1) (λ e. omega (arith, (x (λ z. omega arith)).0)))

-- call 19 changes nothing but its caller's pages, and answers two zeros
pub record PagesAlone (s : State) (k : Call) : Type 0 where
  pub first : (step s k).answered.first ≡ 0
  pub second : (step s k).answered.second ≡ 0
  pub others : (b : Addr) → Valid (configuration s.table) b → (b.kind ≡ process → b.slot ≡ k.caller → b.word < pages_at)
      → rd (configuration s.table) (next s k).table b ≡ rd (configuration s.table) s.table b
  pub same-configuration : configuration (next s k).table ≡ configuration s.table
  pub store : (next s k).store ≡ s.store
  pub buffer : (step s k).buffer ≡ k.buffer

page-words : (p : ℕ) (f : ℕ → ℕ) → AllOf (λ (x : Word). (x.at.kind ≡ process) × (x.at.slot ≡ p) × (pages_at ≤ x.at.word)) (pages_set p f)
unfolding pages_set
page-words p f = all-tab _ 0 pages _ (λ g lo hi. (refl, refl, omega arith))

remaps : (s : State) (k : Call) → k.code ≡ 19
    → own s k ≡ remap (configuration s.table) (rd (configuration s.table) s.table) k.caller k.a k.b k.c k.buffer
unfolding rule_of
remaps s k code = rw code

pub pages-alone : (s : State) (k : Call) → Well s → k.code ≡ 19 → PagesAlone s k
unfolding whole_rule remap
pages-alone s k w code =
    let h : List ℕ = configuration s.table in
    let r : Addr → ℕ = rd (configuration s.table) s.table in
    elim (ℕ_discrete (step s k).answered.error XOK) [
      | no n ↦ let u = refused s k n in
          record {
            first = u.first;
            second = u.second;
            others = λ b v low. ap (λ (x : State). rd h x.table b) u.state;
            same-configuration = conf-kept s k w;
            store = ap (λ (x : State). x.store) u.state;
            buffer = u.buffer;
          }
      | yes ok ↦ let d = done s k ok in
          record {
            first = d.first ∙ ap (λ (x : Rule). x.effects.first) (remaps s k code);
            second = d.second ∙ ap (λ (x : Rule). x.effects.second) (remaps s k code);
            others = λ b v low. read-after s k w ok b v ∙ ap (λ (x : Rule). over r x.effects.words b) (remaps s k code)
                ∙ over-miss b (all_map (λ x y e.
                let here = low (ap (λ (c : Addr). c.kind) e ∙ y.0) (ap (λ (c : Addr). c.slot) e ∙ y.1) in
                let same : b.word ≡ x.at.word = ap (λ (c : Addr). c.word) e in
                omega (arith, y.2)) (page-words k.caller _)) r;
            same-configuration = conf-kept s k w;
            store = d.store ∙ ap (λ (x : Rule). store h s.store x.effects.bytes) (remaps s k code);
            buffer = d.buffer ∙ ap (λ (x : Rule). x.effects.buffer) (remaps s k code);
          }
    ]

-- a refusal leaves the map
pub refused-map : (s : State) (k : Call) → ((step s k).answered.error ≡ XOK → ⊥) → (p g : ℕ) → page_of (next s k) p g ≡ page_of s p g
refused-map s k n p g = ap (λ (u : State). page_of u p g) (refused s k n).state

-- ---- call 20

-- "it answers as call 18 does for that designator"
pub as-designator : (s : State) (k k' : Call) → k.code ≡ 20 → k'.code ≡ 18 → k'.caller ≡ k.caller → k.a < pages → page_of s k.caller k.a ≡ k'.a + 1
    → (step s k).answered ≡ (step s k').answered
unfolding whole_rule bad_code rule_of page_access access_of
as-designator s k k' code code' caller low held =
    let minus : k'.a + 1 - 1 ≡ k'.a = omega arith in
    let same : ruled s k ≡ ruled s k' = rw (code, code', caller, lt-leb pages k.a low, held, ne_eqb (k'.a + 1) 0 (λ e. omega arith), minus) in
    answered-whole s k ∙ same ∙ sym (answered-whole s k')

-- ---- giving up

-- the words that call 5 writes
given-page-is : (s : State) (k : Call) → Caller (configuration s.table) (rd (configuration s.table) s.table) k.caller → k.code ≡ 5 → Clear (own s k).refusals
    → (g : ℕ) → g < pages → over (rd (configuration s.table) s.table) (own s k).effects.words (at process k.caller (page_at g))
    ≡ page_left (rd (configuration s.table) s.table) k.caller k.a g
unfolding rule_of release_segment
given-page-is s k me code ok g l =
    let q = rw code at ok in
    rw code (given-page (configuration s.table) (rd (configuration s.table) s.table) me.fine k.caller me.in-range me.alive segment tt k.a
    (leb-false entries k.a q.0) (eqb-false _ 0 q.1.0) g l)

-- "Giving up a designator clears its pages": after call 5
pub given-up-off : (s : State) (k : Call) → Well s → k.code ≡ 5 → (step s k).answered.error ≡ XOK → (g : ℕ) → g < pages → page_of (next s k) k.caller g ≡ k.a + 1 → ⊥
given-up-off s k w code ok g l e =
    let r = rd (configuration s.table) s.table in
    let me = its-caller s k w ok in
    let page : page_of (next s k) k.caller g ≡ page_left r k.caller k.a g =
    rw (conf-kept s k w) (read-after s k w ok (at process k.caller (page_at g)) (me.in-range, omega arith) ∙ given-page-is s k me code (own-clear s k ok) g l) in
    left-gone r k.caller k.a g (sym page ∙ e)

-- ---- nobody else

-- a live process's map is changed by no other process's call, save its release
pub map-own : (s : State) (k : Call) → Well s → (p : ℕ) → p < slots (configuration s.table) process → rd (configuration s.table) s.table (at process p live) ≡ 1
    → (k.caller ≡ p → ⊥) → (k.code ≡ 2 → index_of (or_self (rd (configuration s.table) s.table) k.caller k.a) ≡ p → ⊥)
    → (g : ℕ) → g < pages → page_of (next s k) p g ≡ page_of s p g
map-own s k w p pl alive other unreleased g gl = elim (ℕ_discrete (step s k).answered.error XOK) [
  | no n ↦ refused-map s k n p g
  | yes ok ↦ rw (conf-kept s k w) (read-after s k w ok (at process p (page_at g)) (pl, omega arith)
      ∙ over-miss (at process p (page_at g)) (all_map (λ x y e. past x y (sym (ap (λ (b : Addr). b.kind) e)) (sym (ap (λ (b : Addr). b.slot) e))
      (ap (λ (b : Addr). b.word) e))
      (writes (configuration s.table) (rd (configuration s.table) s.table) s.store k (its-caller s k w ok) (own-clear s k ok)))
      (rd (configuration s.table) s.table))
]
  where
    acted : (q : ℕ) → Acting (rd (configuration s.table) s.table) k q → q ≡ p → ⊥
    acted q itself e = other e
    acted q (released-one c) e = unreleased c e

    entry-low : (j : Kind) (n : ℕ) → EntryWord j n → page_at g ≡ n → ⊥
    entry-low process n y e = y
    entry-low segment n y e = omega arith
    entry-low file n y e = omega arith

    bits-low : (j : Kind) → page_at g ≡ bits j → ⊥
    bits-low process e = omega arith
    bits-low segment e = omega arith
    bits-low file e = omega arith

    past : (x : Word) → Wrote (configuration s.table) (rd (configuration s.table) s.table) k x → x.at.kind ≡ process → x.at.slot ≡ p → page_at g ≡ x.at.word → ⊥
    past x (made {j = j} {c = c} m l room low y) e f z = omega (
      arith,
      (slot-untaken (configuration s.table) (rd (configuration s.table) s.table) j c room).is_free,
      lived j _ e f,
    )
      where
        lived : (j : Kind) (i : ℕ) → j ≡ process → i ≡ p → rd (configuration s.table) s.table (at j i live) ≡ 1
        lived j i e f = rw (e, f) alive
    past x (filled j {n} y v) e f z = entry-low j n v z
    past x (emptied j {q} {n} y v) e f z = entry-low j n v z
    past x (paged {q} y l) e f z = acted q y f
    past x (counted {j = j} o) e f z = no-process j o e
    past x (freed-word j o v y) e f z = no-process j o e
    past x (cleared c y) e f z = unreleased c f
    past x linked e f z = no-process file tt e
    past x sized e f z = no-process file tt e
    past x (set-bits {j = j} c v) e f z = bits-low j z
    past x (posted {n} c y) e f z = omega (arith, y (λ i. omega arith))
    past x (received {n} c y) e f z = omega (arith, y (λ i. omega arith))
