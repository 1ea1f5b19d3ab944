-- Entries filled and given up, for a file or a segment: the holders are counted, and an object without holders is freed.
use mathlib.Core.Path.{◌≡◌, refl, sym, ap, ◌∙◌}
use mathlib.Core.Bool.{Bool, true, false, cond, ◌&&◌, not}
use mathlib.Core.List.{List, [], ◌∷◌, ◌++◌}
use Prim.Native.Nat.{ℕ, ◌+◌, ◌-◌, ◌≤◌, ◌<◌}
use native.Mathlib.Omega.{arith}
use native.Mathlib.Decide.{ℕ_discrete}
use lib.Dec.{ltb, leb, eqb}
use borrow.Author.Tests.{eq-eqb, eqb-true, eqb-false, leb-false}
use Rattle.rules.specs.Layout.{Kind, process, segment, file, slots, cell_of, flows, Addr, at, live, serial, entries, held_at, used_at, pages, pages_at, page_at, links, holders}
use Rattle.rules.specs.Seid.{class, index_of, serial_of, is_seid, formed, is_subtype}
use Rattle.rules.specs.WellFormed.{valid_use, write_use, holds_subtype, own_entry}
use Rattle.rules.specs.Rule.{◌⇒◌, first_refusal, Word, ◌≔◌, over}
use Rattle.rules.specs.Find.{in_own_cell, entered, one_more, freed, one_less, page_left, pages_cleared, emptied, given_up, kept}
use Rattle.laws.proofs.Tests.{cond_both, split, and_left, both_ways, refuted}
use Rattle.laws.proofs.Seids.{class-pos, class-some, is-formed}
use Rattle.laws.proofs.Shape.{Entry, SubtypeHeld, formed-object, subtype-some}
use Rattle.laws.proofs.Subtypes.{named-subtype, no-object}
use Rattle.laws.proofs.Written.{AllOf, nil, all-if, over-append}
use Rattle.laws.proofs.Object.{Object, no-process}
use Rattle.kept.proofs.Fine.{linked, Own, Fine}
use Rattle.laws.proofs.Refusals.{clear}
use Rattle.kept.proofs.Records.{InRecord, elsewhere, in-first, word_in, word_at, word-past, freed-in, freed-serial, freed-word}
use Rattle.kept.proofs.Counting.{one, named-is, named-counted, not_named, empty-named}
use Rattle.kept.proofs.Made.{placed, object-words, freed-record}
use Rattle.kept.proofs.OneEntry.{Fresh, Unmapped, still-filled}
use Rattle.kept.proofs.Keeps.{Keeps, Caller, keeps-none, keeps_then}
use Rattle.kept.proofs.Pages.{pages-in, pages-past, pages-at, keeps-pages, left-page, left-gone}
use Rattle.kept.proofs.Exchange.{entry_first, entry-alone, entered-in, entered-held, entered-beside}
use Rattle.kept.proofs.Found.{Found}
use Rattle.kept.proofs.Objects.{own-holders}

-- an entry's word that is entered anew
pub new-entry : (h : List ℕ) (q : Addr → ℕ) (k : Kind) (c s u : ℕ) → is_seid (class k) (slots h k) s ≡ true → q (at k (index_of s) live) ≡ 1
    → q (at k (index_of s) serial) ≡ serial_of s → flows h (cell_of h k (index_of s)) c ≡ true → valid_use k u ≡ true
    → (write_use k u ≡ true → cell_of h k (index_of s) ≡ c) → Entry h q k c s u
new-entry h q k c s u form lives serial-is flow valid own = record {
  empty = λ z. absurd (class-some s (class k) (class-pos k) (is-formed _ _ s form).class-is z);
  held = λ n. record { form = form; serial-known = omega arith; flow = flow };
  current-live = λ n e. lives;
  current-serial = λ n e. serial-is;
  valid = λ n. valid;
  writes-own = λ n. own;
  subtype = λ t. both_ways (holds_subtype k s) t (formed-object h k s form).1;
}

-- one that holds a subtype: no object's record matters
pub subtype-entry : (h : List ℕ) (q : Addr → ℕ) (c s u : ℕ) → SubtypeHeld h c s u → Entry h q file c s u
subtype-entry h q c s u x =
    let t = named-subtype h s x.names in
    record {
      empty = λ z. absurd (subtype-some file s t z);
      held = λ n. both_ways (is_subtype s) t n.1;
      current-live = λ n e. both_ways (is_subtype s) t n.1;
      current-serial = λ n e. both_ways (is_subtype s) t n.1;
      valid = λ n. x.valid;
      writes-own = λ n e. both_ways (is_subtype s) t n.1;
      subtype = λ e. x;
    }

pub empty-entry : (h : List ℕ) (q : Addr → ℕ) (k : Kind) (c : ℕ) → Entry h q k c 0 0
empty-entry h q k c = record {
  empty = λ e. refl;
  held = λ n. absurd (n.0 refl);
  current-live = λ n e. absurd (n.0 refl);
  current-serial = λ n e. absurd (n.0 refl);
  valid = λ n. absurd (n refl);
  writes-own = λ n e. absurd (n.0 refl);
  subtype = λ t. absurd (subtype-some k 0 t refl);
}

no-fresh : (r : Addr → ℕ) (k : Kind) (p d : ℕ) → Fresh r k p d 0
no-fresh r process p d = tt
no-fresh r file p d = tt
no-fresh r segment p d = λ e l n some x. some refl

kept-linked : (r : Addr → ℕ) (k : Kind) (i : ℕ) → kept r k i ≡ linked k (r (at k i links))
kept-linked r process i = refl
kept-linked r segment i = refl
kept-linked r file i = refl

-- ---- filled

module _ (h : List ℕ) (r : Addr → ℕ) (p : ℕ) (c : Caller h r p) (k : Kind) (o : Object k) (d s u : ℕ) (dl : d < entries) (empty : r (at process p (held_at k d)) ≡ 0)
    (f : Found h r k s) (flow : flows h (cell_of h k (index_of s)) (cell_of h process p) ≡ true) (valid : valid_use k u ≡ true)
    (writes-own : write_use k u ≡ true → cell_of h k (index_of s) ≡ cell_of h process p) (fresh : Fresh r k p d s) where
  filled-by : (B : List Word) → AllOf (InRecord k (index_of s)) B → Own h (over r B) k (index_of s)
      → over r B (at k (index_of s) live) ≡ r (at k (index_of s) live) → over r B (at k (index_of s) serial) ≡ r (at k (index_of s) serial)
      → ((q : Addr → ℕ) → q (at process p (held_at k d)) ≡ s → over r B (at k (index_of s) (holders k)) ≡ r (at k (index_of s) (holders k)) + one
      (own_entry h q k (index_of s) p d))
      → Keeps h r (entered k p d s u ++ B)
  filled-by B a own e0 e1 counts = entry_first h r c.fine k o p d (index_of s) s u c.in-range c.alive dl (record {
    in-range = f.parts.index_in;
    in-record = a;
    own-after = own;
    grown-after = omega arith;
    steady-after = λ x y. (e0 ∙ y, e1);
    fresh = fresh;
    unmapped = still-filled r k p d s (class-some s (class k) (class-pos k) f.parts.class-is);
    entry-after = new-entry h (over r B) k _ s u f.form (e0 ∙ f.here.is_live) (e1 ∙ f.here.same-serial) flow valid writes-own;
    old-index = λ n. absurd (n.0 empty);
    new-index = λ n. refl;
    counts = λ q e. rw (empty-named h r k p d (index_of s) empty) (omega (arith, counts q e));
  })

  pub filled : Keeps h r (entered k p d s u ++ one_more h r p k s)
  unfolding over
  filled =
      let i : ℕ = index_of s in
      let own : Own h r k i = c.fine.own k i f.parts.index_in in
      let lives : r (at k i live) ≡ 1 = f.here.is_live in
      let w = object-words k o in
      let n : ℕ = holders k in
      cond_both (λ B. Keeps h r (entered k p d s u ++ B)) (in_own_cell h p k s) ((at k i n ≔ r (at k i n) + 1) ∷ []) []
      (λ e. filled-by ((at k i n ≔ r (at k i n) + 1) ∷ []) (word_in k i n _ (omega arith) nil) (own-holders h r k o i own lives _ (λ x. omega arith))
      (word-past r k i n _ live (λ e. omega arith)) (word-past r k i n _ serial (λ e. omega arith))
      (λ q x. rw (named-is h q k p d i (record { same-cell = eqb-true _ _ e; same_class = rw x f.parts.class-is; same_index = ap index_of x }))
      (word_at r k i n (r (at k i n) + 1))))
      (λ e. filled-by [] nil own refl refl (λ q x. rw (not_named h q k p d i (λ y. eqb-false _ _ e y.same-cell)) (omega arith)))

-- ---- given up

pub less-in : (r : Addr → ℕ) (k : Kind) → Object k → (i : ℕ) → AllOf (InRecord k i) (one_less r k i)
unfolding one_less
less-in r k o i =
    let w = object-words k o in
    all-if _ (eqb (r (at k i (holders k))) 1 && not (kept r k i)) _ _ (λ t. freed-in k i) (λ t. word_in k i (holders k) _ (omega arith) nil)

module _ (h : List ℕ) (r : Addr → ℕ) (w : Fine h r) (p : ℕ) (pl : p < slots h process) (lives : r (at process p live) ≡ 1) (k : Kind) (o : Object k) (d : ℕ) (dl : d < entries)
    (off : Unmapped r k p d 0) where
  abbrev given : ℕ
  given = r (at process p (held_at k d))

  abbrev slot : ℕ
  slot = index_of given

  slot-in : formed h k given ≡ true → slot < slots h k
  slot-in form = (is-formed _ _ given form).index_in

  emptied-by : formed h k given ≡ true → (B : List Word) → AllOf (InRecord k slot) B → Own h (over r B) k slot → over r B (at k slot serial) ≡ r (at k slot serial)
      → (1 ≤ over r B (at k slot (holders k)) → over r B (at k slot live) ≡ r (at k slot live))
      → over r B (at k slot (holders k)) + one (own_entry h r k slot p d) ≡ r (at k slot (holders k)) → Keeps h r (entered k p d 0 0 ++ B)
  emptied-by form B a own e1 e0 counts = entry_first h r w k o p d slot 0 0 pl lives dl (record {
    in-range = slot-in form;
    in-record = a;
    own-after = own;
    grown-after = omega arith;
    steady-after = λ x y. (e0 x ∙ y, e1);
    fresh = no-fresh r k p d;
    unmapped = off;
    entry-after = empty-entry h (over r B) k _;
    old-index = λ n. refl;
    new-index = λ n. absurd (n.0 refl);
    counts = λ q e. rw (empty-named h q k p d slot e) (omega (arith, counts));
  })

  -- an object of the own cell loses a holder
  own-less : formed h k given ≡ true → cell_of h k slot ≡ cell_of h process p → Keeps h r (entered k p d 0 0 ++ one_less r k slot)
  unfolding one_less
  own-less form e =
      let i : ℕ = slot in
      let n : ℕ = holders k in
      let x = w.entry k o p d pl dl in
      let own : Own h r k i = w.own k i (slot-in form) in
      let alive : r (at k i live) ≡ 1 = x.current-live (formed-object h k given form) e in
      let ws = object-words k o in
      let named : own_entry h r k i p d ≡ true =
      named-is h r k p d i (record { same-cell = e; same_class = (is-formed _ _ given form).class-is; same_index = refl }) in
      let many : 1 ≤ r (at k i n) = rw (w.counted k o i (slot-in form)) (named-counted h r k i p d pl dl named) in
      cond_both (λ B. Keeps h r (entered k p d 0 0 ++ B)) (eqb (r (at k i n)) 1 && not (kept r k i)) (freed k i) ((at k i n ≔ r (at k i n) - 1) ∷ [])
      (λ t. let last : r (at k i n) ≡ 1 = eqb-true _ 1 (and_left (eqb (r (at k i n)) 1) (not (kept r k i)) t) in
      let z = freed-word k i r in
      let gone = z n (omega arith) (λ x. omega arith) in
      emptied-by form (freed k i) (freed-in k i)
      (freed-record r k i _ own.serial-fits)
      (freed-serial k i r) (λ y. absurd (omega arith)) (rw named (omega arith)))
      (λ t. emptied-by form ((at k i n ≔ r (at k i n) - 1) ∷ []) (word_in k i n _ (omega arith) nil)
      (own-holders h r k o i own alive _ (λ l. fewer (r (at k i n)) (kept r k i) many t (kept-linked r k i ∙ l)))
      (word-past r k i n _ serial (λ x. omega arith)) (λ y. word-past r k i n _ live (λ x. omega arith))
      (rw (named, word_at r k i n (r (at k i n) - 1)) (omega arith)))
    where
      fewer : (m : ℕ) (b : Bool) → 1 ≤ m → eqb m 1 && not b ≡ false → b ≡ false → 1 ≤ m - 1
      fewer m b l t e = elim (ℕ_discrete m 1) [
        | yes x ↦ both_ways (eqb m 1 && not b) (rw (eq-eqb m 1 x, e)) t
        | no x ↦ omega arith
      ]

  -- what is no object's identifier is a subtype's, and no object loses a holder
  none-less : (given ≡ 0 → ⊥) → formed h k given ≡ false → Keeps h r (entered k p d 0 0)
  none-less some form =
      let x = w.entry k o p d pl dl in
      let other : holds_subtype k given ≡ false → ⊥ = λ n. both_ways (formed h k given) (x.held (some, n)).form form in
      entry-alone h r w k o p d 0 0 pl lives dl (record {
        fresh = no-fresh r k p d;
        unmapped = off;
        entry-after = λ q. empty-entry h q k _;
        old-class = λ c. other (refuted (holds_subtype k given) (λ t. no-object k given t c));
        new-class = λ c. class-some 0 (class k) (class-pos k) c refl;
      })

  entry-emptied : (given ≡ 0 → ⊥) → Keeps h r (emptied h r k p d given)
  unfolding emptied over
  entry-emptied some = split _ (formed h k given)
      (λ form. rw form (cond_both (λ B. Keeps h r (entered k p d 0 0 ++ B)) (in_own_cell h p k given) (one_less r k slot) []
      (λ e. own-less form (eqb-true _ _ e))
      (λ e. emptied-by form [] nil (w.own k slot (slot-in form)) refl (λ x. refl) (rw (not_named h r k p d slot (λ y. eqb-false _ _ e y.same-cell)) (omega arith)))))
      (λ form. rw form (none-less some form))

-- what is written of the object hangs on the object alone
less-same : (r q : Addr → ℕ) (k : Kind) (i : ℕ) → ((j : ℕ) → q (at k i j) ≡ r (at k i j)) → one_less q k i ≡ one_less r k i
unfolding one_less
less-same r q process i same = rw (same (holders process))
less-same r q segment i same = rw (same (holders segment))
less-same r q file i same = rw (same (holders file), same links)

emptied-same : (h : List ℕ) (r q : Addr → ℕ) (k : Kind) → Object k → (p d s : ℕ) → ((i j : ℕ) → q (at k i j) ≡ r (at k i j)) → emptied h q k p d s ≡ emptied h r k p d s
unfolding emptied
emptied-same h r q k o p d s same = rw (less-same r q k (index_of s) (same (index_of s)))

-- what page g holds then
abbrev pub cleared_page : (Addr → ℕ) → Kind → ℕ → ℕ → ℕ → ℕ
cleared_page r process p d g = r (at process p (page_at g))
cleared_page r segment p d g = page_left r p d g
cleared_page r file p d g = r (at process p (page_at g))

-- the pages of an entry cleared: of the process, none but pages are written, and none holds the entry
pub record Cleared (h : List ℕ) (r : Addr → ℕ) (k : Kind) (p d : ℕ) : Type 0 where
  pub keeps : Keeps h r (pages_cleared r k p d)
  pub in-process : AllOf (InRecord process p) (pages_cleared r k p d)
  pub past : (j : ℕ) → j < pages_at → over r (pages_cleared r k p d) (at process p j) ≡ r (at process p j)
  pub page : (g : ℕ) → g < pages → over r (pages_cleared r k p d) (at process p (page_at g)) ≡ cleared_page r k p d g
  pub off : Unmapped (over r (pages_cleared r k p d)) k p d 0

pub clears : (h : List ℕ) (r : Addr → ℕ) → Fine h r → (p : ℕ) → p < slots h process → r (at process p live) ≡ 1 → (k : Kind) → Object k → (d : ℕ) → Cleared h r k p d
unfolding over
clears h r w p pl lives process o d = absurd o
clears h r w p pl lives file o d = record { keeps = keeps-none h r w; in-process = nil; past = λ j l. refl; page = λ g l. refl; off = tt }
clears h r w p pl lives segment o d = record {
  keeps = keeps-pages h r w p pl lives (page_left r p d) (λ g gl. left-page r p d g (((w.own process p pl).alive lives).paged g gl));
  in-process = pages-in p (page_left r p d);
  past = pages-past p (page_left r p d) r;
  page = pages-at p (page_left r p d) r;
  off = λ z g gl e. left-gone r p d g (sym (pages-at p (page_left r p d) r g gl) ∙ e);
}

module _ (h : List ℕ) (r : Addr → ℕ) (w : Fine h r) (p : ℕ) (pl : p < slots h process) (lives : r (at process p live) ≡ 1) (k : Kind) (o : Object k) (d : ℕ) (dl : d < entries)
    (some : r (at process p (held_at k d)) ≡ 0 → ⊥) where
  abbrev holds : ℕ
  holds = r (at process p (held_at k d))

  abbrev without : Addr → ℕ
  without = over r (pages_cleared r k p d)

  cleared : Cleared h r k p d
  cleared = clears h r w p pl lives k o d

  same-held : without (at process p (held_at k d)) ≡ holds
  same-held = let y = placed k o d dl in cleared.past (held_at k d) (omega arith)

  same_object : (i j : ℕ) → without (at k i j) ≡ r (at k i j)
  same_object i j = elsewhere process p cleared.in-process r k i j (λ e f. no-process k o e)

  rest-is : emptied h without k p d (without (at process p (held_at k d))) ≡ emptied h r k p d holds
  rest-is = rw same-held (emptied-same h r without k o p d holds same_object)

  rest : Keeps h without (emptied h r k p d holds)
  rest = rw rest-is at (entry-emptied h without cleared.keeps.fine p pl (cleared.past live (omega arith) ∙ lives) k o d dl cleared.off (λ z. some (sym same-held ∙ z)))

  pub given-up : Keeps h r (given_up h r k p d holds)
  unfolding given_up
  given-up = keeps_then h r (pages_cleared r k p d) (emptied h r k p d holds) cleared.keeps rest

  given-in : AllOf (InRecord k (index_of holds)) (cond (formed h k holds && in_own_cell h p k holds) (one_less r k (index_of holds)) [])
  given-in = all-if _ (formed h k holds && in_own_cell h p k holds) _ _ (λ e. less-in r k o (index_of holds)) (λ e. nil)

  -- of the process, the entry and its pages alone are written
  given_word : (j : ℕ) → over r (given_up h r k p d holds) (at process p j) ≡ over without (entered k p d 0 0) (at process p j)
  unfolding given_up emptied
  given_word j = rw (over-append r (pages_cleared r k p d) (emptied h r k p d holds))
      (in-first process k p (index_of holds) (λ e f. no-process k o e) (entered-in without k o p d 0 0 dl) given-in without j)

  pub given-held : over r (given_up h r k p d holds) (at process p (held_at k d)) ≡ 0
  given-held = given_word (held_at k d) ∙ entered-held without k o p d 0 0 dl

  pub given-beside : (j : ℕ) → j < pages_at → (j ≡ held_at k d → ⊥) → (j ≡ used_at k d → ⊥) → over r (given_up h r k p d holds) (at process p j) ≡ r (at process p j)
  given-beside j l n m = given_word j ∙ entered-beside without k o p d 0 0 dl j n m ∙ cleared.past j l

  -- and its pages
  pub given-page : (g : ℕ) → g < pages → over r (given_up h r k p d holds) (at process p (page_at g)) ≡ cleared_page r k p d g
  given-page g l =
      let y = placed k o d dl in
      given_word (page_at g) ∙ entered-beside without k o p d 0 0 dl (page_at g) (λ e. omega arith) (λ e. omega arith) ∙ cleared.page g l

-- a call that gives an entry up: its number is past the last, or the entry is empty
pub gives_up : (h : List ℕ) (r : Addr → ℕ) (p : ℕ) → Caller h r p → (k : Kind) → Object k → (a x y : ℕ) → ltb 0 x && (ltb 0 y && true) ≡ true
    → first_refusal ((leb entries a ⇒ x) ∷ (eqb (r (at process p (held_at k a))) 0 ⇒ y) ∷ []) ≡ 0 → Keeps h r (given_up h r k p a (r (at process p (held_at k a))))
gives_up h r p me k o a x y n e =
    let ok = clear ((leb entries a ⇒ x) ∷ (eqb (r (at process p (held_at k a))) 0 ⇒ y) ∷ []) n e in
    given-up h r me.fine p me.in-range me.alive k o a (leb-false entries a ok.0) (eqb-false (r (at process p (held_at k a))) 0 ok.1.0)
