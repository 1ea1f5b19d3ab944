-- One descriptor comes to hold something, or ceases to: the one mask changes as `marked` and `unmarked` change it, and the slice is right again.
use mathlib.Core.Path.{◌≡◌, refl, sym, ap, ◌∙◌}
use mathlib.Core.Bool.{true, false, ◌&&◌}
use mathlib.Core.List.{List}
use mathlib.Core.Logic.{inl}
use Prim.Native.Nat.{ℕ, ◌+◌, ◌-◌, ◌^◌, ◌≤◌, ◌<◌}
use native.Mathlib.Omega.{arith}
use native.Mathlib.Decide.{ℕ_discrete}
use lib.Dec.{ltb, leb, eqb}
use lib.ListN.{length, get_or, set, length-set}
use lib.Seq.{get_or-set_same, get_or-set_other}
use borrow.Author.Tests.{eqb-true, eq-eqb, lt-ltb, le-leb}
use Rattle.rules.specs.Layout.{Kind, process, file, slots, cells, cell_slots, first_slot, cell_of, Addr, at, entries, held_at}
use Rattle.rules.specs.Seid.{class, class_of, index_of, formed}
use Rattle.rules.specs.Find.{in_own_cell}
use Rattle.rules.specs.Work.{free_keys, mask, names}
use Rattle.laws.proofs.Tests.{cond_both, and_left, and_right, and_both, both_ways, refuted}
use Rattle.laws.proofs.Seids.{is-formed, class-pos, class-some}
use Rattle.laws.proofs.Shape.{Shape, in-run}
use Rattle.laws.proofs.Slots.{InRun, run-cell}
use Rattle.lists.specs.Region.{Beside}
use Rattle.lists.proofs.Lists.{shows-apart}
use Rattle.marks.specs.Masks.{marked, unmarked}
use Rattle.marks.proofs.Bits.{mask-same, mask-small, mask-gains, mask-loses, mask-has}
use Rattle.follow.specs.Right.{list_at, mark_at, mark_of, Right}
use Rattle.follow.specs.Followed.{here, marked_by, unmarked_by}
use Rattle.follow.proofs.Places.{before-rows, run-apart, mark-inj, mark-inside}
use Rattle.follow.proofs.One.{OneEntry, keys-same}

module _ (h : List ℕ) (sh : Shape h) (r q : Addr → ℕ) (w : List ℕ) (p d : ℕ) (pl : p < slots h process) (dl : d < entries) (one : OneEntry r q p d)
    (right : Right h r w) where
  abbrev mine : ℕ
  mine = cell_of h process p

  -- the process's place in its cell
  abbrev place : ℕ
  place = p - first_slot h process mine

  in_cell : (mine < cells h) × (place < cell_slots h process mine) × (first_slot h process mine + place ≡ p)
  in_cell = let x = in-run h sh process p pl in (x.0, omega (arith, x.1, x.2), omega (arith, x.1))

  -- every other descriptor names what it did
  names_same : (f o e : ℕ) → e < entries → (o ≡ p → e ≡ d → ⊥) → names r o f e ≡ names q o f e
  unfolding names
  names_same f o e l ne = rw (one.held o e l ne)

  mask-kept : (f o : ℕ) → (o ≡ p → names r p f d ≡ names q p f d) → mask (names r o f) entries 0 ≡ mask (names q o f) entries 0
  mask-kept f o same = mask-same (names r o f) (names q o f) entries 0 (λ e a b. elim (ℕ_discrete o p) [
    | yes po ↦ elim (ℕ_discrete e d) [
      | yes ed ↦ rw (po, ed) (same po)
      | no nd ↦ names_same f o e (omega arith) (λ x y. nd y)
    ]
    | no np ↦ names_same f o e (omega arith) (λ x y. np x)
  ])

  lists-kept : (k : Kind) (c : ℕ) → free_keys h r k c ≡ free_keys h q k c
  lists-kept k c = keys-same h r q k c (λ i a b. (one.lives k i, one.serials k i))

  -- a mask of the process is a file's of its cell
  own-file : (c f i : ℕ) → f < cell_slots h file c → i < cell_slots h process c → first_slot h process c + i ≡ p → (c ≡ mine) × InRun h file mine (first_slot h file c + f)
  own-file c f i fl il e =
      let x = in_cell in
      let cm : c ≡ mine = run-apart h process c mine p (omega arith) (omega arith) (omega (arith, x.2)) (omega (arith, x.1, x.2)) in
      (cm, rw (← cm) (record { low = omega arith; high = omega arith }))

  -- it comes to name no file of the cell, nor ceases to
  pub none_named : ((f : ℕ) → InRun h file mine f → names r p f d ≡ names q p f d) → Right h q w
  none_named same = record {
    size = right.size;
    lists = λ k c l. rw (lists-kept k c) at (right.lists k c l);
    marks = λ c f i cl fl il. right.marks c f i cl fl il
        ∙ mask-kept (first_slot h file c + f) (first_slot h process c + i) (λ po. same (first_slot h file c + f) (own-file c f i fl il po).1);
  }

  module _ (g : ℕ) (gl : InRun h file mine g) (others : (f : ℕ) → (f ≡ g → ⊥) → names r p f d ≡ names q p f d) where
    abbrev spot : ℕ
    spot = mark_of h p g

    file-place : (g - first_slot h file mine < cell_slots h file mine) × (first_slot h file mine + (g - first_slot h file mine) ≡ g)
    file-place = (omega (arith, gl.low, gl.high), omega (arith, gl.low))

    spot-inside : spot < length w
    unfolding mark_of
    spot-inside = rw right.size (mark-inside h mine (g - first_slot h file mine) place in_cell.0 file-place.0 in_cell.1)

    spot-holds : get_or w spot 0 ≡ mask (names r p g) entries 0
    unfolding mark_of
    spot-holds = rw (in_cell.2, file-place.1) at (right.marks mine (g - first_slot h file mine) place in_cell.0 file-place.0 in_cell.1)

    -- the mask is what it is now
    entry-right : (x : ℕ) → x ≡ mask (names q p g) entries 0 → Right h q (set w spot x)
    unfolding mark_of
    entry-right x is = record {
      size = length-set w spot x ∙ right.size;
      lists = λ k c l. rw (lists-kept k c) at (shows-apart w (set w spot x) (list_at h k c) (cell_slots h k c) (free_keys h r k c) spot 0 (right.lists k c l) put-beside
          (inl (before-rows h k c mine (g - first_slot h file mine) place l)));
      marks = put-marks;
    }
      where
        put-beside : Beside w (set w spot x) spot 0
        put-beside = record { size = length-set w spot x; rest = λ k out. get_or-set_other w spot k x 0 (λ e. out (omega arith) (omega arith)) }

        put-marks : (c f i : ℕ) → c < cells h → f < cell_slots h file c → i < cell_slots h process c
            → get_or (set w spot x) (mark_at h c f i) 0 ≡ mask (names q (first_slot h process c + i) (first_slot h file c + f)) entries 0
        put-marks c f i cl fl il = elim (ℕ_discrete (mark_at h c f i) spot) [
          | yes z ↦
              let s = mark-inj h c mine f i (g - first_slot h file mine) place fl il file-place.0 in_cell.1 z in
              rw (z, s.0, s.1, s.2, in_cell.2, file-place.1) (get_or-set_same w spot x 0 spot-inside ∙ is)
          | no nz ↦
              get_or-set_other w spot (mark_at h c f i) x 0 nz ∙ right.marks c f i cl fl il
              ∙ mask-kept (first_slot h file c + f) (first_slot h process c + i) (λ po. others (first_slot h file c + f) (λ fo. nz (same_spot c f i fl il po fo)))
        ]
          where
            same_spot : (c f i : ℕ) → f < cell_slots h file c → i < cell_slots h process c → first_slot h process c + i ≡ p → first_slot h file c + f ≡ g
                → mark_at h c f i ≡ spot
            same_spot c f i fl il po fo =
                let cm : c ≡ mine = (own-file c f i fl il po).0 in
                let a : first_slot h process c ≡ first_slot h process mine = ap (first_slot h process) cm in
                let b : first_slot h file c ≡ first_slot h file mine = ap (first_slot h file) cm in
                let fg : f ≡ g - first_slot h file mine = omega arith in
                let ip : i ≡ place = omega arith in
                rw (cm, fg, ip) refl

    pub mark-right : names r p g d ≡ false → names q p g d ≡ true → Right h q (marked w spot d)
    unfolding marked
    mark-right was now =
        let small : get_or w spot 0 < 2 ^ entries = rw spot-holds (mask-small (names r p g) entries 0) in
        let can : ltb d entries && ltb (get_or w spot 0) (2 ^ entries) ≡ true = and_both _ _ (lt-ltb d entries dl) (lt-ltb (get_or w spot 0) (2 ^ entries) small) in
        rw can (entry-right (get_or w spot 0 + 2 ^ d)
        (ap (λ (x : ℕ). x + 2 ^ d) spot-holds ∙ sym (mask-gains (names r p g) (names q p g) entries d dl was now (λ e l ne. names_same g p e l (λ x y. ne y)))))

    pub unmark-right : names r p g d ≡ true → names q p g d ≡ false → Right h q (unmarked w spot d)
    unfolding unmarked
    unmark-right was now =
        let has : 2 ^ d ≤ get_or w spot 0 = rw spot-holds (mask-has (names r p g) entries d dl was) in
        let can : ltb d entries && leb (2 ^ d) (get_or w spot 0) ≡ true = and_both _ _ (lt-ltb d entries dl) (le-leb (2 ^ d) (get_or w spot 0) has) in
        rw can (entry-right (get_or w spot 0 - 2 ^ d)
        (ap (λ (x : ℕ). x - 2 ^ d) spot-holds ∙ sym (mask-loses (names r p g) (names q p g) entries d dl was now (λ e l ne. names_same g p e l (λ x y. ne y)))))

-- ---- by what the descriptor holds: a file of the caller's cell, or another thing

module _ (r : Addr → ℕ) (p d f : ℕ) where
  abbrev held : ℕ
  held = r (at process p (held_at file d))

  named-is : names r p f d ≡ true → (class_of held ≡ class file) × (index_of held ≡ f)
  unfolding names
  named-is t = (
    eqb-true _ _ (and_left (eqb (class_of held) (class file)) (eqb (index_of held) f) t),
    eqb-true _ _ (and_right (eqb (class_of held) (class file)) (eqb (index_of held) f) t),
  )

  is-named : class_of held ≡ class file → index_of held ≡ f → names r p f d ≡ true
  unfolding names
  is-named a b = and_both _ _ (eq-eqb _ _ a) (eq-eqb _ _ b)

  -- an empty descriptor names none
  none-empty : held ≡ 0 → names r p f d ≡ false
  none-empty e = refuted _ (λ t. class-some _ (class file) (class-pos file) (named-is t).0 e)

module _ (h : List ℕ) (sh : Shape h) (p s : ℕ) where
  -- s is an object of the process's cell
  pub record Here (k : Kind) : Type 0 where
    pub form : formed h k s ≡ true
    pub same-cell : cell_of h k (index_of s) ≡ cell_of h process p
    pub in-range : index_of s < slots h k
    pub run : InRun h k (cell_of h process p) (index_of s)

  pub is-here : (k : Kind) → here h p k s ≡ true → Here k
  unfolding here
  is-here k e =
      let f = and_left (formed h k s) (in_own_cell h p k s) e in
      let c = eqb-true _ _ (and_right (formed h k s) (in_own_cell h p k s) e) in
      let l = (is-formed _ _ s f).index_in in
      let x = in-run h sh k (index_of s) l in
      record { form = f; same-cell = c; in-range = l; run = rw (← c) (record { low = x.1; high = x.2 }) }

  module _ (r : Addr → ℕ) (d f : ℕ) (e : r (at process p (held_at file d)) ≡ s) where
    -- it names no other
    one-named : (f ≡ index_of s → ⊥) → names r p f d ≡ false
    one-named ne = refuted _ (λ t. ne (sym (named-is r p d f t).1 ∙ ap index_of e))

    it-named : formed h file s ≡ true → f ≡ index_of s → names r p f d ≡ true
    it-named form i = is-named r p d f (ap class_of e ∙ (is-formed _ _ s form).class-is) (ap index_of e ∙ sym i)

    -- another thing names none of the cell
    none_here : (class_of s ≡ class file → formed h file s ≡ true) → here h p file s ≡ false → cell_of h process p < cells h → InRun h file (cell_of h process p) f
        → names r p f d ≡ false
    unfolding here
    none_here ok n l x = refuted _ (λ t.
        let a = named-is r p d f t in
        let i : index_of s ≡ f = sym (ap index_of e) ∙ a.1 in
        let c : cell_of h file (index_of s) ≡ cell_of h process p = ap (cell_of h file) i ∙ run-cell h sh file (cell_of h process p) f l x in
        both_ways _ (and_both (formed h file s) (in_own_cell h p file s) (ok (sym (ap class_of e) ∙ a.0)) (eq-eqb _ _ c)) n)

module _ (h : List ℕ) (sh : Shape h) (r q : Addr → ℕ) (w : List ℕ) (p d s : ℕ) (pl : p < slots h process) (dl : d < entries) (one : OneEntry r q p d)
    (right : Right h r w) (ok : class_of s ≡ class file → formed h file s ≡ true) where
  -- calls 7 and 8: an empty descriptor comes to hold s
  pub opened-right : r (at process p (held_at file d)) ≡ 0 → q (at process p (held_at file d)) ≡ s → Right h q (marked_by h p s d w)
  unfolding marked_by
  opened-right was now = cond_both (Right h q) (here h p file s) _ _
      (λ e. let x = is-here h sh p s file e in
      mark-right h sh r q w p d pl dl one right (index_of s) x.run (λ f ne. none-empty r p d f was ∙ sym (one-named h sh p s q d f now ne))
      (none-empty r p d (index_of s) was) (it-named h sh p s q d (index_of s) now x.form refl))
      (λ e. none_named h sh r q w p d pl dl one right (λ f x. none-empty r p d f was ∙ sym (none_here h sh p s q d f now ok e (in-run h sh process p pl).0 x)))

  -- calls 2 and 9: one that holds s becomes empty
  pub closed-right : r (at process p (held_at file d)) ≡ s → q (at process p (held_at file d)) ≡ 0 → Right h q (unmarked_by h p s d w)
  unfolding unmarked_by
  closed-right was now = cond_both (Right h q) (here h p file s) _ _
      (λ e. let x = is-here h sh p s file e in
      unmark-right h sh r q w p d pl dl one right (index_of s) x.run (λ f ne. one-named h sh p s r d f was ne ∙ sym (none-empty q p d f now))
      (it-named h sh p s r d (index_of s) was x.form refl) (none-empty q p d (index_of s) now))
      (λ e. none_named h sh r q w p d pl dl one right (λ f x. none_here h sh p s r d f was ok e (in-run h sh process p pl).0 x ∙ sym (none-empty q p d f now)))
