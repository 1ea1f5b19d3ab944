-- Call 2 makes the lists of a cell and the masks of one of its processes anew: right again, where nothing else changed that the slice looks at.
use mathlib.Core.Path.{◌≡◌, refl, sym, ap, ◌∙◌}
use mathlib.Core.List.{List}
use mathlib.Core.Logic.{◌⊎◌, inl, inr}
use Prim.Native.Nat.{ℕ, ◌+◌, ◌-◌, ◌≤◌, ◌<◌}
use native.Mathlib.Omega.{arith}
use native.Mathlib.Decide.{ℕ_discrete}
use lib.ListN.{length, get_or}
use lib.Seq.{ext_get_or, sets, length-sets}
use Rattle.rules.specs.Words.{sum_below}
use Rattle.rules.specs.Layout.{Kind, process, segment, file, slots, cells, cell_slots, first_slot, cell_of, Addr, at, Valid, live, serial, entries, held_at}
use Rattle.rules.specs.Find.{can_take}
use Rattle.rules.specs.Work.{key_at, free_keys, mask, names, masks}
use Rattle.laws.proofs.Cells.{cell-run, run_end}
use Rattle.laws.proofs.Shape.{Shape, words-some}
use Rattle.laws.proofs.Stored.{sets-in, sets-out}
use Rattle.kept.proofs.Records.{by_kind}
use Rattle.lists.specs.Region.{Shows, Beside, Listed}
use Rattle.lists.proofs.Lists.{sorted-length, shows-apart}
use Rattle.lists.proofs.Shown.{shows-put}
use Rattle.marks.proofs.Bits.{mask-same}
use Rattle.follow.specs.Right.{list_at, rows_at, rows_to, mark_at, mark_of, Right}
use Rattle.follow.specs.Followed.{listed_anew, masked_anew, after_release}
use Rattle.follow.proofs.Places.{far, before-rows, run-apart, mark-inj, mark-inside}
use Rattle.follow.proofs.One.{keys-same}
use Rattle.follow.proofs.Made.{masks-length, masks-word}

-- q is r but for the slots of cell c, and for the descriptors of process i, as far as the slice looks
pub record OneCell (h : List ℕ) (r q : Addr → ℕ) (c i : ℕ) : Type 0 where
  pub lives : (k : Kind) (j : ℕ) → (cell_of h k j ≡ c → ⊥) → q (at k j live) ≡ r (at k j live)
  pub serials : (k : Kind) (j : ℕ) → (cell_of h k j ≡ c → ⊥) → q (at k j serial) ≡ r (at k j serial)
  pub held : (o e : ℕ) → e < entries → (o ≡ i → ⊥) → q (at process o (held_at file e)) ≡ r (at process o (held_at file e))

module _ (h : List ℕ) (r q : Addr → ℕ) (c i : ℕ) (cl : c < cells h) (lo : first_slot h process c ≤ i) (hi : i < first_slot h process c + cell_slots h process c)
    (one : OneCell h r q c i) where
  -- the list of a cell is q's
  abbrev Shown : List ℕ → Kind → ℕ → Type 0
  Shown w k e = Shows w (list_at h k e) (cell_slots h k e) (free_keys h q k e)

  keys-other : (k : Kind) (e : ℕ) → e < cells h → (e ≡ c → ⊥) → free_keys h r k e ≡ free_keys h q k e
  keys-other k e l other = keys-same h r q k e (λ j a b.
      let ne : cell_of h k j ≡ c → ⊥ = λ z. other (sym (cell-run h k j e l a b) ∙ z) in
      (one.lives k j ne, one.serials k j ne))

  -- the lists are q's, those of cell c for the kinds of the set D; the masks are still r's
  record Listing (D : Kind → Type 0) (w : List ℕ) : Type 0 where
    size : length w ≡ rows_at h + rows_to h (cells h)
    lists : (k : Kind) (e : ℕ) → e < cells h → (e ≡ c → D k) → Shown w k e
    marks : (e f o : ℕ) → e < cells h → f < cell_slots h file e → o < cell_slots h process e
        → get_or w (mark_at h e f o) 0 ≡ mask (names r (first_slot h process e + o) (first_slot h file e + f)) entries 0

  begin : (w : List ℕ) → Right h r w → Listing (λ k. ⊥) w
  begin w x = record {
    size = x.size;
    lists = λ k e l other. rw (← keys-other k e l other) (x.lists k e l);
    marks = x.marks;
  }

  -- one list more
  module _ (D : Kind → Type 0) (w : List ℕ) (x : Listing D w) (k : Kind) where
    laid : Listed w (listed_anew h q k c w) (list_at h k c) (cell_slots h k c) (free_keys h q k c)
    unfolding listed_anew free_keys mark_at rows_to sum_below
    laid = shows-put (free_keys h q k c) (cell_slots h k c) w (list_at h k c) (sorted-length (can_take q k) (key_at q k) (cell_slots h k c) (first_slot h k c))
        (omega (arith, before-rows h k c 0 0 0 cl, x.size))

    listed : Listing (λ m. D m ⊎ (m ≡ k)) (listed_anew h q k c w)
    listed = record {
      size = laid.beside.size ∙ x.size;
      lists = λ m e l done. elim (ℕ_discrete e c) [
        | yes ec ↦ rw ec (by_kind (λ m. D m ⊎ (m ≡ k) → Shown (listed_anew h q k c w) m c) k (λ d. laid.shows)
            (λ m ne d. still m c cl (λ a b. ne a) (λ z. earlier m ne d)) m (done ec))
        | no ne ↦ still m e l (λ a b. ne b) (λ z. absurd (ne z))
      ];
      marks = λ e f o el fl ol. laid.beside.rest (mark_at h e f o) (λ a b. omega (arith, before-rows h k c e f o cl)) ∙ x.marks e f o el fl ol;
    }
      where
        earlier : (m : Kind) → (m ≡ k → ⊥) → D m ⊎ (m ≡ k) → D m
        earlier m ne (inl d) = d
        earlier m ne (inr e) = absurd (ne e)

        still : (m : Kind) (e : ℕ) → e < cells h → (m ≡ k → e ≡ c → ⊥) → (e ≡ c → D m) → Shown (listed_anew h q k c w) m e
        still m e l ne done =
            shows-apart w (listed_anew h q k c w) (list_at h m e) (cell_slots h m e) (free_keys h q m e) (list_at h k c) (cell_slots h k c)
            (x.lists m e l done) laid.beside (far h m k e c l cl ne)

  -- the masks of process i, once all lists are made
  abbrev place : ℕ
  place = i - first_slot h process c

  within : place < cell_slots h process c
  within = omega arith

  module _ (w : List ℕ) (x : Listing (λ k. Unit {0}) w) where
    starts : mark_of h i (first_slot h file c) ≡ mark_at h c 0 place
    unfolding mark_of
    starts =
        let e : cell_of h process i ≡ c = cell-run h process i c cl lo hi in
        let z : first_slot h file c - first_slot h file c ≡ 0 = omega arith in
        rw (e, z)

    from_start : (f : ℕ) → mark_at h c 0 place + f ≡ mark_at h c f place
    unfolding mark_at
    from_start f = omega arith

    anew : masked_anew h q c i w ≡ sets w (mark_at h c 0 place) (masks h q c i)
    unfolding masked_anew
    anew = rw starts

    put_in : (f : ℕ) → f < cell_slots h file c → get_or (masked_anew h q c i w) (mark_at h c f place) 0 ≡ mask (names q i (first_slot h file c + f)) entries 0
    put_in f l =
        rw (anew, ← from_start f) (sets-in (masks h q c i) w (mark_at h c 0 place) f (omega (arith, masks-length h q c i))
        (rw (from_start f) (omega (arith, x.size, mark-inside h c f place cl l within))) ∙ masks-word h q c i f l)

    put-out : (k : ℕ) → (mark_at h c 0 place ≤ k → k < mark_at h c 0 place + cell_slots h file c → ⊥) → get_or (masked_anew h q c i w) k 0 ≡ get_or w k 0
    put-out k out = rw anew (sets-out (masks h q c i) w (mark_at h c 0 place) k (λ a b. out a (omega (arith, masks-length h q c i))))

    put-length : length (masked_anew h q c i w) ≡ length w
    put-length = rw anew (length-sets w (mark_at h c 0 place) (masks h q c i))

    put-beside : Beside w (masked_anew h q c i w) (mark_at h c 0 place) (cell_slots h file c)
    put-beside = record { size = put-length; rest = λ k out. put-out k (λ a b. out a (omega arith)) }

    -- another process's masks
    mark-other : (e f o : ℕ) → e < cells h → f < cell_slots h file e → o < cell_slots h process e → (e ≡ c → o ≡ place → ⊥)
        → get_or (masked_anew h q c i w) (mark_at h e f o) 0 ≡ mask (names q (first_slot h process e + o) (first_slot h file e + f)) entries 0
    unfolding names
    mark-other e f o el fl ol ne =
        put-out (mark_at h e f o) (λ a b.
        let g : ℕ = mark_at h e f o - mark_at h c 0 place in
        let same : mark_at h e f o ≡ mark_at h c g place = rw (← from_start g) (omega arith) in
        let z = mark-inj h e c f o g place fl ol (omega arith) within same in ne z.0 z.2)
        ∙ x.marks e f o el fl ol
        ∙ mask-same (names r (first_slot h process e + o) (first_slot h file e + f)) (names q (first_slot h process e + o) (first_slot h file e + f)) entries 0
        (λ d a b. rw (one.held (first_slot h process e + o) d (omega arith) another))
      where
        another : first_slot h process e + o ≡ i → ⊥
        another z =
            let ec : e ≡ c = run-apart h process e c i (omega arith) (omega arith) lo hi in
            let same : first_slot h process e ≡ first_slot h process c = ap (first_slot h process) ec in
            ne ec (omega arith)

    masked : Right h q (masked_anew h q c i w)
    masked = record {
      size = put-length ∙ x.size;
      lists = λ k e l.
          shows-apart w (masked_anew h q c i w) (list_at h k e) (cell_slots h k e) (free_keys h q k e) (mark_at h c 0 place) (cell_slots h file c)
          (x.lists k e l (λ z. tt)) put-beside (inl (before-rows h k e c 0 place l));
      marks = λ e f o el fl ol. elim (ℕ_discrete e c) [
        | yes ec ↦ elim (ℕ_discrete o place) [
          | yes op ↦ here e f o ec op fl
          | no np ↦ mark-other e f o el fl ol (λ a b. np b)
        ]
        | no ne ↦ mark-other e f o el fl ol (λ a b. ne a)
      ];
    }
      where
        here : (e f o : ℕ) → e ≡ c → o ≡ place → f < cell_slots h file e
            → get_or (masked_anew h q c i w) (mark_at h e f o) 0 ≡ mask (names q (first_slot h process e + o) (first_slot h file e + f)) entries 0
        here e f o ec op fl =
            let z : first_slot h process c + place ≡ i = omega arith in
            rw (ec, op, z) (put_in f (rw ec at fl))

  pub anew-right : (w : List ℕ) → Right h r w → Right h q (after_release h q c i w)
  unfolding after_release
  anew-right w x =
      let a = listed _ w (begin w x) process in
      let b = listed _ _ a segment in
      let d = listed _ _ b file in
      masked _ (record { size = d.size; lists = λ k e l done. d.lists k e l (λ z. each k); marks = d.marks })
    where
      each : (k : Kind) → ((⊥ ⊎ (k ≡ process)) ⊎ (k ≡ segment)) ⊎ (k ≡ file)
      each process = inl (inl (inr refl))
      each segment = inl (inr refl)
      each file = inr refl

-- ---- readings that agree at every word of a table make them alike

module _ (h : List ℕ) (shape : Shape h) (r q : Addr → ℕ) (same : (a : Addr) → Valid h a → q a ≡ r a) (c i : ℕ) (cl : c < cells h) (il : i < slots h process) where
  keys-read : (k : Kind) → free_keys h r k c ≡ free_keys h q k c
  keys-read k = keys-same h r q k c (λ j a b.
      let l : j < slots h k = omega (arith, run_end h k c cl, shape.sums k) in
      let x = words-some k in
      (same (at k j live) (l, omega arith), same (at k j serial) (l, omega arith)))

  masks-read : masks h r c i ≡ masks h q c i
  unfolding names
  masks-read = ext_get_or 0 (masks h r c i) (masks h q c i) (masks-length h r c i ∙ sym (masks-length h q c i)) (λ f b.
      let l : f < cell_slots h file c = omega (arith, masks-length h r c i) in
      masks-word h r c i f l
      ∙ mask-same (names r i (first_slot h file c + f)) (names q i (first_slot h file c + f)) entries 0
      (λ d lo hi. rw (same (at process i (held_at file d)) (il, omega arith)))
      ∙ sym (masks-word h q c i f l))

  pub anew-reads : (w : List ℕ) → after_release h r c i w ≡ after_release h q c i w
  unfolding after_release listed_anew masked_anew
  anew-reads w = rw (keys-read process, keys-read segment, keys-read file, masks-read)
