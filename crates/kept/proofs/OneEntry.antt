-- A change of one entry, and of the object that it names or named, that keeps a reading fine.
use mathlib.Core.Path.{◌≡◌, refl, sym, ap, ◌∙◌}
use mathlib.Core.Bool.{false}
use mathlib.Core.List.{List}
use Prim.Native.Nat.{ℕ, ◌+◌, ◌-◌, ◌≤◌, ◌<◌}
use native.Mathlib.Omega.{arith}
use native.Mathlib.Decide.{ℕ_discrete}
use Rattle.rules.specs.Layout.{Kind, process, segment, file, slots, Addr, at, live, serial, queue, entries, held_at, used_at, messages_at, message_at, pages, page_at, bits, holders}
use Rattle.rules.specs.Seid.{class, index_of}
use Rattle.rules.specs.WellFormed.{own_entry, own_entries}
use Rattle.laws.proofs.Seids.{is-formed}
use Rattle.laws.proofs.Object.{Object, no-process}
use Rattle.kept.proofs.Fine.{Paged, AliveProcess, Own, EntryAt, Fine}
use Rattle.kept.proofs.Records.{by_kind, by-slot, by-record}
use Rattle.kept.proofs.Counting.{one, named-is, named-counted, count-all, count-entry}
use Rattle.kept.proofs.Made.{place, placed, place-apart}
use Rattle.kept.proofs.Readings.{paged-same, own_same, live-process, Grown, Steady, held_kept, entry_kept, same-steady}

-- a segment s entered at d anew is held by no other entry of process p
abbrev pub Fresh : (Addr → ℕ) → Kind → ℕ → ℕ → ℕ → Type 0
Fresh r process p d s = Unit {0}
Fresh r file p d s = Unit {0}
Fresh r segment p d s = (e : ℕ) → e < entries → (e ≡ d → ⊥) → (s ≡ 0 → ⊥) → r (at process p (held_at segment e)) ≡ s → ⊥

-- a designator whose entry is emptied is on no page
abbrev pub Unmapped : (Addr → ℕ) → Kind → ℕ → ℕ → ℕ → Type 0
Unmapped r process p d s = Unit {0}
Unmapped r file p d s = Unit {0}
Unmapped r segment p d s = s ≡ 0 → (g : ℕ) → g < pages → r (at process p (page_at g)) ≡ d + 1 → ⊥

pub still-filled : (r : Addr → ℕ) (k : Kind) (p d s : ℕ) → (s ≡ 0 → ⊥) → Unmapped r k p d s
still-filled r process p d s n = tt
still-filled r file p d s n = tt
still-filled r segment p d s n = λ z. absurd (n z)

module _ (h : List ℕ) (r q : Addr → ℕ) where
  pub record EntryChanged (k : Kind) (p d i : ℕ) : Type 0 where
    pub others : (l : Kind) (m j : ℕ) → (l ≡ process → m ≡ p → ⊥) → (l ≡ k → m ≡ i → ⊥) → q (at l m j) ≡ r (at l m j)
    pub beside : (j : ℕ) → (j ≡ held_at k d → ⊥) → (j ≡ used_at k d → ⊥) → q (at process p j) ≡ r (at process p j)
    pub fresh : Fresh r k p d (q (at process p (held_at k d)))
    pub unmapped : Unmapped r k p d (q (at process p (held_at k d)))
    pub entry-ok : EntryAt h q k p d
    pub own-object : i < slots h k → Own h q k i
    pub serial-grown : r (at k i serial) ≤ q (at k i serial)
    pub steady : 1 ≤ q (at k i (holders k)) → Steady h r q k i
    -- no other object gains or loses
    pub old-names : (m : ℕ) → (m ≡ i → ⊥) → own_entry h r k m p d ≡ false
    pub new-names : (m : ℕ) → (m ≡ i → ⊥) → own_entry h q k m p d ≡ false
    pub holders-follow : q (at k i (holders k)) + one (own_entry h r k i p d) ≡ r (at k i (holders k)) + one (own_entry h q k i p d)

  module _ (w : Fine h r) (k : Kind) (o : Object k) (p d i : ℕ) (pl : p < slots h process) (alive : r (at process p live) ≡ 1) (dl : d < entries)
      (x : EntryChanged k p d i) where
    -- a process's word that is no part of the entry
    process-word : (g j : ℕ) → (g ≡ p → (j ≡ held_at k d → ⊥) × (j ≡ used_at k d → ⊥)) → q (at process g j) ≡ r (at process g j)
    process-word = by-slot (λ g. (j : ℕ) → (g ≡ p → (j ≡ held_at k d → ⊥) × (j ≡ used_at k d → ⊥)) → q (at process g j) ≡ r (at process g j)) p
        (λ j n. x.beside j (n refl).0 (n refl).1) (λ g n j m. x.others process g j (λ e f. n f) (λ e f. no-process k o (sym e)))

    outside : (g j : ℕ) → (8 ≤ j → j < messages_at → ⊥) → q (at process g j) ≡ r (at process g j)
    outside g j n = let a = placed k o d dl in process-word g j (λ e. (λ f. n (omega arith) (omega arith), λ f. n (omega arith) (omega arith)))

    -- another entry's words
    entry-words : (l : Kind) → Object l → (g e : ℕ) → e < entries → (l ≡ k → g ≡ p → e ≡ d → ⊥)
        → (q (at process g (held_at l e)) ≡ r (at process g (held_at l e))) × (q (at process g (used_at l e)) ≡ r (at process g (used_at l e)))
    entry-words l s g e el n =
        let a = placed k o d dl in
        let b = placed l s e el in
        let ne : g ≡ p → place l e ≡ place k d → ⊥ = λ gp. place-apart l k s o e d el dl (λ lk ed. n lk gp ed) in
        (process-word g (held_at l e) (λ gp. (λ f. ne gp (omega arith), λ f. omega arith)), process-word g (used_at l e) (λ gp. (λ f. omega arith, λ f. ne gp (omega arith))))

    pub entry-grown : Grown h r q
    entry-grown = by-record (λ l m. m < slots h l → r (at l m serial) ≤ q (at l m serial)) k i (λ l. x.serial-grown)
        (λ l m n. by-record (λ l m. (l ≡ k → m ≡ i → ⊥) → m < slots h l → r (at l m serial) ≤ q (at l m serial)) process p
        (λ n b. omega (arith, outside p serial (λ a b. omega arith))) (λ l m n n' b. omega (arith, x.others l m serial n n')) l m n)

    -- counts
    count-now : (l : Kind) → Object l → (m : ℕ) → m < slots h l → q (at l m (holders l)) ≡ own_entries h q l m
    count-now = by_kind (λ l. Object l → (m : ℕ) → m < slots h l → q (at l m (holders l)) ≡ own_entries h q l m) k
        (λ s. by-slot (λ m. m < slots h k → q (at k m (holders k)) ≡ own_entries h q k m) i
        (λ b. omega (arith, moved i, w.counted k o i b, x.holders-follow))
        (λ m n b. other m n b))
        (λ l n s m b. x.others l m (holders l) (λ e f. no-process l s e) (λ e f. n e) ∙ w.counted l s m b
        ∙ sym (count-all h r q l (λ g e gl el. (entry-words l s g e el (λ lk gp ed. n lk)).0) m))
      where
        moved : (m : ℕ) → own_entries h q k m + one (own_entry h r k m p d) ≡ own_entries h r k m + one (own_entry h q k m p d)
        moved m = count-entry h r q k p d pl dl (λ g e gl el n. (entry-words k o g e el (λ lk gp ed. n gp ed)).0) m

        other : (m : ℕ) → (m ≡ i → ⊥) → m < slots h k → q (at k m (holders k)) ≡ own_entries h q k m
        other m n b =
            let c = rw (x.old-names m n, x.new-names m n) at (moved m) in
            omega (arith, w.counted k o m b, x.others k m (holders k) (λ e f. no-process k o e) (λ e f. n f))

    -- an entry that does not change
    other-entry : (l : Kind) → Object l → (g e : ℕ) → g < slots h process → e < entries → (l ≡ k → g ≡ p → e ≡ d → ⊥) → EntryAt h q l g e
    other-entry l s g e gl el n =
        let v = r (at process g (held_at l e)) in
        let words = entry-words l s g e el n in
        rw (words.0, words.1) (entry_kept h r q entry-grown l _ _ _ (λ some c.
        let f = is-formed _ _ v ((w.entry l s g e gl el).held some).form in
        let many : 1 ≤ q (at l (index_of v) (holders l)) =
        rw (count-now l s (index_of v) f.index_in) (named-counted h q l (index_of v) g e gl el
        (named-is h q l g e (index_of v) (record { same-cell = c; same_class = rw words.0 f.class-is; same_index = rw words.0 }))) in
        by-record (λ l m. Object l → 1 ≤ q (at l m (holders l)) → Steady h r q l m) k i (λ s. x.steady)
        (λ l m n s a. same-steady h r q l m (λ j. x.others l m j (λ e f. no-process l s e) n)) l (index_of v) s many) (w.entry l s g e gl el))

    all-entries : (l : Kind) → Object l → (g e : ℕ) → g < slots h process → e < entries → EntryAt h q l g e
    all-entries = by_kind (λ l. Object l → (g e : ℕ) → g < slots h process → e < entries → EntryAt h q l g e) k
        (λ s. by-slot (λ g. (e : ℕ) → g < slots h process → e < entries → EntryAt h q k g e) p
        (by-slot (λ e. p < slots h process → e < entries → EntryAt h q k p e) d (λ gl el. x.entry-ok) (λ e n gl el. other-entry k o p e gl el (λ a b c. n c)))
        (λ g n e gl el. other-entry k o g e gl el (λ a b c. n b)))
        (λ l n s g e gl el. other-entry l s g e gl el (λ a b c. n a))

    -- the process itself
    once-now : (k : Kind) → Object k → Fresh r k p d (q (at process p (held_at k d)))
        → ((l : Kind) → Object l → (e : ℕ) → e < entries → (l ≡ k → e ≡ d → ⊥) → q (at process p (held_at l e)) ≡ r (at process p (held_at l e)))
        → AliveProcess h r p → (e f : ℕ) → e < entries → f < entries → (e ≡ f → ⊥) → (q (at process p (held_at segment f)) ≡ 0 → ⊥)
        → q (at process p (held_at segment e)) ≡ q (at process p (held_at segment f)) → ⊥
    once-now process s fresh same a e f el fl n some eq = absurd s
    once-now file s fresh same a e f el fl n some eq =
        let x = same segment tt e el (λ z. omega (arith, ap class z)) in
        let y = same segment tt f fl (λ z. omega (arith, ap class z)) in
        a.once e f el fl n (λ z. some (y ∙ z)) (sym x ∙ eq ∙ y)
    once-now segment s fresh same a e f el fl n some eq = elim (ℕ_discrete e d) [
      | yes ed ↦ let y = same segment tt f fl (λ z w. n (ed ∙ sym w)) in
          let eq' : q (at process p (held_at segment d)) ≡ r (at process p (held_at segment f)) = (rw ed at eq) ∙ y in
          fresh f fl (λ fd. n (ed ∙ sym fd)) (λ z. some (y ∙ sym eq' ∙ z)) (sym eq')
      | no nd ↦ elim (ℕ_discrete f d) [
        | yes fd ↦ let x = same segment tt e el (λ z. nd) in
            let eq' : r (at process p (held_at segment e)) ≡ q (at process p (held_at segment d)) = sym x ∙ (rw fd at eq) in
            fresh e el nd (rw fd at some) eq'
        | no ne ↦ let x = same segment tt e el (λ z. nd) in
            let y = same segment tt f fl (λ z. ne) in
            a.once e f el fl n (λ z. some (y ∙ z)) (sym x ∙ eq ∙ y)
      ]
    ]

    paged-now : (k : Kind) → Object k → Unmapped r k p d (q (at process p (held_at k d)))
        → ((l : Kind) → Object l → (e : ℕ) → e < entries → (l ≡ k → e ≡ d → ⊥) → q (at process p (held_at l e)) ≡ r (at process p (held_at l e)))
        → (g : ℕ) → g < pages → Paged r p (r (at process p (page_at g))) → Paged q p (r (at process p (page_at g)))
    paged-now process s off same g gl y = absurd s
    paged-now file s off same g gl y = paged-same h r q p _ (λ e el. same segment tt e el (λ z. absurd (omega (arith, ap class z)))) y
    paged-now segment s off same g gl y = λ n.
        let v = y n in
        let e : ℕ = r (at process p (page_at g)) - 1 in (
          v.0,
          λ z. elim (ℕ_discrete e d) [
            | yes ed ↦ off (rw ed at z) g gl (omega arith)
            | no nd ↦ v.1 (sym (same segment tt e (omega (arith, v.0)) (λ a. nd)) ∙ z)
          ],
        )

    process-now : Own h q process p
    process-now =
        let own = w.own process p pl in
        let a = own.alive alive in
        let e5 = outside p queue (λ a b. omega arith) in
        live-process h r q p alive own (λ j l n m. outside p j (λ a b. omega arith)) (rw e5 a.queue-fits) (rw (outside p (bits process) (λ a b. omega arith)) a.bits_fit)
        (once-now k o x.fresh (λ l s e el n. (entry-words l s p e el (λ lk gp ed. n lk ed)).0) a)
        (λ m j ml jl full. outside p (message_at m j) (λ a b. omega arith) ∙ a.unused m j ml jl (rw e5 at full))
        (λ g gl. rw (outside p (page_at g) (λ a b. omega arith)) (paged-now k o x.unmapped (λ l s e el n. (entry-words l s p e el (λ lk gp ed. n lk ed)).0) g gl
        (a.paged g gl)))

    pub entry-changed : Fine h q
    entry-changed = record {
      own = by-record (λ l m. m < slots h l → Own h q l m) k i x.own-object
          (λ l m n. by-record (λ l m. (l ≡ k → m ≡ i → ⊥) → m < slots h l → Own h q l m) process p (λ n b. process-now)
          (λ l m n n' b. own_same h r q l m (λ j jl. x.others l m j n n') (w.own l m b)) l m n);
      entry = all-entries;
      sender = λ g m gl ml. rw (outside g (message_at m 0) (λ a b. omega arith))
          (held_kept h r q entry-grown process _ _ (w.sender g m gl (rw (outside g queue (λ a b. omega arith)) at ml)));
      counted = count-now;
    }
