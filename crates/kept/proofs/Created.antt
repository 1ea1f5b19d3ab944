-- An object created in a free slot of the caller's cell, with one entry of the caller's for it.
use mathlib.Core.Path.{◌≡◌, refl, sym, ap, ◌∙◌}
use mathlib.Core.Bool.{true, cond}
use mathlib.Core.List.{List, [], ◌∷◌, ◌++◌}
use Prim.Native.Nat.{ℕ, ◌+◌, ◌≤◌, ◌<◌}
use native.Mathlib.Omega.{arith}
use lib.Dec.{eqb}
use borrow.Author.Tests.{lt-ltb}
use Rattle.rules.specs.Layout.{max_bits, Kind, process, segment, file, cells, slots, level_of, cell_of, flows, Addr, at, serial, owner, group, entries, held_at, subtype, holders}
use Rattle.rules.specs.Seid.{class, class_of, index_of, serial_of, seid}
use Rattle.rules.specs.WellFormed.{valid_use}
use Rattle.rules.specs.Rule.{Word, ◌≔◌, over}
use Rattle.rules.specs.Find.{entered}
use Rattle.laws.proofs.Seids.{class-seid, index-seid, serial-seid, made-formed, seid-some, class-pos}
use Rattle.laws.proofs.Shape.{in-run}
use Rattle.laws.proofs.Subtypes.{class-object}
use Rattle.laws.proofs.Written.{AllOf, nil, all_append, over-append}
use Rattle.levels.proofs.Flow.{reflexive}
use Rattle.laws.proofs.Object.{Object}
use Rattle.kept.proofs.Fine.{Particular, Subtyped, Own, object-alive}
use Rattle.kept.proofs.Records.{InRecord, word_in, word_at, word-past, same-record}
use Rattle.kept.proofs.Counting.{named-is, empty-named}
use Rattle.kept.proofs.Made.{object-words, live-record}
use Rattle.kept.proofs.OneEntry.{Fresh, still-filled}
use Rattle.kept.proofs.Keeps.{Keeps, Caller}
use Rattle.kept.proofs.Exchange.{object-first}
use Rattle.laws.proofs.Slots.{FreeSlot}
use Rattle.kept.proofs.Found.{FreeEntry}
use Rattle.kept.proofs.Entries.{new-entry}

-- ---- a cell flows to itself

flows-itself : (h : List ℕ) (c : ℕ) → c < cells h → flows h c c ≡ true
unfolding flows
flows-itself h c l = rw (lt-ltb c (cells h) l, reflexive (level_of h c))

-- ---- the words of a new object: eight, and a file's subtype

abbrev eight : Kind → ℕ → ℕ → ℕ → ℕ → ℕ → ℕ → ℕ → List Word
eight k i s u g b x y =
    (at k i 0 ≔ 1) ∷ (at k i 1 ≔ s) ∷ (at k i 2 ≔ u) ∷ (at k i 3 ≔ g) ∷ (at k i 4 ≔ b) ∷ (at k i 5 ≔ x) ∷ (at k i 6 ≔ y) ∷ (at k i 7 ≔ 1) ∷ []

abbrev ninth : Kind → ℕ → ℕ → List Word
ninth process i t = []
ninth segment i t = []
ninth file i t = (at file i subtype ≔ t) ∷ []

abbrev pub made : Kind → ℕ → ℕ → ℕ → ℕ → ℕ → ℕ → ℕ → ℕ → List Word
made k i s u g b x y t = eight k i s u g b x y ++ ninth k i t

ninth-in : (k : Kind) (i t : ℕ) → AllOf (InRecord k i) (ninth k i t)
ninth-in process i t = nil
ninth-in segment i t = nil
ninth-in file i t = word_in file i subtype t (omega arith) nil

ninth-past : (k : Kind) (i t : ℕ) (r : Addr → ℕ) (j : ℕ) → j < subtype → over r (ninth k i t) (at k i j) ≡ r (at k i j)
unfolding over
ninth-past process i t r j l = refl
ninth-past segment i t r j l = refl
ninth-past file i t r j l = word-past r file i subtype t j (λ e. omega arith)

ninth-ok : (h : List ℕ) (k : Kind) (i t : ℕ) (r : Addr → ℕ) → Subtyped h k i t → Subtyped h k i (over r (ninth k i t) (at k i subtype))
ninth-ok h process i t r a = tt
ninth-ok h segment i t r a = tt
ninth-ok h file i t r a = rw (word_at r file i subtype t) a

module _ (k : Kind) (o : Object k) (i s u g b x y t : ℕ) where
  eight-in : AllOf (InRecord k i) (eight k i s u g b x y)
  eight-in =
      let w = object-words k o in
      word_in k i 0 1 (omega arith) (word_in k i 1 s (omega arith) (word_in k i 2 u (omega arith) (word_in k i 3 g (omega arith)
      (word_in k i 4 b (omega arith) (word_in k i 5 x (omega arith) (word_in k i 6 y (omega arith) (word_in k i 7 1 (omega arith) nil)))))))

  pub made_in : AllOf (InRecord k i) (made k i s u g b x y t)
  made_in = all_append (ninth k i t) eight-in (ninth-in k i t)

  eight-word : (r : Addr → ℕ) (j : ℕ) → over r (eight k i s u g b x y) (at k i j)
      ≡ cond (eqb j 7) 1 (cond (eqb j 6) y (cond (eqb j 5) x (cond (eqb j 4) b (cond (eqb j 3) g (cond (eqb j 2) u (cond (eqb j 1) s (cond (eqb j 0) 1 (r (at k i j)))))))))
  unfolding over
  eight-word r j = simp same-record

  pub made_word : (r : Addr → ℕ) (j : ℕ) → j < subtype → over r (made k i s u g b x y t) (at k i j)
      ≡ cond (eqb j 7) 1 (cond (eqb j 6) y (cond (eqb j 5) x (cond (eqb j 4) b (cond (eqb j 3) g (cond (eqb j 2) u (cond (eqb j 1) s (cond (eqb j 0) 1 (r (at k i j)))))))))
  made_word r j l = rw (over-append r (eight k i s u g b x y) (ninth k i t)) (ninth-past k i t (over r (eight k i s u g b x y)) j l ∙ eight-word r j)

  made-subtype : (h : List ℕ) (r : Addr → ℕ) → Subtyped h k i t → Subtyped h k i (over r (made k i s u g b x y t) (at k i subtype))
  made-subtype h r a = rw (over-append r (eight k i s u g b x y) (ninth k i t)) (ninth-ok h k i t (over r (eight k i s u g b x y)) a)

-- a new file's subtype
pub made-subtyped : (i s u g b x y t : ℕ) (r : Addr → ℕ) → over r (made file i s u g b x y t) (at file i subtype) ≡ t
made-subtyped i s u g b x y t r = rw (over-append r (eight file i s u g b x y) (ninth file i t)) (word_at (over r (eight file i s u g b x y)) file i subtype t)

module _ (h : List ℕ) (r : Addr → ℕ) (p : ℕ) (c : Caller h r p) (k : Kind) (o : Object k) (i d u b x y t : ℕ) (f : FreeSlot h r k (cell_of h process p) i) (e : FreeEntry r k p d)
    (bits_fit : b ≤ max_bits) (particular : Particular h k x y) (subtyped : Subtyped h k i t) (valid : valid_use k u ≡ true) where
  abbrev next : ℕ
  next = r (at k i serial) + 1

  abbrev new : ℕ
  new = seid (class k) i next

  abbrev words : List Word
  words = made k i next (r (at process p owner)) (r (at process p group)) b x y t

  small : i < 256
  small = omega (arith, f.in-range, c.shape.few k)

  fits : next < 65536
  fits = omega (arith, f.not-worn)

  word : (j : ℕ) → j < subtype → over r words (at k i j)
      ≡ cond (eqb j 7) 1 (cond (eqb j 6) y (cond (eqb j 5) x (cond (eqb j 4) b (cond (eqb j 3) (r (at process p group)) (cond (eqb j 2) (r (at process p owner))
      (cond (eqb j 1) next (cond (eqb j 0) 1 (r (at k i j)))))))))
  word = made_word k o i next (r (at process p owner)) (r (at process p group)) b x y t r

  count-is : over r words (at k i (holders k)) ≡ 1
  count-is = let w = object-words k o in rw w.holders-at (word 7 (omega arith))

  own_new : Own h (over r words) k i
  own_new =
      let me = c.fine.own process p c.in-range in
      let w1 = word 1 (omega arith) in
      live-record (over r words) k i _ (word 0 (omega arith)) (rw w1 (omega arith)) (rw w1 (omega (arith, f.not-worn)))
      (rw (word 2 (omega arith)) me.owner-fits) (rw (word 3 (omega arith)) me.group-fits)
      (object-alive h (over r words) k i o (record {
        bits_fit = rw ((object-words k o).bits_at, word 4 (omega arith)) bits_fit;
        particular = rw (word 5 (omega arith), word 6 (omega arith)) particular;
        needed = λ z. rw count-is (omega arith);
        subtype-ok = made-subtype k o i next _ _ b x y t h r subtyped;
      }))

  -- no entry holds a serial that has not been given
  unheld : (a : ℕ) → a < entries → r (at process p (held_at k a)) ≡ new → ⊥
  unheld a l q =
      let v : ℕ = r (at process p (held_at k a)) in
      let known = ((c.fine.entry k o p a c.in-range l).held (class-object k v (ap class_of q ∙ class-seid (class k) i next small fits))).serial-known in
      let is : serial_of v ≡ next = ap serial_of q ∙ serial-seid (class k) i next small fits in
      let ix : index_of v ≡ i = ap index_of q ∙ index-seid (class k) i next small fits in
      omega (arith, rw ix at known)

  fresh-for : (k : Kind) → ((a : ℕ) → a < entries → r (at process p (held_at k a)) ≡ new → ⊥) → Fresh r k p d new
  fresh-for process n = tt
  fresh-for file n = tt
  fresh-for segment n = λ a l ad some q. n a l q

  pub created : Keeps h r (words ++ entered k p d new u)
  created =
      let ix : index_of new ≡ i = index-seid (class k) i next small fits in
      let cell : cell_of h k (index_of new) ≡ cell_of h process p = rw ix f.in_cell in
      let w = object-words k o in
      object-first h r c.fine k o p d i new u c.in-range c.alive e.in-record (record {
        in-range = f.in-range;
        in-record = made_in k o i next (r (at process p owner)) (r (at process p group)) b x y t;
        own-after = own_new;
        grown-after = rw (word 1 (omega arith)) (omega arith);
        steady-after = λ a l. absurd (omega (arith, f.is_free));
        fresh = fresh-for k unheld;
        unmapped = still-filled r k p d new (seid-some (class k) i next (class-pos k));
        entry-after = new-entry h (over r words) k _ new u (made-formed (class k) (slots h k) i next f.in-range (omega (arith, c.shape.few k)) (omega arith) fits)
            (rw ix (word 0 (omega arith))) (rw ix (word 1 (omega arith) ∙ sym (serial-seid (class k) i next small fits)))
            (rw cell (flows-itself h (cell_of h process p) (in-run h c.shape process p c.in-range).0)) valid (λ z. cell);
        old-index = λ n. absurd (n.0 e.is-empty);
        new-index = λ n. ix;
        counts = λ q z.
            rw (
              empty-named h r k p d i e.is-empty,
              count-is,
              named-is h q k p d i (record { same-cell = f.in_cell; same_class = ap class_of z ∙ class-seid (class k) i next small fits; same_index = ap index_of z ∙ ix }),
            )
            (omega (arith, (c.fine.own k i f.in-range).free f.is_free (holders k) (omega arith) (omega arith)));
      })
