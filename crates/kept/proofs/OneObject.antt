-- A change of one object that keeps a reading fine: its serial does not fall, its holders stay, and while it has any it stays live with its serial.
use mathlib.Core.Path.{◌≡◌, refl, sym, ◌∙◌}
use mathlib.Core.List.{List}
use Prim.Native.Nat.{ℕ, ◌≤◌, ◌<◌}
use native.Mathlib.Omega.{arith}
use Rattle.rules.specs.Layout.{Kind, process, slots, cell_of, Addr, at, serial, queue, entries, held_at, used_at, message_at, holders}
use Rattle.rules.specs.Seid.{index_of}
use Rattle.laws.proofs.Seids.{is-formed}
use Rattle.laws.proofs.Shape as shape
use Rattle.laws.proofs.Object.{Object, no-process}
use Rattle.kept.proofs.Fine.{Own, Fine}
use Rattle.kept.proofs.Records.{by-record}
use Rattle.kept.proofs.Counting.{named-is, named-counted, count-all}
use Rattle.kept.proofs.Readings.{own_same, Grown, Steady, held_kept, entry_kept, same-steady}

module _ (h : List ℕ) (r q : Addr → ℕ) where
  pub record ObjectChanged (k : Kind) (i : ℕ) : Type 0 where
    pub others : (l : Kind) (m j : ℕ) → (l ≡ k → m ≡ i → ⊥) → q (at l m j) ≡ r (at l m j)
    pub own-object : Own h q k i
    pub serial-grown : r (at k i serial) ≤ q (at k i serial)
    pub same-holders : q (at k i (holders k)) ≡ r (at k i (holders k))
    pub steady : 1 ≤ r (at k i (holders k)) → Steady h r q k i

  module _ (w : Fine h r) (k : Kind) (o : Object k) (i : ℕ) (il : i < slots h k) (x : ObjectChanged k i) where
    processes-stay : (p j : ℕ) → q (at process p j) ≡ r (at process p j)
    processes-stay p j = x.others process p j (λ e f. no-process k o (sym e))

    pub object-grown : Grown h r q
    object-grown = by-record (λ l m. m < slots h l → r (at l m serial) ≤ q (at l m serial)) k i (λ l. x.serial-grown)
        (λ l m n b. omega (arith, x.others l m serial n))

    -- what an own-cell entry names has holders
    held-steady : (l : Kind) → Object l → (p d : ℕ) → p < slots h process → d < entries → shape.Object l (r (at process p (held_at l d)))
        → cell_of h l (index_of (r (at process p (held_at l d)))) ≡ cell_of h process p → Steady h r q l (index_of (r (at process p (held_at l d))))
    held-steady l s p d pl dl n c =
        let v = r (at process p (held_at l d)) in
        let f = is-formed _ _ v ((w.entry l s p d pl dl).held n).form in
        let some : 1 ≤ r (at l (index_of v) (holders l)) =
        rw (w.counted l s (index_of v) f.index_in) (named-counted h r l (index_of v) p d pl dl
        (named-is h r l p d (index_of v) (record { same-cell = c; same_class = f.class-is; same_index = refl }))) in
        by-record (λ l m. 1 ≤ r (at l m (holders l)) → Steady h r q l m) k i x.steady
        (λ l m n a. same-steady h r q l m (λ j. x.others l m j n)) l (index_of v) some

    pub object-changed : Fine h q
    object-changed = record {
      own = by-record (λ l m. m < slots h l → Own h q l m) k i (λ l. x.own-object) (λ l m n b. own_same h r q l m (λ j jl. x.others l m j n) (w.own l m b));
      entry = λ l s p d pl dl. rw (processes-stay p (held_at l d), processes-stay p (used_at l d))
          (entry_kept h r q object-grown l _ _ _ (held-steady l s p d pl dl) (w.entry l s p d pl dl));
      sender = λ p m pl ml. rw (processes-stay p (message_at m 0)) (held_kept h r q object-grown process _ _ (w.sender p m pl (rw (processes-stay p queue) at ml)));
      counted = λ l s m b. by-record (λ l m. q (at l m (holders l)) ≡ r (at l m (holders l))) k i x.same-holders (λ l m n. x.others l m (holders l) n) l m
          ∙ w.counted l s m b ∙ sym (count-all h r q l (λ p d pl dl. processes-stay p (held_at l d)) m);
    }
