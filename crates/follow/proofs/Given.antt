-- The rules' own writes: an object made or freed is one slot, a file's entry is one descriptor; and the slot that is given up is given back.
use mathlib.Core.Path.{◌≡◌, refl, sym, ap}
use mathlib.Core.Bool.{true, false, cond, ◌&&◌}
use mathlib.Core.List.{List, []}
use Prim.Native.Nat.{ℕ, ◌<◌}
use native.Mathlib.Omega.{arith}
use Rattle.rules.specs.Layout.{Kind, process, file, slots, cells, cell_of, Addr, at, live, serial, held_at}
use Rattle.rules.specs.Seid.{index_of, formed}
use Rattle.rules.specs.Rule.{Word, over}
use Rattle.rules.specs.Find.{in_own_cell, can_take, free_slot, no_slot, entered, one_less}
use Rattle.rules.specs.Work.{key_at}
use Rattle.rules.specs.Call01.{spawned}
use Rattle.laws.proofs.Tests.{split, cond_both}
use Rattle.laws.proofs.Written.{AllOf, nil, also, over-miss}
use Rattle.laws.proofs.Object.{Object, no-process}
use Rattle.laws.proofs.Shape.{Shape, in-run}
use Rattle.lists.specs.Region.{given}
use Rattle.kept.proofs.Records.{InRecord, elsewhere}
use Rattle.kept.proofs.Entries.{less-in}
use Rattle.kept.proofs.Keep01.{spawned-in}
use Rattle.follow.specs.Right.{list_at, Right}
use Rattle.follow.specs.Followed.{here, taken_in, given_back}
use Rattle.follow.proofs.One.{Unseen, OneSlot, OneEntry, unseen-right}
use Rattle.follow.proofs.Slots.{taken-right, given-right, worn-right}
use Rattle.follow.proofs.Entries.{is-here}

other_word : {a b : Addr} → (a.word ≡ b.word → ⊥) → a ≡ b → ⊥
other_word n e = n (ap (λ (x : Addr). x.word) e)

-- ---- what is written

module _ (r : Addr → ℕ) where
  -- words of an object's record
  pub object-slot : (k : Kind) → Object k → (i : ℕ) {ws : List Word} → AllOf (InRecord k i) ws → OneSlot r (over r ws) k i
  object-slot k o i a = record {
    lives = λ m j ne. elsewhere k i a r m j live ne;
    serials = λ m j ne. elsewhere k i a r m j serial ne;
    held = λ p d l. elsewhere k i a r process p (held_at file d) (λ e f. no-process k o (sym e));
  }

  -- a new process's
  pub spawned-slot : (p a b c q s : ℕ) → OneSlot r (over r (spawned r p a b c q s)) process q
  spawned-slot p a b c q s = record {
    lives = λ m j ne. elsewhere process q (spawned-in r p a b c q s) r m j live ne;
    serials = λ m j ne. elsewhere process q (spawned-in r p a b c q s) r m j serial ne;
    held = λ o d l. over-miss (at process o (held_at file d))
        (also (other_word (λ e. omega arith)) (also (other_word (λ e. omega arith)) (also (other_word (λ e. omega arith)) (also (other_word (λ e. omega arith))
        (also (other_word (λ e. omega arith)) (also (other_word (λ e. omega arith)) nil)))))) r;
  }

  -- a file's entry
  pub entered-one : (p d s u : ℕ) → OneEntry r (over r (entered file p d s u)) p d
  entered-one p d s u = record {
    lives = λ m j. over-miss (at m j live) (also (other_word (λ e. omega arith)) (also (other_word (λ e. omega arith)) nil)) r;
    serials = λ m j. over-miss (at m j serial) (also (other_word (λ e. omega arith)) (also (other_word (λ e. omega arith)) nil)) r;
    held = λ o e l ne. over-miss (at process o (held_at file e))
        (also (λ q. ne (ap (λ (x : Addr). x.slot) q) (let w = ap (λ (x : Addr). x.word) q in omega arith)) (also (other_word (λ q. omega arith)) nil)) r;
  }

-- ---- a slot that is live can't be taken

pub live-taken : (r : Addr → ℕ) (k : Kind) (i : ℕ) → r (at k i live) ≡ 1 → can_take r k i ≡ false
live-taken r k i e = rw e

-- calls 1, 3, 7 and 21: an object is made in a free slot of cell c
pub created-right : (h : List ℕ) → Shape h → (r q : Addr → ℕ) (w : List ℕ) (k : Kind) (c : ℕ) → c < cells h → no_slot h r k c ≡ false → Right h r w
    → OneSlot r q k (free_slot h r k c) → q (at k (free_slot h r k c) live) ≡ 1 → Right h q (taken_in h k c w)
unfolding taken_in
created-right h sh r q w k c cl some right one lives =
    taken-right h sh r q w k c (free_slot h r k c) cl one right some refl (live-taken q k (free_slot h r k c) lives)

-- ---- calls 5, 9 and 11: s is given up, by one holder or one link less

module _ (h : List ℕ) (sh : Shape h) (r q : Addr → ℕ) (w : List ℕ) (p s : ℕ) (k : Kind) (pl : p < slots h process) (right : Right h r w) where
  pub back-right : (here h p k s ≡ true → OneSlot r q k (index_of s) × (r (at k (index_of s) live) ≡ 1)) → (here h p k s ≡ false → Unseen r q)
      → Right h q (given_back h q p k s w)
  unfolding given_back
  back-right own other =
      let i : ℕ = index_of s in
      let c : ℕ = cell_of h process p in
      let key = given w (list_at h k c) (key_at q k i) in
      let cl = (in-run h sh process p pl).0 in
      split _ (here h p k s)
      (λ e.
      let x = is-here h sh p s k e in
      let one = (own e).0 in
      let was = live-taken r k i (own e).1 in
      rw e (cond_both (Right h q) (can_take q k i) key w
      (given-right h sh r q w k c i cl one right x.run was)
      (worn-right h sh r q w k c i cl one right x.run was)))
      (λ e. rw e (unseen-right h r q w (other e) right))

-- what is left of an entry's object, read over what is written before it
module _ (h : List ℕ) (sh : Shape h) (r q : Addr → ℕ) (w : List ℕ) (p s : ℕ) (k : Kind) (o : Object k) (pl : p < slots h process) (right : Right h q w) where
  abbrev left : Addr → ℕ
  left = over q (cond (formed h k s && in_own_cell h p k s) (one_less r k (index_of s)) [])

  pub less-right : (here h p k s ≡ true → q (at k (index_of s) live) ≡ 1) → Right h left (given_back h left p k s w)
  unfolding here over
  less-right lives = back-right h sh q left w p s k pl right
      (λ e. rw e (object-slot q k o (index_of s) (less-in r k o (index_of s)), lives e))
      (λ e. rw e (record { lives = λ m j. refl; serials = λ m j. refl; held = λ m d l. refl }))
