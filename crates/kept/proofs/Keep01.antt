-- Call 1, spawn, keeps tables well formed.
use mathlib.Core.Path.{◌≡◌, refl, sym, ◌∙◌}
use mathlib.Core.Bool.{cond, ◌||◌}
use mathlib.Core.List.{List}
use Prim.Native.Nat.{ℕ, ◌+◌, ◌≤◌}
use native.Mathlib.Omega.{arith}
use lib.Dec.{ltb, eqb}
use borrow.Author.Tests.{ltb-false, ne_eqb}
use Rattle.rules.specs.Layout.{max_owner, max_bits, process, cell_of, Addr, at, serial}
use Rattle.rules.specs.Seid.{seid_at}
use Rattle.rules.specs.WellFormed.{parent_ok}
use Rattle.rules.specs.Rule.{over}
use Rattle.rules.specs.Find.{free_slot}
use Rattle.rules.specs.Call01.{spawn, spawned}
use Rattle.laws.proofs.Tests.{or_left, or_right}
use Rattle.laws.proofs.Written.{AllOf, nil}
use Rattle.laws.proofs.Refusals.{clear}
use Rattle.kept.proofs.Records.{InRecord, word_in, same-record}
use Rattle.kept.proofs.Keeps.{Keeps, KeptBy, Caller}
use Rattle.kept.proofs.Begun.{keeps-begun}
use Rattle.laws.proofs.Slots.{FreeSlot}
use Rattle.kept.proofs.Found.{own-index, own-found, own-slot}

pub spawned-in : (r : Addr → ℕ) (p a b c q s : ℕ) → AllOf (InRecord process q) (spawned r p a b c q s)
spawned-in r p a b c q s =
    word_in process q 0 1 (omega arith) (word_in process q 1 s (omega arith) (word_in process q 2 a (omega arith) (word_in process q 3 b (omega arith)
    (word_in process q 4 (seid_at r process p) (omega arith) (word_in process q 6 c (omega arith) nil)))))

pub spawned-word : (r : Addr → ℕ) (p a b c q s j : ℕ) → over r (spawned r p a b c q s) (at process q j)
    ≡ cond (eqb j 6) c (cond (eqb j 4) (seid_at r process p) (cond (eqb j 3) b (cond (eqb j 2) a (cond (eqb j 1) s (cond (eqb j 0) 1 (r (at process q j)))))))
unfolding over
spawned-word r p a b c q s j = simp same-record

module _ (h : List ℕ) (r : Addr → ℕ) (p : ℕ) (me : Caller h r p) (a b c q : ℕ) (f : FreeSlot h r process (cell_of h process p) q) (a-fits : a ≤ max_owner)
    (b-fits : b ≤ max_owner) (c-fits : c ≤ max_bits) where
  abbrev next : ℕ
  next = r (at process q serial) + 1

  spawns : Keeps h r (spawned r p a b c q next)
  unfolding parent_ok
  spawns =
      let word = spawned-word r p a b c q next in
      keeps-begun h r me.fine q _ (record {
        in-range = f.in-range;
        not-worn = f.not-worn;
        zeros = λ j l. (me.fine.own process q f.in-range).free f.is_free j (omega arith);
        in-record = spawned-in r p a b c q next;
        lives = word 0;
        next-serial = word 1;
        owner-fits = rw (word 2) a-fits;
        group-fits = rw (word 3) b-fits;
        parent-ok = rw (word 4) (λ n. ((own-found h r p me).form, rw (own-index h r p me) (sym f.in_cell)));
        bits_fit = rw (word 6) c-fits;
        beyond = λ j l n. word j
            ∙ rw (
              ne_eqb j 6 n,
              ne_eqb j 4 (λ e. omega arith),
              ne_eqb j 3 (λ e. omega arith),
              ne_eqb j 2 (λ e. omega arith),
              ne_eqb j 1 (λ e. omega arith),
              ne_eqb j 0 (λ e. omega arith),
            );
      })

pub keeps : (h : List ℕ) (r : Addr → ℕ) (p : ℕ) → Caller h r p → (a b c : ℕ) (buffer : List ℕ) → KeptBy h r (spawn h r p a b c buffer)
unfolding spawn
keeps h r p me a b c buffer e =
    let ok = clear (spawn h r p a b c buffer).refusals refl e in
    let mine : ℕ = cell_of h process p in
    let rest = or_right (ltb max_owner a) (ltb max_owner b || ltb max_bits c) ok.0 in
    spawns h r p me a b c (free_slot h r process mine) (own-slot h r p me process ok.1.1.0)
    (ltb-false max_owner a (or_left (ltb max_owner a) (ltb max_owner b || ltb max_bits c) ok.0)) (ltb-false max_owner b (or_left (ltb max_owner b) (ltb max_bits c) rest))
    (ltb-false max_bits c (or_right (ltb max_owner b) (ltb max_bits c) rest))
