-- Call 21, regrade, keeps tables well formed: a file is begun in a free slot of the named cell, with no holder.
use mathlib.Core.Path.{◌≡◌, refl, sym, ◌∙◌}
use mathlib.Core.Bool.{cond, true≢false}
use mathlib.Core.List.{List}
use Prim.Native.Nat.{ℕ, ◌+◌, ◌≤◌, ◌<◌}
use native.Mathlib.Omega.{arith}
use lib.Dec.{ltb, leb, eqb}
use borrow.Author.Tests.{ltb-false, leb-false}
use Rattle.rules.specs.Words.{word2}
use Rattle.rules.specs.Layout.{max_owner, max_bits, process, file, cells, blocks, Addr, at, serial, held_at, subtype}
use Rattle.rules.specs.Seid.{index_of}
use Rattle.rules.specs.Rule.{over}
use Rattle.rules.specs.Find.{free_slot}
use Rattle.rules.specs.Copy.{Copy}
use Rattle.rules.specs.Call21.{carried, regraded, regrade}
use Rattle.laws.proofs.Tests.{or_left, or_right}
use Rattle.laws.proofs.Subtypes.{unsubtyped}
use Rattle.laws.proofs.Written.{AllOf, nil}
use Rattle.kept.proofs.Fine.{Fine, object-alive}
use Rattle.laws.proofs.Refusals.{clear}
use Rattle.kept.proofs.Records.{InRecord, word_in, same-record, elsewhere}
use Rattle.kept.proofs.Made.{live-record}
use Rattle.kept.proofs.Keeps.{Keeps, KeptBy, Caller, keeps-object}
use Rattle.kept.proofs.Found.{found-held}
use Rattle.kept.proofs.Objects.{alive-now}
use Rattle.laws.proofs.Slots.{FreeSlot, free-slot}

pub regraded-in : (x : Copy) (f s : ℕ) → AllOf (InRecord file f) (regraded x f s)
regraded-in x f s =
    word_in file f 0 _ (omega arith) (word_in file f 1 _ (omega arith) (word_in file f 2 _ (omega arith) (word_in file f 3 _ (omega arith)
    (word_in file f 4 _ (omega arith) (word_in file f 5 _ (omega arith) (word_in file f 6 _ (omega arith) (word_in file f 7 _ (omega arith) nil)))))))

pub regraded-word : (r : Addr → ℕ) (x : Copy) (f s j : ℕ) → over r (regraded x f s) (at file f j)
    ≡ cond (eqb j 7) 0 (cond (eqb j 6) x.size (cond (eqb j 5) 1 (cond (eqb j 4) x.bits (cond (eqb j 3) x.group (cond (eqb j 2) x.owner
    (cond (eqb j 1) s (cond (eqb j 0) 1 (r (at file f j)))))))))
unfolding over
regraded-word r x f s j = simp same-record

module _ (h : List ℕ) (r : Addr → ℕ) (w : Fine h r) (x : Copy) (c f : ℕ) (free : FreeSlot h r file c f) (owner-fits : x.owner ≤ max_owner) (group-fits : x.group ≤ max_owner)
    (bits_fit : x.bits ≤ max_bits) (size_fits : x.size ≤ blocks h) where
  abbrev next : ℕ
  next = r (at file f serial) + 1

  begins : Keeps h r (regraded x f next)
  begins =
      let word = regraded-word r x f next in
      let zero = (w.own file f free.in-range).free free.is_free in
      let held = zero 7 (omega arith) (omega arith) in
      keeps-object h r w file tt f free.in-range (regraded-in x f next) (record {
        others = elsewhere file f (regraded-in x f next) r;
        own-object = live-record _ file f _ (word 0) (rw (word 1) (omega arith)) (rw (word 1) (omega (arith, free.not-worn))) (rw (word 2) owner-fits)
            (rw (word 3) group-fits)
            (object-alive h _ file f tt (record {
              bits_fit = rw (word 4) bits_fit;
              particular = rw (word 5, word 6) (omega arith, size_fits);
              needed = rw (word 5) (λ z. absurd (true≢false z));
              subtype-ok = unsubtyped h f _ (word subtype ∙ zero subtype (omega arith) (omega arith));
            }));
        serial-grown = omega (arith, word 1);
        same-holders = word 7 ∙ sym held;
        steady = λ a. absurd (omega (arith, held));
      })

two_bytes : (b : List ℕ) (i : ℕ) → word2 b i ≤ max_owner
unfolding word2
two_bytes b i = omega arith

pub keeps : (h : List ℕ) (r : Addr → ℕ) (st : List ℕ) (p : ℕ) → Caller h r p → (a b c : ℕ) (buffer : List ℕ) → KeptBy h r (regrade h r st p a b c buffer)
unfolding regrade carried
keeps h r st p me a b c buffer e =
    let s : ℕ = r (at process p (held_at file a)) in
    let ok = clear (regrade h r st p a b c buffer).refusals refl e in
    let cell : b < cells h = leb-false (cells h) b (or_left (leb (cells h) b) (ltb max_bits c) ok.1.1.0) in
    let f = found-held h r file s ok.1.1.1.1.1.1.0 in
    let x = alive-now h r file tt (index_of s) (me.fine.own file (index_of s) f.parts.index_in) f.here.is_live in
    begins h r me.fine (carried h r st p a b c buffer) b (free_slot h r file b)
    (free-slot h r me.shape b cell file ok.1.1.1.1.1.1.1.1.0)
    (two_bytes buffer _) (two_bytes buffer _)
    (ltb-false max_bits c (or_right (leb (cells h) b) (ltb max_bits c) ok.1.1.0))
    x.particular.1
