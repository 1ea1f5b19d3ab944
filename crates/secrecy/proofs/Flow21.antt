-- Call 21 writes in the cell that it names. It reads down, and in the named cell.
use mathlib.Core.Path.{◌≡◌, refl, sym, ap}
use mathlib.Core.Bool.{Bool, true, false, ◌||◌, not}
use mathlib.Core.List.{List, [], ◌∷◌, ◌++◌}
use Prim.Native.Nat.{ℕ, ◌+◌, ◌*◌, ◌≤◌, ◌<◌}
use native.Mathlib.Omega.{arith}
use lib.Dec.{ltb, leb, eqb}
use lib.ListN.{length, length-take}
use borrow.Author.Tests.{leb-false, ltb-true}
use Rattle.rules.specs.Claim.{Holds}
use Rattle.rules.specs.Words.{part}
use Rattle.rules.specs.Layout.{max_bits, process, file, record_words, block_bytes, cells, slots, blocks, stretch, cell_of, Addr, at, entries, held_at, used_at, size, serial}
use Rattle.rules.specs.Seid.{index_of, class, seid}
use Rattle.rules.specs.Modes.{reads}
use Rattle.rules.specs.Rights.{lacks}
use Rattle.rules.specs.Errors.{XnoSPriv, XbSz, XbParam, XbadOd, XnotReadable, XnoObj, XdapViol, XnoSpace}
use Rattle.rules.specs.Rule.{Refusal, ◌⇒◌, bytes_at, Effect, effect, rule}
use Rattle.rules.specs.WellFormed.{records_ok}
use Rattle.rules.specs.Find.{stale, rights_at, free_slot, no_slot}
use Rattle.rules.specs.Copy.{Copy}
use Rattle.rules.specs.Call21.{in_guard, contents, carried, regraded, blocks_copied, regrade}
use Rattle.laws.proofs.Tests.{or_left}
use Rattle.laws.proofs.Slots.{free-slot}
use Rattle.secrecy.proofs.CellFlow.{flows-refl}
use Rattle.secrecy.proofs.Shown.{up-rules, Up, UpBytes, WritesUp, Alike, alike-test, alike-effect, same_effect}
use Rattle.secrecy.proofs.View
use Rattle.secrecy.proofs.Lists.{part_same}
use Rattle.secrecy.proofs.Flow14.{size_fits}

-- b is a cell
named : (h : List ℕ) (b c : ℕ) → leb (cells h) b || ltb max_bits c ≡ false → b < cells h
named h b c e = leb-false (cells h) b (or_left (leb (cells h) b) (ltb max_bits c) e)

-- ---- what it writes lies in the named cell

up_in : {h : List ℕ} {p : ℕ} {r : Addr → ℕ} → View.Here h p r → (b c j : ℕ) → leb (cells h) b || ltb max_bits c ≡ false → no_slot h r file b ≡ false → ltb j (record_words file) ≡ true
    → Up h b (at file (free_slot h r file b) j)
up_in {h} {p} {r} v b c j e n l =
    let cell = named h b c e in record {
      valid = ((free-slot h r v.shape b cell file n).in-range, ltb-true j (record_words file) l);
      up = rw (free-slot h r v.shape b cell file n).in_cell (flows-refl h b cell);
    }

contents-fit : (h st : List ℕ) (f n : ℕ) → n ≤ blocks h → 0 + length (contents h st f n) ≤ stretch h
unfolding contents part
contents-fit h st f n l = rw (length-take (n * block_bytes)) (omega arith)

up-copied : {h : List ℕ} {p : ℕ} {r : Addr → ℕ} → View.Here h p r → Holds (records_ok h r) → (st : List ℕ) (a b c : ℕ) (buffer : List ℕ)
    → leb (cells h) b || ltb max_bits c ≡ false
    → stale h r file (r (at process p (held_at file a))) ≡ false → no_slot h r file b ≡ false
    → UpBytes h b (bytes_at (free_slot h r file b) 0 (carried h r st p a b c buffer).bytes)
unfolding carried
up-copied {h} {p} {r} v w st a b c buffer e o n =
    let cell = named h b c e in
    let s : ℕ = r (at process p (held_at file a)) in record {
      there = (free-slot h r v.shape b cell file n).in-range;
      inside = contents-fit h st (index_of s) (r (at file (index_of s) size)) (size_fits v w s o);
      up = rw (free-slot h r v.shape b cell file n).in_cell (flows-refl h b cell);
    }

-- the cell that it writes from is the named one, as far as the set of cells is concerned
pub up21 : {h : List ℕ} {p : ℕ} {r : Addr → ℕ} → View.Here h p r → Holds (records_ok h r) → (st : List ℕ) (a b c : ℕ) (buffer : List ℕ)
    → WritesUp h b (regrade h r st p a b c buffer)
unfolding regrade
up21 v w st a b c buffer = search (up-rules, up_in v, up-copied v w) depth 24

-- ---- what it reads

-- the named cell's free slot, and its serial
same-named : {h : List ℕ} {p : ℕ} {C : ℕ → Bool} {r q : Addr → ℕ} → View.View h p C r q → (b c : ℕ) → (b < cells h → C b ≡ true) → leb (cells h) b || ltb max_bits c ≡ false
    → free_slot h q file b ≡ free_slot h r file b
same-named {h} {p} {C} {r} {q} v b c m e = let cell = named h b c e in View.seen-slot h v.here.shape C r q v.seen b cell (m cell) file

same_number : {h : List ℕ} {p : ℕ} {C : ℕ → Bool} {r q : Addr → ℕ} → View.View h p C r q → (b c : ℕ) → (b < cells h → C b ≡ true) → leb (cells h) b || ltb max_bits c ≡ false
    → no_slot h r file b ≡ false → q (at file (free_slot h r file b) serial) ≡ r (at file (free_slot h r file b) serial)
same_number {h} {p} {C} {r} {q} v b c m e n =
    let cell = named h b c e in
    sym (v.seen (at file (free_slot h r file b) serial) ((free-slot h r v.here.shape b cell file n).in-range, omega arith)
    (rw (free-slot h r v.here.shape b cell file n).in_cell (m cell)))

same-contents : (h : List ℕ) (C : ℕ → Bool) (s t : List ℕ) → length s ≡ length t → View.Stretches h C s t → (f n : ℕ) → f < slots h file → C (cell_of h file f) ≡ true
    → n ≤ blocks h
    → contents h t f n ≡ contents h s f n
unfolding contents
same-contents h C s t e g f n l m fits =
    part_same t s (f * stretch h) (n * block_bytes) (sym e) (λ j o. let i : j < stretch h = omega arith in sym (g f j l i m))

-- what is carried across
same-carried : {h : List ℕ} {p : ℕ} {C : ℕ → Bool} {r q : Addr → ℕ} → View.View h p C r q → Holds (records_ok h r) → (s t : List ℕ) → length s ≡ length t
    → View.Stretches h C s t
    → (a b c : ℕ) (buffer : List ℕ) → leb entries a ≡ false → stale h r file (r (at process p (held_at file a))) ≡ false
    → carried h q t p a b c buffer ≡ carried h r s p a b c buffer
unfolding carried
same-carried {h} {p} {C} {r} {q} v w s t e g a b c buffer l o =
    let i : ℕ = index_of (r (at process p (held_at file a))) in
    let there = View.held_in v.here file a tt l o in
    let flow = View.held-flows v.here file a tt l o in
    let fits = size_fits v.here w (r (at process p (held_at file a))) o in
    rw (
      View.same-held v file a tt l,
      View.same-below v file i size there refl flow,
      same-contents h C s t e g i (r (at file i size)) there (v.closed (cell_of h file i) (cell_of h process p) flow v.within) fits,
    )

-- the refusals that come before the search for a slot; none of them asks about the named cell
abbrev pub barred : List ℕ → (Addr → ℕ) → ℕ → ℕ → ℕ → ℕ → List ℕ → List Refusal
barred h r p a b c buffer =
    (not (in_guard h p) ⇒ XnoSPriv) ∷ (not (eqb (length buffer) 4) ⇒ XbSz) ∷ (leb (cells h) b || ltb max_bits c ⇒ XbParam)
    ∷ (leb entries a ⇒ XbadOd) ∷ (eqb (r (at process p (held_at file a))) 0 ⇒ XbadOd) ∷ (not (reads (r (at process p (used_at file a)))) ⇒ XnotReadable)
    ∷ (stale h r file (r (at process p (held_at file a))) ⇒ XnoObj)
    ∷ (lacks (rights_at r p file (index_of (r (at process p (held_at file a))))) true false ⇒ XdapViol) ∷ []

pub refusals21 : (h : List ℕ) (r : Addr → ℕ) (st : List ℕ) (p a b c : ℕ) (buffer : List ℕ)
    → (regrade h r st p a b c buffer).refusals ≡ barred h r p a b c buffer ++ (no_slot h r file b ⇒ XnoSpace) ∷ []
unfolding regrade
refusals21 h r st p a b c buffer = refl

same-brought : (x y : Copy) (f g m n : ℕ) (buffer : List ℕ) → x ≡ y → f ≡ g → m ≡ n
    → ◌≡◌ {A = Effect} (effect (seid (class file) f m) 0 buffer (regraded x f m) (blocks_copied x f))
    (effect (seid (class file) g n) 0 buffer (regraded y g n) (blocks_copied y g))
same-brought x y f g m n buffer i j k = rw (i, j, k)

-- they are alike, whatever stands behind them
alike-barred : {h : List ℕ} {p : ℕ} {C : ℕ → Bool} {r q : Addr → ℕ} → View.View h p C r q → (a b c : ℕ) (buffer : List ℕ) (rs qs : List Refusal) (e f : Effect)
    → (leb (cells h) b || ltb max_bits c ≡ false → leb entries a ≡ false → stale h r file (r (at process p (held_at file a))) ≡ false
    → Alike h C (rule rs e) (rule qs f))
    → Alike h C (rule (barred h r p a b c buffer ++ rs) e) (rule (barred h q p a b c buffer ++ qs) f)
alike-barred {h} {p} {C} {r} {q} v a b c buffer rs qs e f rest =
    let held : ℕ = r (at process p (held_at file a)) in
    let held' : ℕ = q (at process p (held_at file a)) in
    alike-test refl refl (λ x1. alike-test refl refl (λ x2. alike-test refl refl (λ x3. alike-test refl refl (λ x4.
    let same : held ≡ held' = sym (View.same-held v file a tt x4) in
    let used : not (reads (r (at process p (used_at file a)))) ≡ not (reads (q (at process p (used_at file a)))) = rw (View.same-used v file a tt x4) in
    alike-test refl (ap (λ (x : ℕ). eqb x 0) same) (λ x5. alike-test refl used (λ x6.
    let here : stale h r file held ≡ stale h q file held' = rw (← same) (sym (View.same-stale v file a tt x4)) in
    alike-test refl here (λ x7.
    let there = View.held_in v.here file a tt x4 x7 in
    let flow = View.held-flows v.here file a tt x4 x7 in
    let rights : lacks (rights_at r p file (index_of held)) true false ≡ lacks (rights_at q p file (index_of held')) true false =
    rw (← same, View.same-rights v file (index_of held) there flow) in
    alike-test refl rights (λ x8. rest x3 x4 x7))))))))

pub alike21 : {h : List ℕ} {p : ℕ} {C : ℕ → Bool} {r q : Addr → ℕ} → View.View h p C r q → Holds (records_ok h r) → (s t : List ℕ) → length s ≡ length t
    → View.Stretches h C s t
    → (a b c : ℕ) (buffer : List ℕ) → (b < cells h → C b ≡ true) → Alike h C (regrade h r s p a b c buffer) (regrade h q t p a b c buffer)
unfolding regrade
alike21 {h} {p} {C} {r} {q} v w s t e g a b c buffer m = alike-barred v a b c buffer _ _ _ _ (λ x3 x4 x7.
    let room : no_slot h r file b ≡ no_slot h q file b = rw (same-named v b c m x3) in
    alike-test refl room (λ x9.
    let next : r (at file (free_slot h r file b) serial) + 1 ≡ q (at file (free_slot h q file b) serial) + 1 = rw (same-named v b c m x3, same_number v b c m x3 x9) in
    alike-effect (same_effect (same-brought _ _ _ _ _ _ buffer (sym (same-carried v w s t e g a b c buffer x4 x7)) (sym (same-named v b c m x3)) next))))

-- with a refusal in the last one's place
pub alike-unasked : {h : List ℕ} {p : ℕ} {C : ℕ → Bool} {r q : Addr → ℕ} → View.View h p C r q → (a b c : ℕ) (buffer : List ℕ) (e : Effect)
    → Alike h C (rule (barred h r p a b c buffer ++ (true ⇒ XnoSpace) ∷ []) e) (rule (barred h q p a b c buffer ++ (true ⇒ XnoSpace) ∷ []) e)
alike-unasked v a b c buffer e = alike-barred v a b c buffer _ _ e e (λ x3 x4 x7. alike-test refl refl (λ x. alike-effect (same_effect refl)))
