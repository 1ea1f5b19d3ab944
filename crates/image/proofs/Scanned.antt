-- A number scanned from a place on is the number that the rules read there, and the place past it is where the rest begins.
use mathlib.Core.List.{List, [], ◌∷◌}
use mathlib.Core.Path.{◌≡◌, refl, sym, ap, ◌∙◌}
use Prim.Native.Nat.{ℕ, suc, ◌+◌, ◌-◌, ◌≤◌, ◌<◌}
use native.Mathlib.Omega.{arith}
use lib.ListN.{length, set, take, drop, length-drop}
use lib.Seq.{take_all}
use Rattle.std.proofs.lemmas.List.{take_more_set}
use Rattle.rules.specs.Replay.{Taken, took, bad, number, number_from, numbers_from, numbers}
use Rattle.numerals.specs.declared.Part.{Part}
use Rattle.numerals.specs.declared.Fed.{Fed}
use Rattle.numerals.specs.declared.Fed.TheVariants.{More, Done, Bad}
use Rattle.numerals.specs.declared.Scan.{Scan}
use Rattle.numerals.specs.Fed.{start, fed_by, scan_of}
use Rattle.numerals.proofs.Read.{read_on, after_byte, Small, small-start, small-more, read_byte}
use Rattle.numerals.proofs.Scanning.{scan-more, scan-done, scan-bad, scan-end, scan-past}
use Rattle.laws.proofs.Images.{next-number, no_number}

-- what the rules read, by how the scan ended and what it left
unfoldable pub told : Fed → List ℕ → Taken ℕ
told (More q) r = bad
told (Done v) r = took v r
told Bad r = bad

untold : (f : Fed) (r : List ℕ) → ((v : ℕ) → f ≡ Done v → ⊥) → told f r ≡ bad
unfolding told
untold (More q) r n = refl
untold (Done v) r n = absurd (n v refl)
untold Bad r n = refl

abbrev Scanned : Part → List ℕ → ℕ → Scan → Type 0
Scanned p s i x = (read_on p s ≡ told x.fed (drop (x.next - i) s)) × (i ≤ x.next) × (x.next ≤ i + length s)

scanned-byte : (p : Part) (b : ℕ) (s : List ℕ) (i : ℕ) → Small p → ((q : Part) → Small q → Scanned q s (i + 1) (scan_of q s (i + 1)))
    → (f : Fed) → fed_by p b ≡ f → Scanned p (b ∷ s) i (scan_of p (b ∷ s) i)
unfolding told after_byte
scanned-byte p b s i h again (More q) e =
    let x = again q (small-more p q b h e).0 in
    let m = scan-more p b s i q e in
    let past : i < (scan_of q s (i + 1)).next = rw m at (scan-past p b s i) in
    let d : (scan_of q s (i + 1)).next - i ≡ suc ((scan_of q s (i + 1)).next - (i + 1)) = omega arith in
    let here = read_byte p b s h ∙ ap (λ (f : Fed). after_byte f s) e ∙ x.0 in
    rw m (here ∙ ap (λ (k : ℕ). told (scan_of q s (i + 1)).fed (drop k (b ∷ s))) (sym d), omega arith, omega (arith, x.2))
scanned-byte p b s i h again (Done v) e =
    let d : i + 1 - i ≡ 1 = omega arith in
    let here = read_byte p b s h ∙ ap (λ (f : Fed). after_byte f s) e in
    rw (scan-done p b s i v e) (here ∙ ap (λ (k : ℕ). took v (drop k (b ∷ s))) (sym d), omega arith, omega arith)
scanned-byte p b s i h again Bad e = rw (scan-bad p b s i e) (read_byte p b s h ∙ ap (λ (f : Fed). after_byte f s) e, omega arith, omega arith)

scanned : (s : List ℕ) (p : Part) (i : ℕ) → Small p → Scanned p s i (scan_of p s i)
unfolding told number_from
scanned [] p i h = rw (scan-end p i) (refl, omega arith, omega arith)
scanned (b ∷ s) p i h = scanned-byte p b s i h (λ q k. scanned s q (i + 1) k) (fed_by p b) refl

-- ---- the same as the code has it, from the front of s on
module _ (s : List ℕ) (x : Scan) (is : x ≡ scan_of start s 0) where
  there : Scanned start s 0 x
  there = rw is (scanned s start 0 small-start)

  pub scan-within : x.next ≤ length s
  scan-within = omega (arith, there.2)

  pub scan-number : (v : ℕ) → x.fed ≡ Done v → number s ≡ took v (take (length s - x.next) (drop x.next s))
  unfolding told
  scan-number v e =
      let d : x.next - 0 ≡ x.next = omega arith in
      there.0 ∙ ap (λ (f : Fed). told f (drop (x.next - 0) s)) e ∙ ap (λ (k : ℕ). took v (drop k s)) d
      ∙ ap (took v) (sym (take_all (length s - x.next) (drop x.next s) (omega (arith, length-drop x.next s))))

  pub scan-none : ((v : ℕ) → x.fed ≡ Done v → ⊥) → number s ≡ bad
  scan-none n = there.0 ∙ untold x.fed (drop (x.next - 0) s) n

-- ---- the loop: i of n words are read, w is what they are by then, and the rest of the image has the others
module _ (image w rest : List ℕ) (n i : ℕ) (so_far : numbers n image ≡ numbers_from (take i w) (n - i) rest) where
  module _ (h : i < n) where
    one_left : n - i ≡ suc (n - (i + 1))
    one_left = omega arith

    -- one word more
    pub reading-more : (v : ℕ) (rest' : List ℕ) → number rest ≡ took v rest' → i < length w
        → numbers n image ≡ numbers_from (take (i + 1) (set w i v)) (n - (i + 1)) rest'
    reading-more v rest' e l =
        so_far
        ∙ ap (λ (k : ℕ). numbers_from (take i w) k rest) one_left
        ∙ next-number (take i w) (n - (i + 1)) rest v rest' e
        ∙ ap (λ (vs : List ℕ). numbers_from vs (n - (i + 1)) rest') (sym (take_more_set w i v l))

    -- no number stands there
    pub reading-stops : number rest ≡ bad → numbers n image ≡ bad
    reading-stops e =
        so_far ∙ ap (λ (k : ℕ). numbers_from (take i w) k rest) one_left ∙ no_number (take i w) (n - (i + 1)) rest e

  pub reading-all : n ≤ i → length w ≤ i → numbers n image ≡ took w rest
  unfolding numbers_from
  reading-all h l =
      let e : n - i ≡ 0 = omega arith in
      so_far ∙ ap (λ (k : ℕ). numbers_from (take i w) k rest) e ∙ ap (λ (vs : List ℕ). took vs rest) (take_all i w l)
