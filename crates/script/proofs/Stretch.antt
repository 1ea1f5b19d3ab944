-- Some bytes of a piece at once come to what they do one by one: those of a number as far as it goes, and those of a call's buffer.
use mathlib.Core.Bool.{true, false}
use mathlib.Core.List.{List, [], ◌∷◌}
use mathlib.Core.Path.{◌≡◌, refl, sym, ap, ◌∙◌}
use Prim.Native.Nat.{ℕ, suc, ◌+◌, ◌-◌, ◌<◌, ◌≤◌}
use native.Mathlib.Omega.{arith}
use native.Mathlib.Numerals.{add-one}
use lib.ListN.{get_or, set, take as firsts, drop, length, length-take, length-drop, take-append-drop}
use lib.Seq.{sets, take_all, drop-cons, drop-drop}
use borrow.Author.Tests.{lt-ltb, le-ltb}
use Rattle.laws.proofs.Tests.{split}
use Rattle.numerals.specs.declared.Part.{Part}
use Rattle.numerals.specs.declared.Fed.{Fed}
use Rattle.numerals.specs.declared.Fed.TheVariants as fed
use Rattle.numerals.specs.declared.Scan.{Scan}
use Rattle.numerals.specs.Fed.{start, fed_by, scan, scan_of}
use Rattle.numerals.proofs.Scanning.{scan-more, scan-done, scan-bad, scan-end, scan-past}
use Rattle.script.specs.declared.Stage.{Stage}
use Rattle.script.specs.declared.Stage.TheVariants.{Header, Body, Numbers, Bytes}
use Rattle.script.specs.declared.Reader.{Reader}
use Rattle.script.specs.declared.Took.{Took}
use Rattle.script.specs.declared.Moved.{Moved}
use Rattle.script.specs.declared.What.TheVariants.{More, Call}
use Rattle.script.specs.Take.{is_more, is_bytes, further, bytes_left, with_part, at_call, fed_took, fed_table, Read, read, number_read, byte_took, take_at, take}
use Rattle.script.specs.Advance.{Advanced, advanced, stopped, advance, resumed, Advances, Goes}
use Rattle.script.proofs.Piece.{goes_on, stops, ends, code-ends, going-resumed, stopped-resumed, cut}

-- ---- one byte, and what is left of the piece
one_byte : (r : Reader) (t l : List ℕ) (b : ℕ) (s : List ℕ) (i : ℕ) → advance r t l (b ∷ s) i ≡ resumed (stopped (take r t l b) (i + 1) []) s
one_byte r t l b s i =
    split _ (is_more (take r t l b).took.what)
    (λ e. goes_on r t l b s i e ∙ sym (going-resumed (stopped (take r t l b) (i + 1) []) s e))
    (λ e. stops r t l b s i e ∙ sym (stopped-resumed (stopped (take r t l b) (i + 1) []) s e))

-- ---- the bytes of a number
number-taken : (g : Stage) (r : Reader) (t l : List ℕ) (b : ℕ) → is_bytes g ≡ false → take_at g r t l b ≡ number_read r t l b
number-taken Header r t l b e = refl
number-taken Body r t l b e = refl
number-taken Numbers r t l b e = refl
number-taken Bytes r t l b e = cc

-- what is read once a number is read so far
abbrev scan_read : Reader → List ℕ → List ℕ → Scan → Advanced
scan_read r t l x = stopped (read (fed_took (with_part r x.part) t x.fed) (fed_table (with_part r x.part) t x.fed) l) x.next []

abbrev scan_then : Reader → List ℕ → List ℕ → List ℕ → Scan → Advanced
scan_then r t l whole x = resumed (scan_read r t l x) (drop x.next whole)

number-byte : (r : Reader) (t l : List ℕ) (b : ℕ) (s : List ℕ) (i : ℕ) (whole : List ℕ) → s ≡ drop (i + 1) whole
    → ((q : Part) → advance (with_part r q) t l s (i + 1) ≡ scan_then (with_part r q) t l whole (scan_of q s (i + 1)))
    → (f : Fed) → fed_by r.part b ≡ f
    → resumed (stopped (read (fed_took r t f) (fed_table r t f) l) (i + 1) []) s ≡ scan_then r t l whole (scan_of r.part (b ∷ s) i)
unfolding fed_took fed_table
number-byte r t l b s i whole h later (fed.More q) e =
    going-resumed (advanced More (with_part r q) (i + 1) [] t l) s refl ∙ later q ∙ ap (scan_then r t l whole) (sym (scan-more r.part b s i q e))
number-byte r t l b s i whole h later (fed.Done v) e =
    ap (resumed (scan_read r t l (scan (fed.Done v) r.part (i + 1)))) h ∙ ap (scan_then r t l whole) (sym (scan-done r.part b s i v e))
number-byte r t l b s i whole h later fed.Bad e =
    ap (resumed (scan_read r t l (scan fed.Bad r.part (i + 1)))) h ∙ ap (scan_then r t l whole) (sym (scan-bad r.part b s i e))

number-goes : (r : Reader) (t l s : List ℕ) (i : ℕ) (whole : List ℕ) → s ≡ drop i whole → is_bytes r.stage ≡ false
    → advance r t l s i ≡ scan_then r t l whole (scan_of r.part s i)
unfolding take fed_took fed_table
number-goes r t l [] i whole h n =
    ap (λ (x : List ℕ). advance r t l x i) h
    ∙ sym (going-resumed (advanced More r i [] t l) (drop i whole) refl)
    ∙ ap (scan_then r t l whole) (sym (scan-end r.part i))
number-goes r t l (b ∷ s) i whole h n =
    let tail : s ≡ drop (i + 1) whole = ap (drop 1) h ∙ drop-drop 1 i whole in
    one_byte r t l b s i
    ∙ ap (λ (x : Read). resumed (stopped x (i + 1) []) s) (number-taken r.stage r t l b n)
    ∙ number-byte r t l b s i whole tail (λ q. number-goes (with_part r q) t l s (i + 1) whole tail n) (fed_by r.part b) refl

front : (s : List ℕ) (i : ℕ) → i < length s → drop i s ≡ get_or s i 0 ∷ drop (i + 1) s
front s i h = rw (add-one, drop-cons s i 0 h)

-- as the code has it
pub code-number : (r : Reader) (t l s : List ℕ) (i : ℕ) (x : Scan) (z : Reader) (y : Took) (t' : List ℕ) → is_bytes r.stage ≡ false → i < length s
    → x ≡ scan_of r.part (drop i s) i
    → z ≡ with_part r x.part
    → y ≡ fed_took z t x.fed
    → t' ≡ fed_table z t x.fed
    → Goes r t l s i (record { what = y.what; reader = y.reader; next = x.next }) t' l
code-number r t l s i x z y t' n h e w p q =
    record {
      past = rw (e, front s i h) (scan-past r.part (get_or s i 0) (drop (i + 1) s) i);
      same = number-goes r t l (drop i s) i s refl n ∙ ap (scan_then r t l s) (sym e) ∙ rw (p, q, w);
    }

-- ---- the bytes of a call's buffer
byte-taken : (g : Stage) (r : Reader) (t l : List ℕ) (b : ℕ) → is_bytes g ≡ true → take_at g r t l b ≡ read (byte_took r) t (set l r.field b)
byte-taken Bytes r t l b e = refl
byte-taken Header r t l b e = cc
byte-taken Body r t l b e = cc
byte-taken Numbers r t l b e = cc

module _ (r : Reader) (t l : List ℕ) (b : ℕ) (s : List ℕ) (i : ℕ) (n : is_bytes r.stage ≡ true) where
  -- not the last
  byte_more : r.field < r.last → advance r t l (b ∷ s) i ≡ advance (further r 1) t (set l r.field b) s (i + 1)
  unfolding take byte_took
  byte_more h =
      one_byte r t l b s i
      ∙ ap (λ (x : Read). resumed (stopped x (i + 1) []) s)
      (byte-taken r.stage r t l b n ∙ ap (λ (x : Took). read x t (set l r.field b)) (rw (lt-ltb _ _ h)))
      ∙ going-resumed (advanced More (further r 1) (i + 1) [] t (set l r.field b)) s refl

  -- the last
  byte_last : r.last ≤ r.field → advance r t l (b ∷ s) i ≡ advanced Call (at_call r.nums) (i + 1) s t (set l r.field b)
  unfolding take byte_took
  byte_last h =
      one_byte r t l b s i
      ∙ ap (λ (x : Read). resumed (stopped x (i + 1) []) s)
      (byte-taken r.stage r t l b n ∙ ap (λ (x : Took). read x t (set l r.field b)) (rw (le-ltb _ _ h)))
      ∙ stopped-resumed (advanced Call (at_call r.nums) (i + 1) [] t (set l r.field b)) s refl

abbrev more_at : Reader → List ℕ → ℕ → ℕ → List ℕ → Advanced
more_at r t f j m = advanced More (record r { part = start; field = f }) j [] t m

abbrev call_at : Reader → List ℕ → ℕ → List ℕ → Advanced
call_at r t j m = advanced Call (at_call r.nums) j [] t m

-- none of them is the last
more_bytes : (r : Reader) (t l : List ℕ) (b : ℕ) (s : List ℕ) (i : ℕ) → is_bytes r.stage ≡ true → r.field + suc (length s) ≤ r.last
    → advance r t l (b ∷ s) i ≡ more_at r t (r.field + suc (length s)) (i + suc (length s)) (sets l r.field (b ∷ s))
more_bytes r t l b [] i n h = byte_more r t l b [] i n (omega arith) ∙ ends (further r 1) t (set l r.field b) (i + 1)
more_bytes r t l b (b' ∷ s) i n h =
    let k : ℕ = suc (length s) in
    let m : List ℕ = set l r.field b in
    byte_more r t l b (b' ∷ s) i n (omega arith)
    ∙ more_bytes (further r 1) t m b' s (i + 1) n (omega arith)
    ∙ ap (λ (a : ℕ). more_at r t a (i + 1 + k) (sets m (r.field + 1) (b' ∷ s))) (let z : r.field + 1 + k ≡ r.field + suc k = omega arith in z)
    ∙ ap (λ (a : ℕ). more_at r t (r.field + suc k) a (sets m (r.field + 1) (b' ∷ s))) (let z : i + 1 + k ≡ i + suc k = omega arith in z)
    ∙ ap (λ (a : ℕ). more_at r t (r.field + suc k) (i + suc k) (sets m a (b' ∷ s))) (add-one r.field)

-- all that are to come
all-bytes : (r : Reader) (t l : List ℕ) (b : ℕ) (s : List ℕ) (i : ℕ) → is_bytes r.stage ≡ true → suc (length s) ≡ bytes_left r
    → advance r t l (b ∷ s) i ≡ call_at r t (i + suc (length s)) (sets l r.field (b ∷ s))
all-bytes r t l b [] i n h = byte_last r t l b [] i n (omega arith)
all-bytes r t l b (b' ∷ s) i n h =
    let k : ℕ = suc (length s) in
    let m : List ℕ = set l r.field b in
    byte_more r t l b (b' ∷ s) i n (omega arith)
    ∙ all-bytes (further r 1) t m b' s (i + 1) n (omega arith)
    ∙ ap (λ (a : ℕ). call_at r t a (sets m (r.field + 1) (b' ∷ s))) (let z : i + 1 + k ≡ i + suc k = omega arith in z)
    ∙ ap (λ (a : ℕ). call_at r t (i + suc k) (sets m a (b' ∷ s))) (add-one r.field)

-- as the code has it
module _ (r : Reader) (t l s : List ℕ) (i left : ℕ) (b : is_bytes r.stage ≡ true) (h : i < length s) (o : left ≡ bytes_left r) (l' : List ℕ) where
  -- the piece ends before the buffer
  pub code-more-bytes : length s - i < left → l' ≡ sets l r.field (firsts (length s - i) (drop i s))
      → Goes r t l s i (record { what = More; reader = further r (length s - i); next = length s }) t l'
  code-more-bytes w p =
      record {
        past = h;
        same =
            go (drop i s) (length-drop i s)
            ∙ ap (more_at r t (r.field + (length s - i)) (length s)) (sym (p
            ∙ ap (sets l r.field) (take_all (length s - i) (drop i s) (let z = length-drop i s in omega arith))))
            ∙ sym
            (going-resumed (more_at r t (r.field + (length s - i)) (length s) l') (drop (length s) s) refl
            ∙ code-ends (further r (length s - i)) t l' s (length s) (omega arith));
      }
    where
      go : (x : List ℕ) → length x ≡ length s - i → advance r t l x i ≡ more_at r t (r.field + (length s - i)) (length s) (sets l r.field x)
      go [] z = absurd (omega arith)
      go (a ∷ x) z =
          more_bytes r t l a x i b (omega arith)
          ∙ ap (λ (k : ℕ). more_at r t (r.field + k) (i + suc (length x)) (sets l r.field (a ∷ x))) z
          ∙ ap (λ (k : ℕ). more_at r t (r.field + (length s - i)) k (sets l r.field (a ∷ x))) (let e : i + suc (length x) ≡ length s = omega arith in e)

  -- it does not
  pub code-all-bytes : left ≤ length s - i → l' ≡ sets l r.field (firsts (i + left - i) (drop i s))
      → Goes r t l s i (record { what = Call; reader = at_call r.nums; next = i + left }) t l'
  code-all-bytes w p =
      record {
        past = omega arith;
        same =
            ap (λ (x : List ℕ). advance r t l x i) (sym (take-append-drop left (drop i s)))
            ∙ cut r t l (firsts left (drop i s)) (drop left (drop i s)) i
            ∙ ap (λ (x : Advanced). resumed x (drop left (drop i s)))
            (go (firsts left (drop i s)) (length-take left (drop i s) ∙ (let z = length-drop i s in omega arith)) ∙ ap (call_at r t (i + left)) (sym stored))
            ∙ ap (resumed (call_at r t (i + left) l')) (drop-drop left i s);
      }
    where
      stored : l' ≡ sets l r.field (firsts left (drop i s))
      stored =
          p
          ∙ ap (λ (k : ℕ). sets l r.field (firsts k (drop i s))) (let z : i + left - i ≡ left = omega arith in z)

      go : (x : List ℕ) → length x ≡ left → advance r t l x i ≡ call_at r t (i + left) (sets l r.field x)
      go [] z = absurd (omega arith)
      go (a ∷ x) z = rw (← z) (all-bytes r t l a x i b (omega arith))

-- ---- what is left of the piece, as the code has it
module _ (r : Reader) (t l s : List ℕ) (i : ℕ) (m : Moved) (t' l' : List ℕ) (g : Goes r t l s i m t' l') where
  pub code-goes-on : is_more m.what ≡ true → advance m.reader t' l' (drop m.next s) m.next ≡ advance r t l (drop i s) i
  code-goes-on e = sym (g.same ∙ going-resumed (record { moved = m; rest = []; table = t'; buffer = l' }) (drop m.next s) e)

  pub code-stops : is_more m.what ≡ false → Advances (advance r t l (drop i s) i) m t' l'
  code-stops e =
      rw (g.same ∙ stopped-resumed (record { moved = m; rest = []; table = t'; buffer = l' }) (drop m.next s) e)
      (record { moved = refl; table = refl; buffer = refl })
