-- A byte does to a reader what the rules do with it.
use mathlib.Core.Bool.{true, false, cond, ◌&&◌, true≢false, and-false}
use mathlib.Core.List.{List, [], ◌∷◌, ◌++◌, append-nil}
use mathlib.Core.Path.{◌≡◌, refl, sym, ap, ◌∙◌, subst}
use Prim.Native.Nat.{ℕ, suc, ◌+◌, ◌-◌, ◌<◌, ◌≤◌}
use native.Mathlib.Omega.{arith}
use lib.Dec.{ltb, leb, eqb, leb-suc-suc}
use lib.ListN.{length, get_or, take, drop, set, length-set, length-append, get_or-append}
use Rattle.std.proofs.lemmas.List.{take_more_set}
use lib.Seq.{take_all, length-take-le, get_or-take, get_or-set_same, append_snoc}
use borrow.Author.Tests.{ltb-true, ltb-false, eqb-true, eqb-false, le-leb, lt-leb, ne_eqb}
use Rattle.rules.specs.Claim.{test}
use Rattle.rules.specs.Layout.{header_words, cells, subtypes}
use Rattle.rules.specs.WellFormed.{configured as configured_ok, header_ok}
use Rattle.rules.specs.Replay.{Taken, took, bad, numbers_from, numbers, header_numbers, numbers_after, replayable, call_numbers, max_buffer, call_from}
use Rattle.laws.proofs.Tests.{split, refuted, both_ways}
use Rattle.laws.proofs.Claims.{holds}
use Rattle.numerals.specs.declared.Part.{Part}
use Rattle.numerals.specs.declared.Fed.{Fed}
use Rattle.numerals.specs.declared.Fed.TheVariants as fed
use Rattle.numerals.specs.Fed.{start, fed_by}
use Rattle.numerals.proofs.Read.{small-start, small-more}
use Rattle.script.specs.declared.Stage.{Stage}
use Rattle.script.specs.declared.Stage.TheVariants.{Header, Body, Numbers, Bytes}
use Rattle.script.specs.declared.Reader.{Reader}
use Rattle.script.specs.declared.What.TheVariants as what
use Rattle.script.specs.declared.Took.{Took}
use Rattle.script.specs.Take.{with_part, took as took_of, awaiting, at_call, onward, calling_at, between_at, kept_table_at, kept_nums_at, counts_fit, header_ended, numbers_ended, ended_at, numbered, Read, read, fed_took, fed_table, number_read, byte_took, take_at, take as take_one}
use Rattle.script.proofs.Going.{going, fed_going, going_start, going-byte, body_then, header_then, accepted, call_then, bytes_then}
use Rattle.script.proofs.Meaning.{configured, called, outer, so_far, of_numbers, meaning_at, meaning, fault_at, Roomy, Fits, GoodAt, Good, Onward, Configured, Called, Faulty, Told}
use Rattle.script.proofs.Counts.{fits-of, fits-counted}
use Rattle.script.proofs.Kept.{take-more-past, roomy-header, roomy-body, cells-kept, subtypes-kept, header-kept, whole}

-- at a reader's stage
pub at_stage : (g : Stage) (r : Reader) (t l s : List ℕ) → r.stage ≡ g → meaning r t l s ≡ meaning_at g r t l s
unfolding meaning
at_stage g r t l s e = ap (λ (x : Stage). meaning_at x r t l s) e

onward-begun : (r : Reader) (nums : List ℕ) (g : Stage) → between_at g (onward r nums) ≡ false
onward-begun r nums Header = refl
onward-begun r nums Body = refl
onward-begun r nums Numbers = rw (ne_eqb (r.field + 1) 0 (λ z. omega arith))
onward-begun r nums Bytes = refl

-- ---- a byte of a number, at a stage of numbers
module _ (g : Stage) (r : Reader) (t l : List ℕ) (b : ℕ) (e : r.stage ≡ g) (h : Good r t l)
    (n : (r : Reader) (t l s : List ℕ) → meaning_at g r t l s ≡ of_numbers g r t s) where
  abbrev vs : List ℕ
  vs = so_far g r.field r.nums t

  abbrev k : ℕ
  k = r.last - r.field

  -- the rules have the number's part and the byte
  fed-here : (s : List ℕ) (f : Fed) → fed_by r.part b ≡ f → meaning r t l (b ∷ s) ≡ outer g t (fed_going vs k s f)
  fed-here s f q = at_stage g r t l (b ∷ s) e ∙ n r t l (b ∷ s) ∙ ap (outer g t) (going-byte r.part vs k b s h.small ∙ ap (fed_going vs k s) q)

  -- the number goes on
  number-on : (q : Part) → fed_by r.part b ≡ fed.More q
      → Onward r t l (b ∷ []) (with_part r q) t l
  unfolding fed_going
  number-on q f =
      record {
        good = record { small = (small-more r.part q b h.small f).0; within = h.within; six = h.six; buffer = h.buffer; here = same_here r.stage h.here };
        stage = refl;
        table = λ z. refl;
        size = refl;
        begun = λ z. not-between r.stage;
        same = λ ys.
            fed-here ys (fed.More q) f
            ∙ sym (at_stage g (with_part r q) t l ys e
            ∙ n (with_part r q) t l ys);
      }
    where
      same_here : (g : Stage) → GoodAt g r t → GoodAt g (with_part r q) t
      same_here Header x = x
      same_here Body x = x
      same_here Numbers x = x
      same_here Bytes x = x

      not-between : (g : Stage) → between_at g (with_part r q) ≡ false
      not-between Header = refl
      not-between Body = refl
      not-between Numbers = rw (ne_eqb q.count 0 (λ z. omega (arith, (small-more r.part q b h.small f).1))) (and-false (eqb r.field 0))
      not-between Bytes = refl

  -- a bad number
  number-bad : fed_by r.part b ≡ fed.Bad → outer g t bad ≡ fault_at g → Faulty r t l (b ∷ [])
  unfolding fed_going
  number-bad f o = record { same = λ ys. fed-here ys fed.Bad f ∙ o ∙ ap fault_at (sym e) }

  -- a whole number v, not the stage's last
  number-next : (v : ℕ) → fed_by r.part b ≡ fed.Done v → r.field < r.last
      → so_far g (r.field + 1) (kept_nums_at g r.field v r.nums) (kept_table_at g r.field v t) ≡ vs ++ (v ∷ [])
      → ((x : Taken (List ℕ)) → outer g (kept_table_at g r.field v t) x ≡ outer g t x)
      → GoodAt g (onward r (kept_nums_at g r.field v r.nums)) (kept_table_at g r.field v t)
      → (calling_at g ≡ true → kept_table_at g r.field v t ≡ t)
      → length (kept_table_at g r.field v t) ≡ length t
      → length (kept_nums_at g r.field v r.nums) ≡ call_numbers
      → Onward r t l (b ∷ []) (onward r (kept_nums_at g r.field v r.nums)) (kept_table_at g r.field v t) l
  unfolding fed_going
  number-next v f lt kept same good table size six =
      record {
        good = record {
          small = small-start;
          within = omega arith;
          six = six;
          buffer = h.buffer;
          here = subst (λ (x : Stage). GoodAt x (onward r (kept_nums_at g r.field v r.nums)) (kept_table_at g r.field v t)) (sym e) good;
        };
        stage = refl;
        table = λ z. table (ap calling_at (sym e) ∙ z);
        size = size;
        begun = λ z. onward-begun r (kept_nums_at g r.field v r.nums) r.stage;
        same = λ ys.
            let less : r.last - r.field ≡ suc (r.last - (r.field + 1)) = omega arith in
            fed-here ys (fed.Done v) f
            ∙ ap (λ (j : ℕ). outer g t (numbers_from (vs ++ (v ∷ [])) j ys)) less
            ∙ ap (outer g t) (going_start (vs ++ (v ∷ [])) (r.last - (r.field + 1)) ys)
            ∙ sym (at_stage g (onward r (kept_nums_at g r.field v r.nums)) (kept_table_at g r.field v t) l ys e
            ∙ n (onward r (kept_nums_at g r.field v r.nums)) (kept_table_at g r.field v t) l ys
            ∙ ap (λ (ws : List ℕ). outer g (kept_table_at g r.field v t) (going start ws (r.last - (r.field + 1)) ys)) kept
            ∙ same (going start (vs ++ (v ∷ [])) (r.last - (r.field + 1)) ys));
      }

  -- a whole number v, the stage's last: the numbers are whole
  number-last : (v : ℕ) (s : List ℕ) → fed_by r.part b ≡ fed.Done v → r.last ≤ r.field → meaning r t l (b ∷ s) ≡ outer g t (took (vs ++ (v ∷ [])) s)
  unfolding fed_going numbers_from
  number-last v s f ge =
      let none : r.last - r.field ≡ 0 = omega arith in
      fed-here s (fed.Done v) f ∙ ap (λ (j : ℕ). outer g t (numbers_from (vs ++ (v ∷ [])) j s)) none

-- ---- the last number of the header

-- the counts of a configuration that is taken
counts-range : (c : List ℕ) → test (replayable c) ≡ true → Fits (get_or c 0 0) (get_or c 6 0)
unfolding replayable configured_ok header_ok cells subtypes
counts-range c e =
    let w = (holds (replayable c) e).0.0 in
    record { some-cells = w.0.0; few-cells = w.0.1; few-subtypes = w.1.1.1.1.1.1.0 }

pub refused : (vs : List ℕ) (x : Taken (List ℕ)) → 6 < length vs → (Fits (get_or vs 0 0) (get_or vs 6 0) → ⊥) → accepted (body_then vs x) ≡ bad
unfolding accepted body_then
refused vs bad h n = refl
refused vs (took ws after) h n = rw (refuted (test (replayable (vs ++ (0 ∷ []) ++ ws))) not_taken)
  where
    at : (i : ℕ) → i < length vs → get_or (vs ++ (0 ∷ []) ++ ws) i 0 ≡ get_or vs i 0
    at i l = get_or-append (vs ++ (0 ∷ [])) ws 0 i (omega (arith, l, length-append vs (0 ∷ []))) ∙ get_or-append vs (0 ∷ []) 0 i l

    not_taken : test (replayable (vs ++ (0 ∷ []) ++ ws)) ≡ true → ⊥
    not_taken t = n (rw (at 0 (omega arith), at 6 h) at (counts-range (vs ++ (0 ∷ []) ++ ws) t))

module _ (r : Reader) (t l : List ℕ) (b v : ℕ) (e : r.stage ≡ Header) (h : Good r t l) (w : (r.last ≡ 6) × Roomy t) (f : fed_by r.part b ≡ fed.Done v)
    (ge : r.last ≤ r.field) where
  abbrev t' : List ℕ
  t' = set t r.field v

  at_last : r.field ≡ 6
  at_last = omega (arith, h.within, w.0)

  header_read : take r.field t ++ (v ∷ []) ≡ take header_numbers t'
  header_read = sym (take_more_set t r.field v (omega (arith, at_last, w.1.room))) ∙ ap (λ (j : ℕ). take (j + 1) t') at_last

  cells_of : get_or (take header_numbers t') 0 0 ≡ get_or t' 0 0
  cells_of = get_or-take header_numbers t' 0 0 (omega arith)

  subtypes-of : get_or (take header_numbers t') 6 0 ≡ get_or t' 6 0
  subtypes-of = get_or-take header_numbers t' 6 0 (omega arith)

  header-whole : (s : List ℕ) → meaning r t l (b ∷ s) ≡ configured (accepted (body_then (take header_numbers t') (numbers (numbers_after t') s)))
  unfolding header_then
  header-whole s =
      number-last Header r t l b e h (λ r t l s. refl) v s f ge
      ∙ ap (λ (vs : List ℕ). configured (accepted (header_then (took vs s)))) header_read
      ∙ ap (λ (n : ℕ). configured (accepted (body_then (take header_numbers t') (numbers n s)))) (rw (cells_of, subtypes-of))

  header_refused : (Fits (get_or t' 0 0) (get_or t' 6 0) → ⊥) → Faulty r t l (b ∷ [])
  header_refused n =
      record {
        same = λ ys.
            header-whole ys
            ∙ ap configured (refused (take header_numbers t') (numbers (numbers_after t') ys) seven (λ x. n (rw (cells_of, subtypes-of) at x)))
            ∙ ap fault_at (sym e);
      }
    where
      seven : 6 < length (take header_numbers t')
      seven = rw (length-take-le header_numbers t' (omega (arith, length-set t r.field v, w.1.room))) (omega arith)

  header-next : (c : ℕ) → suc c ≡ numbers_after t' → Fits (get_or t' 0 0) (get_or t' 6 0) → Onward r t l (b ∷ []) (awaiting Body c r.nums) t' l
  header-next c q few =
      record {
        good = record {
          small = small-start;
          within = omega arith;
          six = h.six;
          buffer = h.buffer;
          here =
              (q, few, roomy-header t r.field v (omega (arith, at_last)) w.1);
        };
        stage = ap calling_at (sym e);
        table = λ z. absurd (true≢false (sym z ∙ ap calling_at e));
        size = length-set t r.field v;
        begun = λ z. refl;
        same = λ ys.
            header-whole ys
            ∙ ap (λ (j : ℕ). configured (accepted (body_then (take header_numbers t') (numbers j ys)))) (sym q)
            ∙ ap (λ (x : Taken (List ℕ)). configured (accepted (body_then (take header_numbers t') x)))
            (going_start [] c ys ∙ ap (λ (j : ℕ). going start [] j ys) (let z : c ≡ c - 0 = omega arith in z))
            ∙ sym (at_stage Body (awaiting Body c r.nums) t' l ys refl);
      }

  header-last : Told (header_ended r r.nums t').what r t l (b ∷ []) (header_ended r r.nums t').reader t' l []
  unfolding header_ended
  header-last =
      split _ (counts_fit (get_or t' 0 0) (get_or t' 6 0))
      (λ x. rw x (let y = fits-of (get_or t' 0 0) (get_or t' 6 0) x in (refl, header-next (numbers_after t' - 1) (pos y) y)))
      (λ x. rw x (header_refused (λ y. both_ways _ (fits-counted (get_or t' 0 0) (get_or t' 6 0) y) x)))
    where
      pos : Fits (get_or t' 0 0) (get_or t' 6 0) → suc (numbers_after t' - 1) ≡ numbers_after t'
      pos y = omega (arith, y.some-cells)

-- ---- the last number of the body
module _ (r : Reader) (t l : List ℕ) (b v : ℕ) (e : r.stage ≡ Body) (h : Good r t l) (w : (suc r.last ≡ numbers_after t) × Fits (get_or t 0 0) (get_or t 6 0) × Roomy t)
    (f : fed_by r.part b ≡ fed.Done v) (ge : r.last ≤ r.field) where
  abbrev t'' : List ℕ
  t'' = set t (header_words + r.field) v

  body-place : header_words + r.field < length t
  body-place = omega (arith, h.within, w.0, w.1.few-cells, w.1.few-subtypes, w.2.room)

  all-body : take r.field (drop header_words t) ++ (v ∷ []) ≡ take (numbers_after t'') (drop header_words t'')
  all-body =
      let n : r.field + 1 ≡ numbers_after t'' = omega (arith, h.within, w.0, cells-kept t r.field v, subtypes-kept t r.field v) in
      sym (take-more-past header_words t r.field v body-place) ∙ ap (λ (j : ℕ). take j (drop header_words t'')) n

  pub body-last : Configured r t l (b ∷ []) (at_call r.nums) t'' l []
  unfolding body_then
  body-last =
      record {
        stage = ap calling_at e;
        reader = refl;
        good = record { small = small-start; within = omega arith; six = h.six; buffer = h.buffer; here = refl };
        size = length-set t (header_words + r.field) v;
        roomy = roomy-body t r.field v w.2;
        counts = rw (cells-kept t r.field v, subtypes-kept t r.field v) w.1;
        same = λ ys.
            number-last Body r t l b e h (λ r t l s. refl) v ys f ge
            ∙ ap (λ (ws : List ℕ). configured (accepted (took (take header_numbers t ++ (0 ∷ []) ++ ws) ys))) all-body
            ∙ ap (λ (vs : List ℕ). configured (accepted (took (vs ++ (0 ∷ []) ++ take (numbers_after t'') (drop header_words t'')) ys)))
            (sym (header-kept t r.field v))
            ∙ ap (λ (c : List ℕ). configured (accepted (took c ys))) (whole t'' (roomy-body t r.field v w.2));
      }

-- ---- the last number of a call
module _ (r : Reader) (t l : List ℕ) (b v : ℕ) (e : r.stage ≡ Numbers) (h : Good r t l) (w : r.last ≡ 5) (f : fed_by r.part b ≡ fed.Done v) (ge : r.last ≤ r.field) where
  abbrev nums' : List ℕ
  nums' = set r.nums r.field v

  fifth : r.field ≡ 5
  fifth = let a = h.within in omega arith

  in-nums : r.field < length r.nums
  in-nums = let a = h.six in let p = fifth in omega arith

  six' : length nums' ≡ call_numbers
  six' = length-set r.nums r.field v ∙ h.six

  all-nums : take r.field r.nums ++ (v ∷ []) ≡ nums'
  all-nums = sym (take_more_set r.nums r.field v in-nums) ∙ take_all (r.field + 1) nums' (let a = six' in let p = fifth in omega arith)

  length-of : get_or nums' 5 0 ≡ v
  length-of = ap (λ (j : ℕ). get_or nums' j 0) (sym fifth) ∙ get_or-set_same r.nums r.field v 0 in-nums

  numbers-whole : (s : List ℕ) → meaning r t l (b ∷ s) ≡ called (cond (leb v max_buffer && leb v (length s)) (took (call_from nums' (take v s)) (drop v s)) bad)
  unfolding call_then
  numbers-whole s =
      number-last Numbers r t l b e h (λ r t l s. refl) v s f ge
      ∙ ap (λ (vs : List ℕ). called (call_then (took vs s))) all-nums
      ∙ ap (λ (n : ℕ). called (cond (leb n max_buffer && leb n (length s)) (took (call_from nums' (take n s)) (drop n s)) bad)) length-of

  -- no bytes follow
  no_bytes : v ≡ 0 → Called r t l (b ∷ []) (at_call nums') t l []
  no_bytes z =
      record {
        stage = ap calling_at e;
        reader = refl;
        good = record { small = small-start; within = omega arith; six = six'; buffer = h.buffer; here = refl };
        table = refl;
        short = rw (length-of, z) (omega arith);
        same = λ ys. numbers-whole ys ∙ rw (length-of, z, le-leb 0 (length ys) (omega arith));
      }

  -- v bytes follow
  some_bytes : v ≤ max_buffer → (v ≡ 0 → ⊥) → Onward r t l (b ∷ []) (awaiting Bytes (v - 1) nums') t l
  unfolding bytes_then
  some_bytes x y =
      let one : suc (v - 1) ≡ v = omega arith in
      let all : suc (v - 1 - 0) ≡ v = omega arith in
      record {
        good = record { small = small-start; within = omega arith; six = six'; buffer = h.buffer; here = (one ∙ sym length-of, rw length-of x) };
        stage = ap calling_at (sym e);
        table = λ z. refl;
        size = refl;
        begun = λ z. refl;
        same = λ ys.
            numbers-whole ys
            ∙ rw (le-leb v max_buffer x) (sym (at_stage Bytes (awaiting Bytes (v - 1) nums') t l ys refl
            ∙ ap (λ (n : ℕ). called (cond (leb n (length ys)) (took (call_from nums' (take n ys)) (drop n ys)) bad)) all));
      }

  numbers-last : Told (numbers_ended r nums' v).what r t l (b ∷ []) (numbers_ended r nums' v).reader t l []
  unfolding numbers_ended
  numbers-last =
      split _ (ltb max_buffer v)
      (λ x. rw x (record { same = λ ys. too_long (ltb-true max_buffer v x) ys }))
      (λ x. rw x (split _ (eqb v 0)
      (λ y. rw y (no_bytes (eqb-true v 0 y)))
      (λ y. rw y (refl, some_bytes (ltb-false max_buffer v x) (eqb-false v 0 y)))))
    where
      too_long : max_buffer < v → (ys : List ℕ) → meaning r t l (b ∷ ys) ≡ fault_at r.stage
      too_long x ys = numbers-whole ys ∙ rw (lt-leb v max_buffer x, e)

-- ---- a byte of a call's buffer
bytes-more : (nums g : List ℕ) (k b : ℕ) (s : List ℕ) → bytes_then nums g (suc k) (b ∷ s) ≡ bytes_then nums (g ++ (b ∷ [])) k s
unfolding bytes_then
bytes-more nums g k b s = rw (leb-suc-suc k (length s), append_snoc g b (take k s))

bytes-none : (nums g s : List ℕ) → bytes_then nums g 0 s ≡ took (call_from nums g) s
unfolding bytes_then
bytes-none nums g s = rw (le-leb 0 (length s) (omega arith), append-nil g)

module _ (r : Reader) (t l : List ℕ) (b : ℕ) (e : r.stage ≡ Bytes) (h : Good r t l) (w : (suc r.last ≡ get_or r.nums 5 0) × (get_or r.nums 5 0 ≤ max_buffer)) where
  abbrev l' : List ℕ
  l' = set l r.field b

  in_buffer : r.field < length l
  in_buffer = let a = h.within in let p = w.0 in let q = w.1 in let z = h.buffer in omega arith

  buffer' : max_buffer ≤ length l'
  buffer' = rw (length-set l r.field b) h.buffer

  -- the byte follows those that were read
  byte-taken : (s : List ℕ) → meaning r t l (b ∷ s) ≡ called (bytes_then r.nums (take (r.field + 1) l') (r.last - r.field) s)
  byte-taken s =
      at_stage Bytes r t l (b ∷ s) e
      ∙ ap called (bytes-more r.nums (take r.field l) (r.last - r.field) b s
      ∙ ap (λ (g : List ℕ). bytes_then r.nums g (r.last - r.field) s) (sym (take_more_set l r.field b in_buffer)))

  bytes_next : r.field < r.last → Onward r t l (b ∷ []) (onward r r.nums) t l'
  bytes_next lt =
      let less : r.last - r.field ≡ suc (r.last - (r.field + 1)) = omega arith in
      record {
        good = record {
          small = small-start;
          within = omega arith;
          six = h.six;
          buffer = buffer';
          here = subst (λ (x : Stage). GoodAt x (onward r r.nums) t) (sym e) w;
        };
        stage = refl;
        table = λ z. refl;
        size = refl;
        begun = λ z. onward-begun r r.nums r.stage;
        same = λ ys.
            byte-taken ys
            ∙ ap (λ (j : ℕ). called (bytes_then r.nums (take (r.field + 1) l') j ys)) less
            ∙ sym (at_stage Bytes (onward r r.nums) t l' ys e);
      }

  bytes-last : r.last ≤ r.field → Called r t l (b ∷ []) (at_call r.nums) t l' []
  bytes-last ge =
      let a = h.within in
      let p = w.0 in
      let none : r.last - r.field ≡ 0 = omega arith in
      let all : r.field + 1 ≡ get_or r.nums 5 0 = omega arith in
      record {
        stage = ap calling_at e;
        reader = refl;
        good = record { small = small-start; within = omega arith; six = h.six; buffer = buffer'; here = refl };
        table = refl;
        short = w.1;
        same = λ ys.
            byte-taken ys
            ∙ ap called (ap (λ (j : ℕ). bytes_then r.nums (take (r.field + 1) l') j ys) none ∙ bytes-none r.nums (take (r.field + 1) l') ys
            ∙ ap (λ (j : ℕ). took (call_from r.nums (take j l')) ys) all);
      }

  bytes-told : Told (byte_took r).what r t l (b ∷ []) (byte_took r).reader t l' []
  unfolding byte_took
  bytes-told =
      split _ (ltb r.field r.last)
      (λ x. rw x (refl, bytes_next (ltb-true r.field r.last x)))
      (λ x. rw x (bytes-last (ltb-false r.field r.last x)))

-- ---- any byte

-- what a byte did, as the rules say it
abbrev pub ToldRead : Reader → List ℕ → List ℕ → ℕ → Read → Type 0
ToldRead r t l b x = Told x.took.what r t l (b ∷ []) x.took.reader x.table x.buffer []

-- a whole number, at a stage
abbrev numbered_at : Stage → Reader → List ℕ → ℕ → Took
numbered_at g r t v =
    cond (ltb r.field r.last) (took_of what.More (onward r (kept_nums_at g r.field v r.nums)))
    (ended_at g r (kept_nums_at g r.field v r.nums) (kept_table_at g r.field v t) v)

module _ (r : Reader) (t l : List ℕ) (b : ℕ) (h : Good r t l) where
  here-at : (g : Stage) → r.stage ≡ g → GoodAt g r t
  here-at g e = subst (λ (x : Stage). GoodAt x r t) e h.here

  -- a byte of a number, where what a whole number does is told
  number-told : (g : Stage) → r.stage ≡ g → ((r : Reader) (t l s : List ℕ) → meaning_at g r t l s ≡ of_numbers g r t s) → outer g t bad ≡ fault_at g
      → ((v : ℕ) → fed_by r.part b ≡ fed.Done v → ToldRead r t l b (read (numbered_at g r t v) (kept_table_at g r.field v t) l)) → ToldRead r t l b (number_read r t l b)
  unfolding fed_took fed_table numbered
  number-told g e n o d = go (fed_by r.part b) refl
    where
      go : (f : Fed) → fed_by r.part b ≡ f → ToldRead r t l b (read (fed_took r t f) (fed_table r t f) l)
      go (fed.More q) q' = (refl, number-on g r t l b e h n q q')
      go (fed.Done v) q = subst (λ (x : Stage). ToldRead r t l b (read (numbered_at x r t v) (kept_table_at x r.field v t) l)) (sym e) (d v q)
      go fed.Bad q = number-bad g r t l b e h n q o

  header-told : r.stage ≡ Header → ToldRead r t l b (number_read r t l b)
  unfolding header_then accepted
  header-told e =
      number-told Header e (λ r t l s. refl) refl
      (λ v f. split _ (ltb r.field r.last)
      (λ x. rw x (refl, next v f (ltb-true r.field r.last x)))
      (λ x. rw x (header-last r t l b v e h (here-at Header e) f (ltb-false r.field r.last x))))
    where
      next : (v : ℕ) → fed_by r.part b ≡ fed.Done v → r.field < r.last → Onward r t l (b ∷ []) (onward r r.nums) (set t r.field v) l
      next v f lt =
          let w = here-at Header e in
          let p = w.0 in
          let q = w.1.room in
          number-next Header r t l b e h (λ r t l s. refl) v f lt (take_more_set t r.field v (omega arith)) (λ x. refl)
          (w.0, roomy-header t r.field v (omega arith) w.1) (λ z. absurd (true≢false (sym z))) (length-set t r.field v) h.six

  body-told : r.stage ≡ Body → ToldRead r t l b (number_read r t l b)
  unfolding body_then accepted
  body-told e =
      number-told Body e (λ r t l s. refl) refl
      (λ v f. split _ (ltb r.field r.last)
      (λ x. rw x (refl, next v f (ltb-true r.field r.last x)))
      (λ x. rw x (body-last r t l b v e h (here-at Body e) f (ltb-false r.field r.last x))))
    where
      next : (v : ℕ) → fed_by r.part b ≡ fed.Done v → r.field < r.last → Onward r t l (b ∷ []) (onward r r.nums) (set t (header_words + r.field) v) l
      next v f lt =
          let w = here-at Body e in
          let c = cells-kept t r.field v in
          let u = subtypes-kept t r.field v in
          number-next Body r t l b e h (λ r t l s. refl) v f lt (take-more-past header_words t r.field v (omega (arith, w.0, w.1.few-cells, w.1.few-subtypes, w.2.room)))
          (λ x. ap (λ (vs : List ℕ). configured (accepted (body_then vs x))) (header-kept t r.field v))
          (rw (c, u) w.0, rw (c, u) w.1, roomy-body t r.field v w.2) (λ z. absurd (true≢false (sym z)))
          (length-set t (header_words + r.field) v) h.six

  numbers-told : r.stage ≡ Numbers → ToldRead r t l b (number_read r t l b)
  unfolding call_then
  numbers-told e =
      number-told Numbers e (λ r t l s. refl) refl
      (λ v f. split _ (ltb r.field r.last)
      (λ x. rw x (refl, next v f (ltb-true r.field r.last x)))
      (λ x. rw x (numbers-last r t l b v e h (here-at Numbers e) f (ltb-false r.field r.last x))))
    where
      next : (v : ℕ) → fed_by r.part b ≡ fed.Done v → r.field < r.last → Onward r t l (b ∷ []) (onward r (set r.nums r.field v)) t l
      next v f lt =
          let w = here-at Numbers e in
          let s = h.six in
          number-next Numbers r t l b e h (λ r t l s. refl) v f lt (take_more_set r.nums r.field v (omega arith)) (λ x. refl) w (λ z. refl) refl
          (length-set r.nums r.field v ∙ h.six)

  pub byte-told : ToldRead r t l b (take_one r t l b)
  unfolding take_one
  byte-told = go r.stage refl
    where
      go : (g : Stage) → r.stage ≡ g → ToldRead r t l b (take_at g r t l b)
      go Header e = header-told e
      go Body e = body-told e
      go Numbers e = numbers-told e
      go Bytes e = bytes-told r t l b e h (here-at Bytes e)
