-- The whole: whatever pieces an input comes in, and whatever pieces the recorded listing, what a check finds is what the rules find.
use Rattle.std.proofs.Common.{◌≡◌, ℕ, ◌+◌, ◌^◌, ◌<◌, ◌≤◌, min, Bool, true, false, ◌||◌, List, [], ◌++◌, length, take, drop, sym, refl, ap, ◌∙◌, subst, ap₂, true≢false, append-nil, arith, length-drop, drop_of_length-le, length-take, ltb-false, ltb-true}
use lib.Seq.{sets, length-sets}
use Rattle.laws.proofs.Tests.{passed, split, cond-true, cond-false, or-rest}
use Rattle.output.proofs.Laws.{take-sets}
use Rattle.text.specs.Room.{line_bytes}
use Rattle.session.specs.declared.Session.{Session}
use Rattle.session.specs.Turn.{blank_table, finish_text, Turn, turn}
use Rattle.session.proofs.Due.{Fine, to_come, Hands, over_nothing, turn-hands, turn-rest, finish-hands, start-hands}
use Rattle.session.proofs.Ways.{finish-short}
use Rattle.session.proofs.Whole.{Lent, fine-start}
use Rattle.checker.specs.declared.Check.{Check}
use Rattle.checker.specs.declared.Checked.{Checked}
use Rattle.checker.specs.declared.Finding as code
use Rattle.rules.specs.Finding.{finding}
use Rattle.checker.specs.Scan.{verdict, scanned, alike}
use Rattle.checker.specs.Check.{new_check, waits, wants_input, filled, Fed, fed_by, fed, Feeds, ended, last_check, last_output, waiting, agreed, met, coded}
use Rattle.checker.proofs.Scan.{finding-scanned, Onward, onward, ends-apart, ends-due, ends_more, ends-both}

-- A driver of a check is at place i of a piece s of the input, of which ys is not read, and at place j of a piece r of what is recorded, of which zs is not read.
-- It lends one table, store, buffer and output all through, the output with room for a line. All that is said of `start`, `due`, `last`, `compare`, `wants_input` and
-- `found` here is what they ensure. The last is what it finds.
pub data Goes : Check → List ℕ → List ℕ → List ℕ → List ℕ → List ℕ → ℕ → List ℕ → List ℕ → ℕ → List ℕ → code.Finding → Type 0 where
  went_on : (x : Check) (t st l o s : List ℕ) (i : ℕ) (ys r : List ℕ) (j : ℕ) (zs : List ℕ) (q : Checked) (t' st' l' o' : List ℕ) (f : code.Finding) → line_bytes ≤ length o
      → Feeds (fed x t st l o (drop i s) i) q t' st' l' o'
      → Goes q.check t' st' l' o' s q.next ys r j zs f
      → Goes x t st l o s i ys r j zs f
  -- nothing more of the input is to be read
  ended-input : (x : Check) (t st l o s : List ℕ) (i : ℕ) (r : List ℕ) (j : ℕ) (zs : List ℕ) (y : Check) (o' : List ℕ) (f : code.Finding) → length s ≤ i → line_bytes ≤ length o
      → (y ≡ last_check x o) × (o' ≡ last_output x o)
      → Goes y t st l o' s i [] r j zs f
      → Goes x t st l o s i [] r j zs f
  matched : (x : Check) (t st l o s : List ℕ) (i : ℕ) (ys r : List ℕ) (j : ℕ) (zs : List ℕ) (q : Checked) (f : code.Finding) → q ≡ met x (agreed x o r j)
      → Goes q.check t st l o s i ys r q.next zs f
      → Goes x t st l o s i ys r j zs f
  -- a piece is used up: some more is read
  read-input : (x : Check) (t st l o s : List ℕ) (i : ℕ) (s' ys r : List ℕ) (j : ℕ) (zs : List ℕ) (f : code.Finding) → length s ≤ i
      → Goes x t st l o s' 0 ys r j zs f → Goes x t st l o s i (s' ++ ys) r j zs f
  read-recorded : (x : Check) (t st l o s : List ℕ) (i : ℕ) (ys r : List ℕ) (j : ℕ) (r' zs : List ℕ) (f : code.Finding) → length r ≤ j
      → Goes x t st l o s i ys r' 0 zs f → Goes x t st l o s i ys r j (r' ++ zs) f
  -- recorded bytes are left that do not agree
  stopped : (x : Check) (t st l o s : List ℕ) (i : ℕ) (ys r : List ℕ) (j : ℕ) (zs : List ℕ) (q : Checked) (f : code.Finding) → q ≡ met x (agreed x o r j)
      → wants_input q.check ≡ false → q.next < length r → f ≡ coded (verdict q.check.lines q.check.within (waits q.check) true)
      → Goes x t st l o s i ys r j zs f
  -- nothing more of what is recorded is to be read
  ended-recorded : (x : Check) (t st l o s : List ℕ) (i : ℕ) (ys r : List ℕ) (j : ℕ) (f : code.Finding) → wants_input x ≡ false → length r ≤ j
      → f ≡ coded (verdict x.lines x.within (waits x) false)
      → Goes x t st l o s i ys r j [] f

-- ---- what is due from here on: what waits in the output, and what is to come from the session for what is left of the input
abbrev ahead : Check → List ℕ → List ℕ → List ℕ → List ℕ → List ℕ → List ℕ
ahead x t st l o s = waiting x o ++ to_come x.session t st l s

none-waits : (x : Check) (o : List ℕ) → waits x ≡ false → waiting x o ≡ []
none-waits x o e =
    let n = length-take x.end o in
    let m : length (take x.end o) ≤ x.at = omega (arith, ltb-false x.at x.end e) in
    drop_of_length-le (take x.end o) m

some-waits : (x : Check) (o : List ℕ) → x.end ≤ length o → waits x ≡ true → 0 < length (waiting x o)
some-waits x o h e =
    let n = length-take x.end o in
    let m = length-drop x.at (take x.end o) in
    omega (arith, ltb-true x.at x.end e)

-- a text that fits stands in the output
text-waits : (x : Check) (y : Session) (o s : List ℕ) → length s ≤ length o → waiting (filled x y (min (length s) (length o))) (sets o 0 s) ≡ s
text-waits x y o s h = take-sets o s (min (length s) (length o)) (omega arith) (omega arith)

-- a check that can come up, before an input s
pub record Ready (x : Check) (t st l o s : List ℕ) : Type 0 where
  pub fine : x.session.over ≡ false → Fine x.session t st l s
  pub inside : x.end ≤ length o

-- it goes on to another: as many lines agree, and the same is due
pub record Same (x : Check) (t st l o s : List ℕ) (x' : Check) (t' st' l' o' s' : List ℕ) : Type 0 where
  pub lines : x'.lines ≡ x.lines
  pub within : x'.within ≡ x.within
  pub text : ahead x t st l o s ≡ ahead x' t' st' l' o' s'
  pub ready : Ready x' t' st' l' o' s'

-- ---- the session takes a turn
fed-same : (x : Check) (t st l o s : List ℕ) (i : ℕ) (ys : List ℕ) → Ready x t st l o (drop i s ++ ys) → line_bytes ≤ length o → (k : Fed) → fed x t st l o (drop i s) i ≡ k
    → length k.text ≤ line_bytes → Same x t st l o (drop i s ++ ys) k.check k.table k.store k.buffer k.output (drop k.next s ++ ys)
unfolding fed
fed-same x t st l o s i ys p room k e short = split _ (waits x)
    (λ w. subst (λ (z : Fed). Same x t st l o (drop i s ++ ys) z.check z.table z.store z.buffer z.output (drop z.next s ++ ys))
    (sym (cond-true (waits x) _ _ w) ∙ e)
    (record { lines = refl; within = refl; text = refl; ready = p }))
    (λ w. let by : fed_by x o (turn x.session t st l (drop i s) i) ≡ k = sym (cond-false (waits x) _ _ w) ∙ e in
    subst (λ (z : Fed). Same x t st l o (drop i s ++ ys) z.check z.table z.store z.buffer z.output (drop z.next s ++ ys)) by
    (turned w (subst (λ (z : Fed). length z.text ≤ line_bytes) (sym by) short)))
  where
    a : Turn
    a = turn x.session t st l (drop i s) i

    turned : waits x ≡ false → length a.text ≤ line_bytes
        → Same x t st l o (drop i s ++ ys) (filled x a.session (min (length a.text) (length o))) a.table a.store a.buffer (sets o 0 a.text)
        (drop a.next s ++ ys)
    turned w h =
        let hands : Hands x.session t st l (drop i s) ys a = turn-hands x.session t st l (drop i s) ys i p.fine in
        let rest : a.rest ++ ys ≡ drop a.next s ++ ys = ap (λ (z : List ℕ). z ++ ys) (turn-rest x.session t st l s i) in
        record {
          lines = refl;
          within = refl;
          text =
              ap (λ (z : List ℕ). z ++ to_come x.session t st l (drop i s ++ ys)) (none-waits x o w)
              ∙ hands.text
              ∙ ap₂ (λ (u v : List ℕ). u ++ to_come a.session a.table a.store a.buffer v) (sym (text-waits x a.session o a.text (omega arith))) rest;
          ready = record {
            fine = λ z. subst (Fine a.session a.table a.store a.buffer) rest (hands.fine z);
            inside = rw (length-sets o 0 a.text) (omega arith);
          };
        }

-- ---- the input has ended
last-same : (x : Check) (t st l o : List ℕ) → Ready x t st l o [] → line_bytes ≤ length o → Same x t st l o [] (last_check x o) t st l (last_output x o) []
unfolding last_check last_output
last-same x t st l o p room = split _ (waits x)
    (λ w. rw w (record { lines = refl; within = refl; text = refl; ready = p }))
    (λ w. rw w (record {
      lines = refl;
      within = refl;
      text =
          ap (λ (z : List ℕ). z ++ to_come x.session t st l []) (none-waits x o w)
          ∙ finish-hands x.session t st l
          ∙ sym (append-nil (finish_text x.session))
          ∙ ap₂ ◌++◌ (sym (text-waits x (ended x.session) o (finish_text x.session) (omega (arith, finish-short x.session))))
          (sym (over_nothing (ended x.session) t st l [] refl));
      ready = record {
        fine = λ z. absurd (true≢false z);
        inside = rw (length-sets o 0 (finish_text x.session)) (omega arith);
      };
    }))

-- ---- what the finding is from here on
abbrev expected : Check → List ℕ → List ℕ → List ℕ → List ℕ → List ℕ → List ℕ → code.Finding
expected x t st l o s r = coded (scanned x.lines x.within (ahead x t st l o s) r)

goes_same : (x : Check) (t st l o s : List ℕ) (x' : Check) (t' st' l' o' s' r : List ℕ) → Same x t st l o s x' t' st' l' o' s'
    → expected x' t' st' l' o' s' r ≡ expected x t st l o s r
goes_same x t st l o s x' t' st' l' o' s' r p =
    ap₂ (λ (n : ℕ) (w : Bool). coded (scanned n w (ahead x' t' st' l' o' s') r)) p.lines p.within
    ∙ ap (λ (z : List ℕ). coded (scanned x.lines x.within z r)) (sym p.text)

-- as far as what waits agrees with the piece r from place j on
far : (x : Check) (o r : List ℕ) (j : ℕ) (D zs : List ℕ) → x.lines + length (drop j r ++ zs) < 2 ^ 64
    → Onward x.lines x.within (waiting x o) (drop j r) D zs (take x.end o) r (agreed x o r j)
far x o r j D zs h = onward x.lines x.within x.at j (waiting x o) (drop j r) D zs (take x.end o) r refl refl h

-- a check that wants no input: text waits, or nothing more is due
wants-none : (x : Check) (t st l s : List ℕ) → wants_input x ≡ false → waits x ≡ false → to_come x.session t st l s ≡ []
wants-none x t st l s e w = over_nothing x.session t st l s (or-rest (waits x) x.session.over (passed (waits x || x.session.over) e) w)

-- recorded bytes are left that do not agree
left_over : (x : Check) (t st l o s r : List ℕ) (j : ℕ) (zs : List ℕ) → x.end ≤ length o → wants_input x ≡ false → j < length r
    → (waits x ≡ true → alike (waiting x o) (drop j r) ≡ false)
    → scanned x.lines x.within (ahead x t st l o s) (drop j r ++ zs) ≡ verdict x.lines x.within (waits x) true
left_over x t st l o s r j zs h e k a =
    let n = length-drop j r in
    split _ (waits x)
    (λ w. rw w (ends-apart x.lines x.within (waiting x o) (drop j r) (to_come x.session t st l s) zs (some-waits x o h w) (omega arith) (a w)))
    (λ w. rw (w, none-waits x o w, wants-none x t st l s e w) (ends_more x.lines x.within (drop j r) zs (omega arith)))

-- none is left
run_out : (x : Check) (t st l o s : List ℕ) → x.end ≤ length o → wants_input x ≡ false
    → scanned x.lines x.within (ahead x t st l o s) [] ≡ verdict x.lines x.within (waits x) false
run_out x t st l o s h e = split _ (waits x)
    (λ w. rw w (ends-due x.lines x.within (waiting x o) (to_come x.session t st l s) (some-waits x o h w)))
    (λ w. rw (w, none-waits x o w, wants-none x t st l s e w) (ends-both x.lines x.within))

goes : {x : Check} {t st l o s : List ℕ} {i : ℕ} {ys r : List ℕ} {j : ℕ} {zs : List ℕ} {f : code.Finding} → Goes x t st l o s i ys r j zs f
    → Ready x t st l o (drop i s ++ ys) → x.lines + length (drop j r ++ zs) < 2 ^ 64 → f ≡ expected x t st l o (drop i s ++ ys) (drop j r ++ zs)
goes (went_on x t st l o s i ys r j zs q t' st' l' o' f room p g) m n =
    let k : Fed = fed x t st l o (drop i s) i in
    let a = fed-same x t st l o s i ys m room k refl p.short in
    let b : Same x t st l o (drop i s ++ ys) q.check t' st' l' o' (drop q.next s ++ ys) = rw (p.check, p.next, p.table, p.store, p.buffer, p.output) a in
    goes g b.ready (rw b.lines n) ∙ goes_same x t st l o (drop i s ++ ys) q.check t' st' l' o' (drop q.next s ++ ys) (drop j r ++ zs) b
goes (ended-input x t st l o s i r j zs y o' f h room p g) m n =
    let none : drop i s ++ [] ≡ [] = rw (drop_of_length-le s h) in
    let a = last-same x t st l o (subst (Ready x t st l o) none m) room in
    let b : Same x t st l o [] y t st l o' [] = rw (p.0, p.1) a in
    goes g (subst (Ready y t st l o') (sym none) b.ready) (rw b.lines n)
    ∙ ap (λ (z : List ℕ). expected y t st l o' z (drop j r ++ zs)) none
    ∙ goes_same x t st l o [] y t st l o' [] (drop j r ++ zs) b
    ∙ ap (λ (z : List ℕ). expected x t st l o z (drop j r ++ zs)) (sym none)
goes (matched x t st l o s i ys r j zs q f e g) m n =
    let w = far x o r j (to_come x.session t st l (drop i s ++ ys)) zs n in
    let b : met x (agreed x o r j) ≡ q = sym e in
    goes g (subst (λ (z : Checked). Ready z.check t st l o (drop i s ++ ys)) b (record { fine = m.fine; inside = m.inside }))
    (subst (λ (z : Checked). z.check.lines + length (drop z.next r ++ zs) < 2 ^ 64) b w.fits)
    ∙ ap (λ (z : Checked). expected z.check t st l o (drop i s ++ ys) (drop z.next r ++ zs)) e
    ∙ ap coded (sym w.same)
goes (read-input x t st l o s i s' ys r j zs f h g) m n =
    let e : drop i s ++ (s' ++ ys) ≡ drop 0 s' ++ ys = rw (drop_of_length-le s h) in
    goes g (subst (Ready x t st l o) e m) n ∙ ap (λ (z : List ℕ). expected x t st l o z (drop j r ++ zs)) (sym e)
goes (read-recorded x t st l o s i ys r j r' zs f h g) m n =
    let e : drop j r ++ (r' ++ zs) ≡ drop 0 r' ++ zs = rw (drop_of_length-le r h) in
    goes g m (subst (λ (z : List ℕ). x.lines + length z < 2 ^ 64) e n) ∙ ap (expected x t st l o (drop i s ++ ys)) (sym e)
goes (stopped x t st l o s i ys r j zs q f e w h p) m n =
    let a = far x o r j (to_come x.session t st l (drop i s ++ ys)) zs n in
    p
    ∙ ap coded (sym (left_over q.check t st l o (drop i s ++ ys) r q.next zs
    (subst (λ (z : Checked). z.check.end ≤ length o) (sym e) m.inside) w h
    (λ _. subst (λ (z : Checked). alike (waiting z.check o) (drop z.next r) ≡ false) (sym e) a.apart)))
    ∙ ap (λ (z : Checked). expected z.check t st l o (drop i s ++ ys) (drop z.next r ++ zs)) e
    ∙ ap coded (sym a.same)
goes (ended-recorded x t st l o s i ys r j f w h p) m n =
    let e : drop j r ++ [] ≡ [] = rw (drop_of_length-le r h) in
    p ∙ ap coded (sym (run_out x t st l o (drop i s ++ ys) m.inside w)) ∙ ap (expected x t st l o (drop i s ++ ys)) (sym e)

-- THE WHOLE: whatever pieces an input and a recorded listing come in, what the code finds is what the rules find
pub found_right : (t st l o : List ℕ) → Lent t st l → (x : Check) (t' : List ℕ) → (x ≡ new_check) × (t' ≡ blank_table t) → (input recorded : List ℕ) (f : code.Finding)
    → length input < 2 ^ 64 → length recorded < 2 ^ 64 → Goes x t' st l o [] 0 input [] 0 recorded f → f ≡ coded (finding input recorded)
found_right t st l o m x t' e input recorded f n k g =
    goes (subst (λ (z : List ℕ). Goes new_check z st l o [] 0 input [] 0 recorded f) e.1 (subst (λ (z : Check). Goes z t' st l o [] 0 input [] 0 recorded f) e.0 g))
    (record { fine = λ z. fine-start t st l input m n; inside = omega arith })
    (omega (arith, k))
    ∙ ap (λ (z : List ℕ). coded (scanned 0 false z recorded)) (ap₂ ◌++◌ (none-waits new_check o refl) (start-hands (blank_table t) st l input))
    ∙ ap coded (sym (finding-scanned input recorded))
