-- A piece of the input: one byte of it, its end; and that any cutting of the input gives the same.
use mathlib.Core.Bool.{true, false}
use mathlib.Core.List.{List, [], ◌∷◌, ◌++◌}
use mathlib.Core.Path.{◌≡◌, refl, sym, ap, ◌∙◌}
use Prim.Native.Nat.{ℕ, suc, ◌+◌, ◌≤◌}
use native.Mathlib.Omega.{arith}
use lib.ListN.{drop, length, drop_of_length-le}
use lib.Seq.{drop-drop}
use Rattle.laws.proofs.Tests.{split}
use Rattle.script.specs.declared.Reader.{Reader}
use Rattle.script.specs.declared.What.TheVariants.{More}
use Rattle.script.specs.Take.{is_more, take}
use Rattle.script.specs.Advance.{Advanced, advanced, stopped, advance, resumed}

-- ---- one byte, and what is left of the piece
module _ (r : Reader) (t l : List ℕ) (b : ℕ) (s : List ℕ) (i : ℕ) where
  pub goes_on : is_more (take r t l b).took.what ≡ true
      → advance r t l (b ∷ s) i ≡ advance (take r t l b).took.reader (take r t l b).table (take r t l b).buffer s (i + 1)
  unfolding advance
  goes_on e = rw (e, advance)

  pub stops : is_more (take r t l b).took.what ≡ false → advance r t l (b ∷ s) i ≡ stopped (take r t l b) (i + 1) s
  unfolding advance
  stops e = rw (e, advance)

-- the piece's end
pub ends : (r : Reader) (t l : List ℕ) (i : ℕ) → advance r t l [] i ≡ advanced More r i [] t l
unfolding advance
ends r t l i = refl

-- ---- the same at the end of the piece s, as the code has it
pub code-ends : (r : Reader) (t l s : List ℕ) (i : ℕ) → length s ≤ i → advance r t l (drop i s) i ≡ advanced More r i [] t l
code-ends r t l s i h = rw (drop_of_length-le s h) (ends r t l i)

-- ---- any cutting of the input gives the same
pub going-resumed : (p : Advanced) (ys : List ℕ) → is_more p.moved.what ≡ true → resumed p ys ≡ advance p.moved.reader p.table p.buffer ys p.moved.next
unfolding resumed
going-resumed p ys e = rw (e, resumed)

pub stopped-resumed : (p : Advanced) (ys : List ℕ) → is_more p.moved.what ≡ false
    → resumed p ys ≡ record { moved = p.moved; rest = p.rest ++ ys; table = p.table; buffer = p.buffer }
unfolding resumed
stopped-resumed p ys e = rw (e, resumed)

pub cut : (r : Reader) (t l xs ys : List ℕ) (i : ℕ) → advance r t l (xs ++ ys) i ≡ resumed (advance r t l xs i) ys
cut r t l [] ys i = sym (ap (λ (p : Advanced). resumed p ys) (ends r t l i) ∙ going-resumed (advanced More r i [] t l) ys refl)
cut r t l (b ∷ xs) ys i =
    split _ (is_more (take r t l b).took.what)
    (λ e. goes_on r t l b (xs ++ ys) i e
    ∙ cut (take r t l b).took.reader (take r t l b).table (take r t l b).buffer xs ys (i + 1)
    ∙ ap (λ (p : Advanced). resumed p ys) (sym (goes_on r t l b xs i e)))
    (λ e. stops r t l b (xs ++ ys) i e
    ∙ sym (ap (λ (p : Advanced). resumed p ys) (stops r t l b xs i e) ∙ stopped-resumed (stopped (take r t l b) (i + 1) xs) ys e))

-- ---- what is left of a piece

-- it stands from the place on at which reading stopped
pub rest_of : (r : Reader) (t l s : List ℕ) (i : ℕ) (whole : List ℕ) → s ≡ drop i whole → (advance r t l s i).rest ≡ drop (advance r t l s i).moved.next whole
rest_of r t l [] i whole h = rw (ends r t l i) h
rest_of r t l (b ∷ s) i whole h =
    let tail : s ≡ drop (i + 1) whole = ap (drop 1) h ∙ drop-drop 1 i whole in
    split _ (is_more (take r t l b).took.what)
    (λ e. rw (goes_on r t l b s i e) (rest_of (take r t l b).took.reader (take r t l b).table (take r t l b).buffer s (i + 1) whole tail))
    (λ e. rw (stops r t l b s i e) tail)

-- nothing is passed over
pub place : (r : Reader) (t l s : List ℕ) (i : ℕ) → (advance r t l s i).moved.next + length (advance r t l s i).rest ≡ i + length s
place r t l [] i = rw (ends r t l i)
place r t l (b ∷ s) i =
    split _ (is_more (take r t l b).took.what)
    (λ e. rw (goes_on r t l b s i e)
    (place (take r t l b).took.reader (take r t l b).table (take r t l b).buffer s (i + 1) ∙ (let z : i + 1 + length s ≡ i + suc (length s) = omega arith in z)))
    (λ e. rw (stops r t l b s i e) (omega arith))

-- and a byte is taken, where there is one
pub taken : (r : Reader) (t l : List ℕ) (b : ℕ) (s : List ℕ) (i : ℕ) → length (advance r t l (b ∷ s) i).rest ≤ length s
taken r t l b s i =
    split _ (is_more (take r t l b).took.what)
    (λ e. rw (goes_on r t l b s i e) (no_longer (take r t l b).took.reader (take r t l b).table (take r t l b).buffer s (i + 1)))
    (λ e. rw (stops r t l b s i e) (omega arith))
  where
    no_longer : (r : Reader) (t l s : List ℕ) (i : ℕ) → length (advance r t l s i).rest ≤ length s
    no_longer r t l [] i = rw (ends r t l i) (omega arith)
    no_longer r t l (b ∷ s) i =
        split _ (is_more (take r t l b).took.what)
        (λ e. rw (goes_on r t l b s i e) (let z = no_longer (take r t l b).took.reader (take r t l b).table (take r t l b).buffer s (i + 1) in omega arith))
        (λ e. rw (stops r t l b s i e) (omega arith))
