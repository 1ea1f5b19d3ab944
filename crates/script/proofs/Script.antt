-- A piece of the input does to a reader what the rules do with it, whatever follows.
use mathlib.Core.Bool.{true, false, true≢false}
use mathlib.Core.List.{List, [], ◌∷◌, ◌++◌}
use mathlib.Core.Path.{◌≡◌, refl, sym, ap, ◌∙◌}
use Prim.Native.Nat.{ℕ, suc, ◌+◌, ◌-◌, ◌^◌, ◌<◌}
use native.Mathlib.Omega.{arith}
use lib.Dec.{eqb}
use lib.ListN.{take, drop}
use Rattle.rules.specs.Layout.{header_words}
use borrow.Author.Tests.{eqb-true, lt-leb}
use Rattle.rules.specs.Replay.{Taken, bad, header_numbers, configuration_in, call_in}
use Rattle.laws.proofs.Tests.{split, and_left, and_right}
use Rattle.numerals.specs.Fed.{start}
use Rattle.script.specs.declared.Stage.{Stage}
use Rattle.script.specs.declared.Stage.TheVariants.{Header, Body, Numbers, Bytes}
use Rattle.script.specs.declared.Reader.{Reader}
use Rattle.script.specs.declared.What.{What}
use Rattle.script.specs.declared.What.TheVariants as what
use Rattle.script.specs.Take.{is_more, new_reader, between_at, is_between, take as take_one}
use Rattle.script.specs.Advance.{Advanced, advance}
use Rattle.script.proofs.Piece.{goes_on, stops, ends}
use Rattle.script.proofs.Going.{going, going_start, going_end, configuration-in, header_then, body_then, accepted, call-in, call_then, bytes_then}
use Rattle.script.proofs.Meaning.{configured, called, meaning_at, meaning, fault_of, fault_at, GoodAt, Good, fresh, Onward, Told}
use Rattle.script.proofs.Byte.{at_stage, byte-told}

-- a byte that goes on, and then a piece
join : (w : What) (r : Reader) (t l : List ℕ) (b : ℕ) (r₁ : Reader) (t₁ l₁ s : List ℕ) (r' : Reader) (t' l' rest : List ℕ) → Onward r t l (b ∷ []) r₁ t₁ l₁
    → Told w r₁ t₁ l₁ s r' t' l' rest → Told w r t l (b ∷ s) r' t' l' rest
join what.More r t l b r₁ t₁ l₁ s r' t' l' rest o (e, p) = (
  e,
  record {
    good = p.good;
    stage = p.stage ∙ o.stage;
    table = λ z. p.table (o.stage ∙ z) ∙ o.table z;
    size = p.size ∙ o.size;
    begun = λ z. p.begun (not-fresh s (o.begun refl));
    same = λ ys. o.same (s ++ ys) ∙ p.same ys;
  },
)
  where
    not-fresh : (s : List ℕ) → is_between r₁ ≡ false → fresh r₁ s ≡ false
    not-fresh [] z = z
    not-fresh (x ∷ s) z = refl
join what.Configuration r t l b r₁ t₁ l₁ s r' t' l' rest o p =
    record {
      stage = sym o.stage ∙ p.stage;
      reader = p.reader;
      good = p.good;
      size = p.size
          ∙ o.size;
      roomy = p.roomy;
      counts = p.counts;
      same = λ ys. o.same (s ++ ys) ∙ p.same ys;
    }
join what.Call r t l b r₁ t₁ l₁ s r' t' l' rest o p =
    record {
      stage = sym o.stage ∙ p.stage;
      reader = p.reader;
      good = p.good;
      table = p.table ∙ o.table (sym o.stage ∙ p.stage);
      short = p.short;
      same = λ ys. o.same (s ++ ys) ∙ p.same ys;
    }
join what.Fault r t l b r₁ t₁ l₁ s r' t' l' rest o p = record { same = λ ys. o.same (s ++ ys) ∙ p.same ys ∙ ap fault_of o.stage }

-- a byte at which reading stops, and the rest of a piece
halt : (w : What) (r : Reader) (t l : List ℕ) (b : ℕ) (s : List ℕ) (r' : Reader) (t' l' : List ℕ) → is_more w ≡ false
    → Told w r t l (b ∷ []) r' t' l' [] → Told w r t l (b ∷ s) r' t' l' s
halt what.More r t l b s r' t' l' n p = absurd (true≢false n)
halt what.Configuration r t l b s r' t' l' n p =
    record { stage = p.stage; reader = p.reader; good = p.good; size = p.size; roomy = p.roomy; counts = p.counts; same = λ ys. p.same (s ++ ys) }
halt what.Call r t l b s r' t' l' n p =
    record { stage = p.stage; reader = p.reader; good = p.good; table = p.table; short = p.short; same = λ ys. p.same (s ++ ys) }
halt what.Fault r t l b s r' t' l' n p = record { same = λ ys. p.same (s ++ ys) }

abbrev pub ToldPiece : Reader → List ℕ → List ℕ → List ℕ → Advanced → Type 0
ToldPiece r t l s p = Told p.moved.what r t l s p.moved.reader p.table p.buffer p.rest

pub piece-told : (r : Reader) (t l s : List ℕ) (i : ℕ) → Good r t l → ToldPiece r t l s (advance r t l s i)
piece-told r t l [] i h =
    rw (ends r t l i) (refl, record { good = h; stage = refl; table = λ z. refl; size = refl; begun = λ z. z; same = λ ys. refl })
piece-told r t l (b ∷ s) i h =
    split _ (is_more (take_one r t l b).took.what)
    (λ e. rw (goes_on r t l b s i e)
    (let o = going_on (take_one r t l b).took.what e (byte-told r t l b h) in
    join (advance (take_one r t l b).took.reader (take_one r t l b).table (take_one r t l b).buffer s (i + 1)).moved.what r t l b _ _ _ s _ _ _ _ o
    (piece-told (take_one r t l b).took.reader (take_one r t l b).table (take_one r t l b).buffer s (i + 1) o.good)))
    (λ e. rw (stops r t l b s i e) (halt (take_one r t l b).took.what r t l b s _ _ _ e (byte-told r t l b h)))
  where
    going_on : (w : What) → is_more w ≡ true → Told w r t l (b ∷ []) (take_one r t l b).took.reader (take_one r t l b).table (take_one r t l b).buffer []
        → Onward r t l (b ∷ []) (take_one r t l b).took.reader (take_one r t l b).table (take_one r t l b).buffer
    going_on what.More e p = p.1
    going_on what.Configuration e p = absurd (true≢false (sym e))
    going_on what.Call e p = absurd (true≢false (sym e))
    going_on what.Fault e p = absurd (true≢false (sym e))

-- ---- where an input begins and ends

-- a new reader reads a configuration
pub at-start : (t l s : List ℕ) → meaning new_reader t l s ≡ configured (accepted (configuration_in s))
unfolding meaning
at-start t l s = ap (λ (x : Taken (List ℕ)). configured (accepted x)) (sym (configuration-in s ∙ ap header_then (going_start [] 6 s)))

-- a reader between calls reads a call
between_is : (r : Reader) (t l : List ℕ) → Good r t l → is_between r ≡ true → (r.stage ≡ Numbers) × (r.field ≡ 0) × (r.part ≡ start) × (r.last ≡ 5)
between_is r t l h e = go r.stage refl e h.here
  where
    nothing : (v : ℕ) → v < 128 ^ 0 → v ≡ 0
    nothing v x = omega arith

    go : (g : Stage) → r.stage ≡ g → between_at g r ≡ true → GoodAt g r t → (r.stage ≡ Numbers) × (r.field ≡ 0) × (r.part ≡ start) × (r.last ≡ 5)
    go Header q z w = absurd (true≢false (sym z))
    go Body q z w = absurd (true≢false (sym z))
    go Bytes q z w = absurd (true≢false (sym z))
    go Numbers q z w =
        let c : r.part.count ≡ 0 = eqb-true _ _ (and_right (eqb r.field 0) (eqb r.part.count 0) z) in
        let v : r.part.value ≡ 0 = nothing r.part.value (rw c at h.small.below) in
        (q, eqb-true _ _ (and_left (eqb r.field 0) (eqb r.part.count 0) z), (λ i. record { value = v i; count = c i }), w)

pub at_call : (r : Reader) (t l s : List ℕ) → Good r t l → is_between r ≡ true → meaning r t l s ≡ called (call_in s)
at_call r t l s h e =
    let w = between_is r t l h e in
    at_stage Numbers r t l s w.0
    ∙ ap called (ap call_then (rw (w.1, w.2, w.3) (sym (going_start [] 5 s))) ∙ sym (call-in s))

-- where the input ends, what is read in part is a fault
pub at-end : (r : Reader) (t l : List ℕ) → meaning r t l [] ≡ fault_at r.stage
unfolding meaning header_then body_then accepted call_then bytes_then
at-end r t l = go r.stage
  where
    none : (vs : List ℕ) → going r.part vs (r.last - r.field) [] ≡ bad
    none vs = going_end r.part vs (r.last - r.field)

    go : (g : Stage) → meaning_at g r t l [] ≡ fault_at g
    go Header = ap (λ (x : Taken (List ℕ)). configured (accepted (header_then x))) (none (take r.field t))
    go Body = ap (λ (x : Taken (List ℕ)). configured (accepted (body_then (take header_numbers t) x))) (none (take r.field (drop header_words t)))
    go Numbers = ap (λ (x : Taken (List ℕ)). called (call_then x)) (none (take r.field r.nums))
    go Bytes = rw (lt-leb (suc (r.last - r.field)) 0 (omega arith))
