-- One word of a live object changed, none of the first four: its bits, links, size or holders.
use mathlib.Core.Path.{◌≡◌, ◌∙◌}
use mathlib.Core.Bool.{false, cond}
use mathlib.Core.List.{List, [], ◌∷◌}
use Prim.Native.Nat.{ℕ, ◌≤◌, ◌<◌}
use native.Mathlib.Omega.{arith}
use lib.Dec.{eqb}
use Rattle.rules.specs.Layout.{max_bits, Kind, slots, Addr, at, live, serial, owner, group, bits, links, size, subtype, holders}
use Rattle.rules.specs.Rule.{◌≔◌, over}
use Rattle.laws.proofs.Written.{nil}
use Rattle.laws.proofs.Object.{Object}
use Rattle.kept.proofs.Fine.{Particular, linked, AliveObject, Own, Fine, object-alive, alive-object}
use Rattle.kept.proofs.Records.{word_in, word-if, word-past, elsewhere}
use Rattle.kept.proofs.Made.{object-words, live-record}
use Rattle.kept.proofs.Keeps.{Keeps, keeps-object}

-- what a live object's words say, with word n as v
pub record AliveWith (h : List ℕ) (r : Addr → ℕ) (k : Kind) (i n v : ℕ) : Type 0 where
  pub bits_fit : cond (eqb (bits k) n) v (r (at k i (bits k))) ≤ max_bits
  pub particular : Particular h k (cond (eqb links n) v (r (at k i links))) (cond (eqb size n) v (r (at k i size)))
  pub needed : linked k (cond (eqb links n) v (r (at k i links))) ≡ false → 1 ≤ cond (eqb (holders k) n) v (r (at k i (holders k)))

module _ (h : List ℕ) (r : Addr → ℕ) (k : Kind) (o : Object k) (i : ℕ) (old : Own h r k i) (lives : r (at k i live) ≡ 1) where
  -- what they say as they are
  pub alive-now : AliveObject h r k i
  alive-now = alive-object h r k i o (old.alive lives)

  own-word : (n v : ℕ) → 4 ≤ n → n < subtype → AliveWith h r k i n v → Own h (over r ((at k i n ≔ v) ∷ [])) k i
  own-word n v past before a =
      let e0 = word-past r k i n v live (λ e. omega arith) in
      let e1 = word-past r k i n v serial (λ e. omega arith) in
      let e2 = word-past r k i n v owner (λ e. omega arith) in
      let e3 = word-past r k i n v group (λ e. omega arith) in
      let w = word-if r k i n v in
      live-record _ k i _ (e0 ∙ lives) (omega (arith, old.serial-some lives)) (omega (arith, old.serial-fits)) (omega (arith, old.owner-fits))
      (omega (arith, old.group-fits))
      (object-alive h _ k i o
      (record {
        bits_fit = rw (w (bits k)) a.bits_fit;
        particular = rw (w links, w size) a.particular;
        needed = rw (w links, w (holders k)) a.needed;
        subtype-ok = rw (word-past r k i n v subtype (λ e. omega arith)) alive-now.subtype-ok;
      }))

  pub own-holders : (v : ℕ) → (linked k (r (at k i links)) ≡ false → 1 ≤ v) → Own h (over r ((at k i (holders k) ≔ v) ∷ [])) k i
  own-holders v needed =
      let s = object-words k o in
      own-word (holders k) v (omega arith) (omega arith)
      (record {
        bits_fit = rw (s.holders-at, s.bits_at) (rw s.bits_at at alive-now.bits_fit);
        particular = rw s.holders-at alive-now.particular;
        needed = rw s.holders-at needed;
      })

pub keeps-word : (h : List ℕ) (r : Addr → ℕ) (w : Fine h r) (k : Kind) → Object k → (i : ℕ) → i < slots h k → r (at k i live) ≡ 1
    → (n v : ℕ) → 4 ≤ n → n < 7 → AliveWith h r k i n v → Keeps h r ((at k i n ≔ v) ∷ [])
keeps-word h r w k o i il lives n v lo hi a =
    let s = object-words k o in
    let in-it = word_in k i n v (omega arith) nil in
    keeps-object h r w k o i il in-it (record {
      others = elsewhere k i in-it r;
      own-object = own-word h r k o i (w.own k i il) lives n v lo (omega arith) a;
      serial-grown = omega (arith, word-past r k i n v serial (λ e. omega arith));
      same-holders = word-past r k i n v (holders k) (λ e. omega arith);
      steady = λ x e. (word-past r k i n v live (λ e. omega arith) ∙ e, word-past r k i n v serial (λ e. omega arith));
    })
