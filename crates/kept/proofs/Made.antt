-- Places in a record, and records made of their words.
use mathlib.Core.Path.{◌≡◌, refl}
use Prim.Native.Nat.{ℕ, ◌+◌, ◌*◌, ◌≤◌, ◌<◌}
use native.Mathlib.Omega.{arith}
use Rattle.rules.specs.Layout.{max_serial, max_owner, Kind, process, segment, file, record_words, Addr, at, live, serial, owner, group, entries, held_at, used_at, bits, holders}
use Rattle.rules.specs.Rule.{over}
use Rattle.rules.specs.Find.{freed}
use Rattle.laws.proofs.Shape.{Record, words-some}
use Rattle.laws.proofs.Object.{Object}
use Rattle.kept.proofs.Records.{freed-serial, freed-word}

-- ---- places in a record

-- half an entry's place
abbrev pub place : Kind → ℕ → ℕ
place process d = 0
place file d = 4 + d
place segment d = 20 + d

pub record Place (k : Kind) (d : ℕ) : Type 0 where
  pub held_place : held_at k d ≡ 2 * place k d
  pub used-place : used_at k d ≡ 2 * place k d + 1
  pub low : 4 ≤ place k d
  pub high : place k d < 36

pub placed : (k : Kind) → Object k → (d : ℕ) → d < entries → Place k d
placed process o d l = absurd o
placed segment o d l = record { held_place = omega arith; used-place = omega arith; low = omega arith; high = omega arith }
placed file o d l = record { held_place = omega arith; used-place = omega arith; low = omega arith; high = omega arith }

pub place-apart : (l k : Kind) → Object l → Object k → (e d : ℕ) → e < entries → d < entries → (l ≡ k → e ≡ d → ⊥) → place l e ≡ place k d → ⊥
place-apart process k o s e d el dl n q = absurd o
place-apart segment process o s e d el dl n q = absurd s
place-apart segment segment o s e d el dl n q = n refl (omega arith)
place-apart segment file o s e d el dl n q = omega arith
place-apart file process o s e d el dl n q = absurd s
place-apart file segment o s e d el dl n q = omega arith
place-apart file file o s e d el dl n q = n refl (omega arith)

-- the words that segments and files have at the same places
pub record ObjectWords (k : Kind) : Type 0 where
  pub bits_at : bits k ≡ 4
  pub holders-at : holders k ≡ 7
  pub enough : 8 ≤ record_words k

pub object-words : (k : Kind) → Object k → ObjectWords k
object-words process o = absurd o
object-words segment o = record { bits_at = refl; holders-at = refl; enough = omega arith }
object-words file o = record { bits_at = refl; holders-at = refl; enough = omega arith }

-- ---- records made

pub live-record : (q : Addr → ℕ) (k : Kind) (i : ℕ) (A : Type 0) → q (at k i live) ≡ 1 → 1 ≤ q (at k i serial) → q (at k i serial) ≤ max_serial
    → q (at k i owner) ≤ max_owner → q (at k i group) ≤ max_owner → A → Record q k i A
live-record q k i A e s0 s1 o g a = record {
  flag = omega arith;
  serial-fits = s1;
  free = λ z. absurd (omega arith);
  serial-some = λ x. s0;
  owner-fits = o;
  group-fits = g;
  alive = λ x. a;
}

free-record : (q : Addr → ℕ) (k : Kind) (i : ℕ) (A : Type 0) → q (at k i live) ≡ 0 → q (at k i serial) ≤ max_serial
    → ((j : ℕ) → 2 ≤ j → j < record_words k → q (at k i j) ≡ 0) → Record q k i A
free-record q k i A e s z = record {
  flag = omega arith;
  serial-fits = s;
  free = λ x. z;
  serial-some = λ x. absurd (omega arith);
  owner-fits = omega (arith, z owner (omega arith) (omega (arith, words-some k)));
  group-fits = omega (arith, z group (omega arith) (omega (arith, words-some k)));
  alive = λ x. absurd (omega arith);
}

pub freed-record : (r : Addr → ℕ) (k : Kind) (i : ℕ) (A : Type 0) → r (at k i serial) ≤ max_serial → Record (over r (freed k i)) k i A
freed-record r k i A s =
    let w = words-some k in
    free-record (over r (freed k i)) k i A (freed-word k i r live (omega arith) (λ e. omega arith)) (rw (freed-serial k i r) s)
    (λ j a b. freed-word k i r j b (λ e. omega arith))
