-- What well-formed records say, in parts that change separately: each record's own words, the entries, the senders, the counts.
use mathlib.Core.Path.{◌≡◌, refl, sym, ◌∙◌}
use mathlib.Core.Bool.{Bool, true, false, not}
use mathlib.Core.List.{List}
use Prim.Native.Nat.{ℕ, ◌+◌, ◌-◌, ◌≤◌, ◌<◌}
use native.Mathlib.Omega.{arith}
use native.Mathlib.Decide.{ℕ_discrete, dec_lt}
use lib.Dec.{eqb}
use borrow.Author.Tests.{eq-eqb, ne_eqb, lt-ltb, le-leb, eqb-true, eqb-false, ltb-true, leb-true}
use Rattle.rules.specs.Claim.{Claim, Holds}
use Rattle.rules.specs.Layout.{max_bits, max_links, Kind, process, segment, file, record_words, slots, blocks, cell_of, Addr, at, live, parent, queue, zero7, entries, held_at, used_at, messages, message_words, message_at, pages, page_at, bits, size, links, opens, subtype, holders}
use Rattle.rules.specs.WellFormed.{record_ok, current_ok, holds_subtype, object_entry_ok, entry_ok, parent_ok, held_once, message_ok, page_ok, process_ok, own_entries, segment_size, segment_ok, file_subtype_ok, file_ok, records_ok}
use Rattle.laws.proofs.Tests.{not-of, failed, passed}
use Rattle.laws.proofs.Object.{Object}
use Rattle.laws.proofs.Shape as shape
use Rattle.laws.proofs.Shape.{Record, Held, held_of, held-holds, subtype-held-holds, Entry, LiveProcess, process-record, segment-record, file-record, descriptor, designator, references-counted, opens-counted, alive-map}

-- ---- a live record's own words

-- words 5 and 6 of an object: a segment's sharable and size, a file's links and size
abbrev pub Particular : List ℕ → Kind → ℕ → ℕ → Type 0
Particular h process x y = Unit {0}
Particular h segment x y = (x ≤ 1) × (segment_size y ≡ true)
Particular h file x y = (x ≤ max_links) × (y ≤ blocks h)

-- word 5 keeps an object without holders: a file's links
abbrev pub linked : Kind → ℕ → Bool
linked process x = true
linked segment x = false
linked file x = not (eqb x 0)

-- word 8 of a file: none, or a subtype of its cell
abbrev pub Subtyped : List ℕ → Kind → ℕ → ℕ → Type 0
Subtyped h process i s = Unit {0}
Subtyped h segment i s = Unit {0}
Subtyped h file i s = Holds (file_subtype_ok h i s)

pub record AliveObject (h : List ℕ) (r : Addr → ℕ) (k : Kind) (i : ℕ) : Type 0 where
  pub bits_fit : r (at k i (bits k)) ≤ max_bits
  pub particular : Particular h k (r (at k i links)) (r (at k i size))
  pub needed : linked k (r (at k i links)) ≡ false → 1 ≤ r (at k i (holders k))
  pub subtype-ok : Subtyped h k i (r (at k i subtype))

-- what a page may hold: nothing, or designator + 1 of a filled entry
abbrev pub Paged : (Addr → ℕ) → ℕ → ℕ → Type 0
Paged r p v = (v ≡ 0 → ⊥) → (v ≤ entries) × (r (at process p (held_at segment (v - 1))) ≡ 0 → ⊥)

pub record AliveProcess (h : List ℕ) (r : Addr → ℕ) (p : ℕ) : Type 0 where
  pub parent-ok : Holds (parent_ok h (cell_of h process p) (r (at process p parent)))
  pub queue-fits : r (at process p queue) ≤ messages
  pub bits_fit : r (at process p (bits process)) ≤ max_bits
  pub zero-seven : r (at process p zero7) ≡ 0
  pub once : (d e : ℕ) → d < entries → e < entries → (d ≡ e → ⊥) → (r (at process p (held_at segment e)) ≡ 0 → ⊥)
      → r (at process p (held_at segment d)) ≡ r (at process p (held_at segment e)) → ⊥
  pub unused : (m j : ℕ) → m < messages → j < message_words → r (at process p queue) ≤ m → r (at process p (message_at m j)) ≡ 0
  pub paged : (g : ℕ) → g < pages → Paged r p (r (at process p (page_at g)))

abbrev pub Alive : List ℕ → (Addr → ℕ) → Kind → ℕ → Type 0
Alive h r process i = AliveProcess h r i
Alive h r segment i = AliveObject h r segment i
Alive h r file i = AliveObject h r file i

abbrev pub Own : List ℕ → (Addr → ℕ) → Kind → ℕ → Type 0
Own h r k i = Record r k i (Alive h r k i)

pub object-alive : (h : List ℕ) (r : Addr → ℕ) (k : Kind) (i : ℕ) → Object k → AliveObject h r k i → Alive h r k i
object-alive h r process i o x = absurd o
object-alive h r segment i o x = x
object-alive h r file i o x = x

pub alive-object : (h : List ℕ) (r : Addr → ℕ) (k : Kind) (i : ℕ) → Object k → Alive h r k i → AliveObject h r k i
alive-object h r process i o x = absurd o
alive-object h r segment i o x = x
alive-object h r file i o x = x

-- ---- the whole

abbrev pub EntryAt : List ℕ → (Addr → ℕ) → Kind → ℕ → ℕ → Type 0
EntryAt h r k p d = Entry h r k (cell_of h process p) (r (at process p (held_at k d))) (r (at process p (used_at k d)))

pub record Fine (h : List ℕ) (r : Addr → ℕ) : Type 0 where
  pub own : (k : Kind) (i : ℕ) → i < slots h k → Own h r k i
  pub entry : (k : Kind) → Object k → (p d : ℕ) → p < slots h process → d < entries → EntryAt h r k p d
  pub sender : (p m : ℕ) → p < slots h process → m < r (at process p queue) → Held h r process (cell_of h process p) (r (at process p (message_at m 0)))
  pub counted : (k : Kind) → Object k → (i : ℕ) → i < slots h k → r (at k i (holders k)) ≡ own_entries h r k i

-- ---- from the claim

module _ (h : List ℕ) (r : Addr → ℕ) (w : Holds (records_ok h r)) where
  process-alive : (p : ℕ) → LiveProcess h r p → AliveProcess h r p
  unfolding held_once message_ok page_ok
  process-alive p x = record {
    parent-ok = x.parent-ok;
    queue-fits = x.queue-fits;
    bits_fit = x.bits_fit;
    zero-seven = x.zero-seven;
    once = λ d e dl el ne some same. elim (dec_lt d e) [
      | yes l ↦ eqb-false _ _ (failed _ (x.once e el d l (not-of _ (ne_eqb _ 0 some)))) same
      | no l ↦ eqb-false _ _ (failed _ (x.once d dl e (omega arith) (not-of _ (ne_eqb _ 0 (λ z. some (sym same ∙ z)))))) (sym same)
    ];
    unused = λ m j ml jl full. (x.message m ml).1 (le-leb _ m full) j jl;
    paged = λ g l n. let y = x.page g l (not-of _ (ne_eqb _ 0 n)) in (y.0, eqb-false _ 0 (failed _ y.1));
  }

  own_of : (k : Kind) (i : ℕ) → i < slots h k → Own h r k i
  own_of process i l = alive-map r process i _ _ (process-alive i) (process-record h r w i l)
  own_of segment i l = alive-map r segment i _ _
      (λ x. record { bits_fit = x.bits_fit; particular = (x.sharable-flag, x.size_ok); needed = λ e. x.referred; subtype-ok = tt })
      (segment-record h r w i l)
  own_of file i l = alive-map r file i _ _
      (λ x. record {
        bits_fit = x.bits_fit;
        particular = (x.links-fit, x.size_fits);
        needed = λ e. omega (arith, x.kept, eqb-true (r (at file i links)) 0 (passed _ e));
        subtype-ok = x.subtype-ok;
      })
      (file-record h r w i l)

  entry-of : (k : Kind) → Object k → (p d : ℕ) → p < slots h process → d < entries → EntryAt h r k p d
  entry-of process o p d l m = absurd o
  entry-of segment o p d l m = designator h r w p d l m
  entry-of file o p d l m = descriptor h r w p d l m

  sender-of : (p m : ℕ) → p < slots h process → m < r (at process p queue) → Held h r process (cell_of h process p) (r (at process p (message_at m 0)))
  unfolding message_ok
  sender-of p m l ml = let x = process-record h r w p l in elim (ℕ_discrete (r (at process p live)) 1) [
    | yes e ↦ let a = x.alive e in held_of h r process _ _ ((a.message m (omega (arith, a.queue-fits))).0 (lt-ltb m _ ml))
    | no n ↦ absurd (omega (arith, x.free (omega (arith, x.flag)) queue (omega arith) (omega arith)))
  ]

  counted_of : (k : Kind) → Object k → (i : ℕ) → i < slots h k → r (at k i (holders k)) ≡ own_entries h r k i
  counted_of process o i l = absurd o
  counted_of segment o i l = references-counted h r w i l
  counted_of file o i l = opens-counted h r w i l

  pub fine_of : Fine h r
  fine_of = record { own = own_of; entry = entry-of; sender = sender-of; counted = counted_of }

-- ---- and back

record-holds : (r : Addr → ℕ) (k : Kind) (i : ℕ) (A : Type 0) (c : Claim) → 2 ≤ record_words k → (A → Holds c) → Record r k i A → Holds (record_ok r k i c)
unfolding record_ok
record-holds r k i A c b f x = (
  x.flag,
  (
    x.serial-fits,
    (
      λ e j l. x.free (eqb-true _ 0 e) (2 + j) (omega arith) (omega arith),
      λ e. (x.serial-some (eqb-true _ 1 e), (x.owner-fits, (x.group-fits, f (x.alive (eqb-true _ 1 e))))),
    ),
  ),
)

entry-holds : (h : List ℕ) (r : Addr → ℕ) (k : Kind) (c s u : ℕ) → Entry h r k c s u → Holds (entry_ok h r k c s u)
unfolding entry_ok object_entry_ok current_ok
entry-holds h r k c s u x = (
  λ t. (
    λ e. x.empty (eqb-true s 0 e),
    λ e. let n : shape.Object k s = (eqb-false s 0 (failed (eqb s 0) e), failed (holds_subtype k s) t) in
        (held-holds h r k c s (x.held n), (λ o. (x.current-live n (eqb-true _ c o), x.current-serial n (eqb-true _ c o)), (x.valid n.0, λ o. x.writes-own n o))),
  ),
  λ t. subtype-held-holds h c s u (x.subtype t),
)

module _ (h : List ℕ) (r : Addr → ℕ) (w : Fine h r) where
  process-holds : (p : ℕ) → p < slots h process → Holds (process_ok h r p)
  unfolding process_ok held_once message_ok page_ok
  process-holds p l = record-holds r process p _ _ (omega arith) (λ a. (
    a.parent-ok,
    (
      a.queue-fits,
      (
        a.bits_fit,
        (
          a.zero-seven,
          (
            λ d m. entry-holds h r file _ _ _ (w.entry file tt p d l m),
            (
              λ d m. entry-holds h r segment _ _ _ (w.entry segment tt p d l m),
              (
                λ e el d dl some. not-of _ (ne_eqb _ _ (a.once d e (omega arith) el (omega arith) (eqb-false _ 0 (failed _ some)))),
                (
                  λ m ml. (λ q. held-holds h r process _ _ (w.sender p m l (ltb-true m _ q)), λ q j jl. a.unused m j ml jl (leb-true _ m q)),
                  λ g gl n. let y = a.paged g gl (eqb-false _ 0 (failed _ n)) in (y.0, not-of _ (ne_eqb _ 0 y.1)),
                ),
              ),
            ),
          ),
        ),
      ),
    ),
  )) (w.own process p l)

  segment-holds : (i : ℕ) → i < slots h segment → Holds (segment_ok h r i)
  unfolding segment_ok
  segment-holds i l =
      (record-holds r segment i _ _ (omega arith) (λ a. (a.bits_fit, (a.particular.0, (a.particular.1, a.needed refl)))) (w.own segment i l), w.counted segment tt i l)

  file-holds : (i : ℕ) → i < slots h file → Holds (file_ok h r i)
  unfolding file_ok
  file-holds i l =
      (record-holds r file i _ _ (omega arith) (λ a. (a.bits_fit, (a.particular.0, (a.particular.1, (stays a, a.subtype-ok))))) (w.own file i l), w.counted file tt i l)
    where
      stays : AliveObject h r file i → 1 ≤ r (at file i links) + r (at file i opens)
      stays a = elim (ℕ_discrete (r (at file i links)) 0) [
        | yes z ↦ omega (arith, a.needed (rw (eq-eqb (r (at file i links)) 0 z)))
        | no n ↦ omega arith
      ]

  pub fine-holds : Holds (records_ok h r)
  unfolding records_ok
  fine-holds = (process-holds, (segment-holds, file-holds))
