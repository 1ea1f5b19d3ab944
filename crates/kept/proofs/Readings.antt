-- Two readings r and q, r a fine one: what stays, where what it speaks of does not change.
use mathlib.Core.Path.{◌≡◌, sym, ◌∙◌}
use mathlib.Core.List.{List}
use Prim.Native.Nat.{ℕ, ◌-◌, ◌≤◌, ◌<◌}
use native.Mathlib.Omega.{arith}
use native.Mathlib.Decide.{ℕ_discrete}
use Rattle.rules.specs.Layout.{max_bits, Kind, process, segment, file, record_words, slots, cell_of, Addr, at, Valid, live, serial, owner, group, parent, queue, zero7, entries, held_at, used_at, messages, message_words, message_at, pages, page_at, bits, size, links, subtype, holders}
use Rattle.rules.specs.Seid.{index_of}
use Rattle.laws.proofs.Seids.{is-formed}
use Rattle.laws.proofs.Shape as shape
use Rattle.laws.proofs.Shape.{Held, Entry, words-some}
use Rattle.laws.proofs.Object.{Object}
use Rattle.kept.proofs.Fine.{Subtyped, AliveObject, Paged, AliveProcess, Alive, Own, Fine}
use Rattle.kept.proofs.Counting.{count-all}
use Rattle.kept.proofs.Made.{placed, object-words, live-record}

module _ (h : List ℕ) (r q : Addr → ℕ) where
  -- ---- a record none of whose words change

  subtyped-same : (k : Kind) (i : ℕ) → ((j : ℕ) → j < record_words k → q (at k i j) ≡ r (at k i j)) → Subtyped h k i (r (at k i subtype))
      → Subtyped h k i (q (at k i subtype))
  subtyped-same process i same x = tt
  subtyped-same segment i same x = tt
  subtyped-same file i same x = rw (same subtype (omega arith)) x

  object-same : (k : Kind) (i : ℕ) → Object k → ((j : ℕ) → j < record_words k → q (at k i j) ≡ r (at k i j)) → AliveObject h r k i → AliveObject h q k i
  object-same k i o same x =
      let s = object-words k o in
      let e4 = same (bits k) (omega arith) in
      let e5 = same links (omega arith) in
      let e6 = same size (omega arith) in
      let e7 = same (holders k) (omega arith) in
      record {
        bits_fit = rw e4 x.bits_fit;
        particular = rw (e5, e6) x.particular;
        needed = rw (e5, e7) x.needed;
        subtype-ok = subtyped-same k i same x.subtype-ok;
      }

  -- what a page holds, while the entries that are filled stay so
  pub paged-kept : (p v : ℕ) → ((d : ℕ) → d < entries → (r (at process p (held_at segment d)) ≡ 0 → ⊥) → q (at process p (held_at segment d)) ≡ 0 → ⊥) → Paged r p v
      → Paged q p v
  paged-kept p v filled x n = let y = x n in (y.0, filled (v - 1) (omega (arith, y.0)) y.1)

  pub paged-same : (p v : ℕ) → ((d : ℕ) → d < entries → q (at process p (held_at segment d)) ≡ r (at process p (held_at segment d))) → Paged r p v → Paged q p v
  paged-same p v same = paged-kept p v (λ d l some z. some (sym (same d l) ∙ z))

  process-same : (p : ℕ) → ((j : ℕ) → j < record_words process → q (at process p j) ≡ r (at process p j)) → AliveProcess h r p → AliveProcess h q p
  process-same p same x = record {
    parent-ok = rw (same parent (omega arith)) x.parent-ok;
    queue-fits = rw (same queue (omega arith)) x.queue-fits;
    bits_fit = rw (same (bits process) (omega arith)) x.bits_fit;
    zero-seven = same zero7 (omega arith) ∙ x.zero-seven;
    once = λ d e dl el. rw (same (held_at segment d) (omega arith), same (held_at segment e) (omega arith)) (x.once d e dl el);
    unused = λ m j ml jl f. same (message_at m j) (omega arith) ∙ x.unused m j ml jl (rw (same queue (omega arith)) at f);
    paged = λ g l. rw (same (page_at g) (omega arith)) (paged-same p _ (λ d dl. same (held_at segment d) (omega arith)) (x.paged g l));
  }

  alive-same : (k : Kind) (i : ℕ) → ((j : ℕ) → j < record_words k → q (at k i j) ≡ r (at k i j)) → Alive h r k i → Alive h q k i
  alive-same process i same x = process-same i same x
  alive-same segment i same x = object-same segment i tt same x
  alive-same file i same x = object-same file i tt same x

  pub own_same : (k : Kind) (i : ℕ) → ((j : ℕ) → j < record_words k → q (at k i j) ≡ r (at k i j)) → Own h r k i → Own h q k i
  own_same k i same x =
      let w = words-some k in
      let e0 = same live (omega arith) in
      let e1 = same serial (omega arith) in
      record {
        flag = rw e0 x.flag;
        serial-fits = rw e1 x.serial-fits;
        free = λ z j a b. same j b ∙ x.free (sym e0 ∙ z) j a b;
        serial-some = rw (e0, e1) x.serial-some;
        owner-fits = rw (same owner (omega arith)) x.owner-fits;
        group-fits = rw (same group (omega arith)) x.group-fits;
        alive = λ e. alive-same k i same (x.alive (sym e0 ∙ e));
      }

  -- a live process whose entries, if they change, still name no segment twice
  pub live-process : (p : ℕ) → r (at process p live) ≡ 1 → Own h r process p
      → ((j : ℕ) → j < 8 → (j ≡ queue → ⊥) → (j ≡ bits process → ⊥) → q (at process p j) ≡ r (at process p j)) → q (at process p queue) ≤ messages
      → q (at process p (bits process)) ≤ max_bits
      → ((d e : ℕ) → d < entries → e < entries → (d ≡ e → ⊥) → (q (at process p (held_at segment e)) ≡ 0 → ⊥)
      → q (at process p (held_at segment d)) ≡ q (at process p (held_at segment e)) → ⊥)
      → ((m j : ℕ) → m < messages → j < message_words → q (at process p queue) ≤ m → q (at process p (message_at m j)) ≡ 0)
      → ((g : ℕ) → g < pages → Paged q p (q (at process p (page_at g)))) → Own h q process p
  live-process p lives own head queue-fits bits_fit once unused paged =
      let a = own.alive lives in
      let e1 = head serial (omega arith) (λ e. omega arith) (λ e. omega arith) in
      live-record q process p _ (head live (omega arith) (λ e. omega arith) (λ e. omega arith) ∙ lives) (rw e1 (own.serial-some lives)) (rw e1 own.serial-fits)
      (rw (head owner (omega arith) (λ e. omega arith) (λ e. omega arith)) own.owner-fits)
      (rw (head group (omega arith) (λ e. omega arith) (λ e. omega arith)) own.group-fits)
      (record {
        parent-ok = rw (head parent (omega arith) (λ e. omega arith) (λ e. omega arith)) a.parent-ok;
        queue-fits = queue-fits;
        bits_fit = bits_fit;
        zero-seven = head zero7 (omega arith) (λ e. omega arith) (λ e. omega arith) ∙ a.zero-seven;
        once = once;
        unused = unused;
        paged = paged;
      })

  -- ---- identifiers held

  -- serials never fall
  abbrev pub Grown : Type 0
  Grown = (k : Kind) (i : ℕ) → i < slots h k → r (at k i serial) ≤ q (at k i serial)

  -- a live slot stays live with its serial
  abbrev pub Steady : Kind → ℕ → Type 0
  Steady k i = r (at k i live) ≡ 1 → (q (at k i live) ≡ 1) × (q (at k i serial) ≡ r (at k i serial))

  pub held_kept : Grown → (k : Kind) (c s : ℕ) → Held h r k c s → Held h q k c s
  held_kept g k c s x =
      record { form = x.form; serial-known = omega (arith, x.serial-known, g k (index_of s) (is-formed _ _ s x.form).index_in); flow = x.flow }

  pub entry_kept : Grown → (k : Kind) (c s u : ℕ) → (shape.Object k s → cell_of h k (index_of s) ≡ c → Steady k (index_of s)) → Entry h r k c s u → Entry h q k c s u
  entry_kept g k c s u steady x = record {
    empty = x.empty;
    held = λ n. held_kept g k c s (x.held n);
    current-live = λ n e. (steady n e (x.current-live n e)).0;
    current-serial = λ n e. (steady n e (x.current-live n e)).1 ∙ x.current-serial n e;
    valid = x.valid;
    writes-own = x.writes-own;
    subtype = x.subtype;
  }

  pub same-steady : (k : Kind) (i : ℕ) → ((j : ℕ) → q (at k i j) ≡ r (at k i j)) → Steady k i
  same-steady k i same e = (same live ∙ e, same serial)

  -- ---- readings that agree wherever a table has words

  pub same-fine : ((a : Addr) → Valid h a → q a ≡ r a) → Fine h r → Fine h q
  same-fine same w = record {
    own = λ k i l. own_same k i (word k i l) (w.own k i l);
    entry = λ k o p d pl dl. let x = placed k o d dl in
        rw (word process p pl (held_at k d) (omega arith), word process p pl (used_at k d) (omega arith)) (entry_kept grown k _ _ _ (λ n c e.
        let l = (is-formed _ _ _ ((w.entry k o p d pl dl).held n).form).index_in in let b = words-some k in
        (word k _ l live (omega arith) ∙ e, word k _ l serial (omega arith))) (w.entry k o p d pl dl));
    sender = λ p m pl ml. let old : m < r (at process p queue) = rw (word process p pl queue (omega arith)) at ml in
        rw (word process p pl (message_at m 0) (omega (arith, few p pl))) (held_kept grown process _ _ (w.sender p m pl old));
    counted = λ k o i l. let b = object-words k o in
        word k i l (holders k) (omega arith) ∙ w.counted k o i l
        ∙ sym (count-all h r q k (λ p d pl dl. let x = placed k o d dl in word process p pl (held_at k d) (omega arith)) i);
  }
    where
      word : (k : Kind) (i : ℕ) → i < slots h k → (j : ℕ) → j < record_words k → q (at k i j) ≡ r (at k i j)
      word k i l j b = same (at k i j) (l, b)

      grown : Grown
      grown k i l = let b = words-some k in rw (word k i l serial (omega arith)) (omega arith)

      few : (p : ℕ) → p < slots h process → r (at process p queue) ≤ messages
      few p l = let x = w.own process p l in elim (ℕ_discrete (r (at process p live)) 1) [
        | yes e ↦ (x.alive e).queue-fits
        | no n ↦ omega (arith, x.free (omega (arith, x.flag)) queue (omega arith) (omega arith))
      ]
