-- An identifier once gone stays gone: a seid that names nothing, of a serial that its slot has reached, names nothing after any run of calls, whatever has come
-- into its slot since (`gone-for-good`); and no call that is given it, by itself or by an entry that holds it, reaches what is in that slot (`never-reached`).
-- Every seid that named an object once, and every object's seid that an entry holds, is of such a serial (`named-once`, `held-once`).
use mathlib.Core.Path.{◌≡◌, refl, sym, ap, ◌∙◌}
use mathlib.Core.Bool.{true, false}
use mathlib.Core.List.{List, [], ◌∷◌}
use Prim.Native.Nat.{ℕ, ◌≤◌, ◌<◌}
use native.Mathlib.Omega.{arith}
use native.Mathlib.Decide.{ℕ_discrete}
use lib.ListN.{length}
use Rattle.rules.specs.Layout.{Kind, process, segment, file, record_words, slots, configuration, Addr, at, rd, live, serial, entries, held_at, bits, size, links, holders}
use Rattle.rules.specs.Seid.{class, index_of, serial_of, formed, present}
use Rattle.rules.specs.Errors.{XOK}
use Rattle.rules.specs.Rule.{Word, over}
use Rattle.rules.specs.Call15.{post}
use Rattle.rules.specs.Step.{State, Call, step, next, run, rule_of}
use Rattle.laws.proofs.Tests.{passed, both_ways, split, refuted}
use Rattle.laws.proofs.Seids.{class-some, class-pos, class-inj, is-formed, is-present, present-is}
use Rattle.laws.proofs.Shape as shape
use Rattle.laws.proofs.Shape.{good_of, words-some}
use Rattle.laws.proofs.Subtypes.{names-none}
use Rattle.laws.proofs.Written.{AllOf, all_map, over-either}
use Rattle.laws.proofs.Object.{Object}
use Rattle.laws.proofs.Refusals.{Clear}
use Rattle.kept.proofs.Fine.{fine_of}
use Rattle.kept.proofs.Records.{by-record}
use Rattle.kept.proofs.Keeps.{Caller}
use Rattle.kept.proofs.Kept.{Well, kept, conf-kept, serials-kept, run-kept, run-conf-kept, run-serials-kept}
use Rattle.promises.proofs.Refusals.{Untouched, own, own-clear, refused}
use Rattle.promises.proofs.After.{its-caller, read-after}
use Rattle.promises.proofs.Stale.{takes_seid, for-itself, given, uses_entry, entry_holds, page_holds, gives_up_entry, stale-seid, stale-post, stale-entry, stale-page, stale-given-up, GivenUp}
use Rattle.promises.proofs.Map.{PagesAlone, pages-alone}
use Rattle.promises.proofs.Writes.{EntryWord, MailWord, Makes, Wrote, made, filled, emptied, paged, counted, freed-word, cleared, linked, sized, set-bits, posted, received, writes}
use Rattle.promises.proofs.Single.{creates, by-rule}

-- ---- writes that bring nothing to life

abbrev Lifeless : Word → Type 0
Lifeless x = x.at.word ≡ live → x.value ≡ 0

-- such writes leave no slot live that was not
unborn : {ws : List Word} → AllOf Lifeless ws → (r : Addr → ℕ) (j : Kind) (i : ℕ) → over r ws (at j i live) ≡ 1 → r (at j i live) ≡ 1
unborn all r j i =
    over-either (at j i live) (λ v. v ≡ 1 → r (at j i live) ≡ 1)
    (all_map (λ x p e f. absurd (omega (arith, f, p (sym (ap (λ (b : Addr). b.word) e))))) all) r (λ e. e)

-- the words that a call writes to what lives stand past the first
entry_past : (j : Kind) (n : ℕ) → EntryWord j n → n ≡ live → ⊥
entry_past process n w e = w
entry_past segment n w e = omega (arith, w.0, e)
entry_past file n w e = omega (arith, w.0, e)

mail-past : (n : ℕ) → MailWord n → n ≡ live → ⊥
mail-past n w e = omega (arith, (w (λ q. omega (arith, q, e))).0, e)

holders-past : (j : Kind) → holders j ≡ live → ⊥
holders-past process e = omega (arith, e)
holders-past segment e = omega (arith, e)
holders-past file e = omega (arith, e)

bits-past : (j : Kind) → bits j ≡ live → ⊥
bits-past process e = omega (arith, e)
bits-past segment e = omega (arith, e)
bits-past file e = omega (arith, e)

makes-creates : (j : Kind) (n : ℕ) → Makes j n → creates n ≡ true
makes-creates process n e = rw e
makes-creates segment n e = rw e
makes-creates file n e = elim (ℕ_discrete n 7) [
  | yes x ↦ rw x
  | no x ↦ rw (e x)
]

-- ---- a slot comes to life by a creating call alone, and then with a serial of its own

module _ (h : List ℕ) (r : Addr → ℕ) (st : List ℕ) (k : Call) where
  lifeless : creates k.code ≡ false → (x : Word) → Wrote h r k x → Lifeless x
  lifeless f x (made {j} m l room low s) e = both_ways (creates k.code) (makes-creates j k.code m) f
  lifeless f x (filled j {n} y w) e = absurd (entry_past j n w e)
  lifeless f x (emptied j y w) e = refl
  lifeless f x (paged {n = n} y l) e = let z : n ≡ live = e in absurd (omega arith)
  lifeless f x (counted {j} o) e = absurd (holders-past j e)
  lifeless f x (freed-word j o z y) e = refl
  lifeless f x (cleared c y) e = refl
  lifeless f x linked e = let z : links ≡ live = e in absurd (omega arith)
  lifeless f x sized e = let z : size ≡ live = e in absurd (omega arith)
  lifeless f x (set-bits {j} c s) e = absurd (bits-past j e)
  lifeless f x (posted {n} c w) e = absurd (mail-past n w e)
  lifeless f x (received {n} c w) e = absurd (mail-past n w e)

  -- where a slot lives after a call, with the serial that it had, it lived before
  lasted : Caller h r k.caller → Clear (rule_of h r st k).refusals → (j : Kind) (i : ℕ) → let q : Addr → ℕ = over r (rule_of h r st k).effects.words in
      q (at j i live) ≡ 1 → q (at j i serial) ≡ r (at j i serial) → r (at j i live) ≡ 1
  lasted me ok j i = split _ (creates k.code)
      (λ t. let x = by-rule h r k me st t ok in
      let q : Addr → ℕ = over r (rule_of h r st k).effects.words in
      by-record (λ j i. q (at j i live) ≡ 1 → q (at j i serial) ≡ r (at j i serial) → r (at j i live) ≡ 1)
      x.kind x.slot (λ e f. absurd (omega (arith, x.left))) (λ j i n e f. sym (x.beside j i n) ∙ e) j i)
      (λ f e g. unborn (all_map (lifeless f) (writes h r st k me ok)) r j i e)

-- so of one call
module _ (s : State) (k : Call) (w : Well s) (j : Kind) (i : ℕ) (l : i < slots (configuration s.table) j) where
  abbrev now : ℕ → ℕ
  now n = rd (configuration s.table) s.table (at j i n)

  abbrev then : ℕ → ℕ
  then n = rd (configuration s.table) (next s k).table (at j i n)

  not-reborn : then live ≡ 1 → then serial ≡ now serial → now live ≡ 1
  not-reborn e f = elim (ℕ_discrete (step s k).answered.error XOK) [
    | yes ok ↦
        let after : (n : ℕ) → n < record_words j → then n ≡ over (rd (configuration s.table) s.table) (own s k).effects.words (at j i n) =
        λ n nl. read-after s k w ok (at j i n) (l, nl) in
        let few = words-some j in
        lasted _ _ s.store k (its-caller s k w ok) (own-clear s k ok) j i (sym (after live (omega arith)) ∙ e) (sym (after serial (omega arith)) ∙ f)
    | no n ↦ sym (ap (λ (u : State). rd (configuration s.table) u.table (at j i live)) (refused s k n).state) ∙ e
  ]

-- ---- gone

-- v, an identifier of kind j, has had its time: its slot has reached its serial, and it names nothing
pub record Gone (s : State) (j : Kind) (v : ℕ) : Type 0 where
  pub well : Well s
  pub form : formed (configuration s.table) j v ≡ true
  pub reached : serial_of v ≤ rd (configuration s.table) s.table (at j (index_of v) serial)
  pub absent : present (rd (configuration s.table) s.table) j v ≡ false

-- it stays so
stays-gone : (s : State) (k : Call) (j : Kind) (v : ℕ) → Gone s j v → Gone (next s k) j v
stays-gone s k j v g =
    let h = configuration s.table in
    let c = conf-kept s k g.well in
    let l : index_of v < slots h j = (is-formed _ _ v g.form).index_in in
    let grown = serials-kept s k g.well j (index_of v) l in
    record {
      well = kept s k g.well;
      form = rw c g.form;
      reached = rw c (omega (arith, g.reached, grown));
      absent = rw c (refuted (present (rd h (next s k).table) j v) (λ e.
          let x = is-present _ j v e in
          let same : rd h (next s k).table (at j (index_of v) serial) ≡ rd h s.table (at j (index_of v) serial) =
          omega (arith, x.same-serial, g.reached, grown) in
          both_ways (present (rd h s.table) j v)
          (present-is _ j v (record { is_live = not-reborn s k g.well j (index_of v) l x.is_live same; same-serial = sym same ∙ x.same-serial }))
          g.absent));
    }

pub gone-for-good : (s : State) (ks : List Call) (j : Kind) (v : ℕ) → Gone s j v → Gone (run s ks) j v
unfolding run
gone-for-good s [] j v g = g
gone-for-good s (k ∷ ks) j v g = gone-for-good (next s k) ks j v (stays-gone s k j v g)

-- what named an object once, and does so no more
pub named-once : (s : State) → Well s → (j : Kind) (v : ℕ) → formed (configuration s.table) j v ≡ true
    → present (rd (configuration s.table) s.table) j v ≡ true
    → (between : List Call) → let u : State = run s between in present (rd (configuration u.table) u.table) j v ≡ false → Gone u j v
named-once s w j v form here between gone =
    let c = run-conf-kept s between w in
    let x = is-present _ j v here in
    record {
      well = run-kept s between w;
      form = rw c form;
      reached = rw c (omega (arith, x.same-serial, run-serials-kept s between w j (index_of v) (is-formed _ _ v form).index_in));
      absent = gone;
    }

-- what an entry holds, if that is no subtype, and names nothing
pub held-once : (s : State) → Well s → (j : Kind) → Object j → (p d : ℕ) → p < slots (configuration s.table) process → d < entries
    → let v : ℕ = rd (configuration s.table) s.table (at process p (held_at j d)) in
    shape.Object j v → present (rd (configuration s.table) s.table) j v ≡ false → Gone s j v
held-once s w j o p d pl dl some gone =
    let x = ((fine_of _ _ (good_of s.table (length s.store) w).records).entry j o p d pl dl).held some in
    record { well = w; form = x.form; reached = x.serial-known; absent = gone }

-- ---- no call reaches anything by it

pub record NeverReached (s : State) (j : Kind) (v : ℕ) : Type 0 where
  -- a call that takes a seid and is given this one is refused, and so changes nothing; a post to it changes nothing
  pub by-seid : (k : Call) → k.a ≡ v → takes_seid k.code ≡ true → ((step s k).answered.error ≡ XOK → ⊥) × Untouched s k (step s k)
  pub by-post : (k : Call) → k.a ≡ v → k.code ≡ 15 → Untouched s k (step s k)
  -- the use of an entry that holds it is refused (of an incoming designator 16 is none); so is the use of a page whose designator holds it
  pub by-entry : (k : Call) → entry_holds s k j ≡ v → uses_entry j k.code ≡ true → (k.code ≡ 19 → k.a < entries)
      → ((step s k).answered.error ≡ XOK → ⊥) × Untouched s k (step s k)
  pub by-page : (k : Call) → j ≡ segment → page_holds s k ≡ v → k.code ≡ 20 → ((step s k).answered.error ≡ XOK → ⊥) × Untouched s k (step s k)
  -- going out, a designator that holds it changes nothing but its caller's pages
  pub goes-out : (k : Call) → k.code ≡ 19 → PagesAlone s k
  -- that entry can be given up, and no other word of the table changes (by a release of its process: `Released`)
  pub given-up : (k : Call) → Object j → k.caller < slots (configuration s.table) process
      → rd (configuration s.table) s.table (at process k.caller live) ≡ 1 → k.a < entries → entry_holds s k j ≡ v → k.code ≡ gives_up_entry j → GivenUp s k j

-- a post that succeeds is to a seid in form
to-form : (s : State) (k : Call) → k.code ≡ 15 → (step s k).answered.error ≡ XOK → formed (configuration s.table) process (given s k) ≡ true
unfolding rule_of post
to-form s k c ok = let q = rw c at (own-clear s k ok) in passed _ q.1.0

unreached : (s : State) (j : Kind) (v : ℕ) → Gone s j v → NeverReached s j v
unreached s j v g =
    let h : List ℕ = configuration s.table in
    let r : Addr → ℕ = rd (configuration s.table) s.table in
    let f = is-formed _ _ v g.form in
    let some : v ≡ 0 → ⊥ = class-some v (class j) (class-pos j) f.class-is in
    let itself : (k : Call) → k.a ≡ v → given s k ≡ v = λ k e. rw e (for-itself h r k.caller j v g.form) in
    -- of no other kind has it the form
    let as-any : (l : Kind) → formed h l v ≡ true → present r l v ≡ false =
    λ l y. rw (class-inj l j (sym (is-formed _ _ v y).class-is ∙ f.class-is)) g.absent in
    let refuses : (k : Call) → ((step s k).answered.error ≡ XOK → ⊥) → ((step s k).answered.error ≡ XOK → ⊥) × Untouched s k (step s k) =
    λ k n. (n, refused s k n) in
    record {
      by-seid = λ k e t. refuses k (stale-seid s k t (λ c. rw (itself k e) (names-none h j v f.class-is)) (λ l y. rw (itself k e) (λ z. as-any l z)));
      by-post = λ k e c. split _ (formed h process v)
          (λ y. (stale-post s k c (rw (itself k e) (as-any process y))).1)
          (λ n. refused s k (λ ok. both_ways (formed h process v) (rw (itself k e) at (to-form s k c ok)) n));
      by-entry = λ k e u known. refuses k (stale-entry s k j u known (rw e g.absent));
      by-page = λ k is e c. refuses k (stale-page s k c (rw (e, ← is) g.absent));
      goes-out = λ k c. pages-alone s k g.well c;
      given-up = λ k o l alive known e c. stale-given-up s k j o g.well l alive c known (λ z. some (sym e ∙ z)) (rw e g.absent);
    }

-- the sentence of the night: after any run of calls
pub never-reached : (s : State) (ks : List Call) (j : Kind) (v : ℕ) → Gone s j v → NeverReached (run s ks) j v
never-reached s ks j v g = unreached (run s ks) j v (gone-for-good s ks j v g)
