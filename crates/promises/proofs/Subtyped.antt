-- 02, CR 11, subtyped files: a file gets the subtype that its creator names and holds, or none (`created-with`, `created-without`); it is opened by a holder of its
-- subtype alone, held for all that is asked (`by-holder`); while it lives its subtype stays what it is (`one-call`, `fixed`). To open a subtype touches no file
-- (`opened`), nor does giving up its descriptor, by itself or with its process (`closed`, `released`).
use mathlib.Core.Path.{◌≡◌, refl, sym, ap, ◌∙◌}
use mathlib.Core.Bool.{Bool, true, false, ◌&&◌, ◌||◌, not}
use mathlib.Core.List.{List, [], ◌∷◌}
use Prim.Native.Nat.{ℕ, ◌+◌, ◌-◌, ◌≤◌, ◌<◌}
use native.Mathlib.Omega.{arith}
use native.Mathlib.Decide.{ℕ_discrete}
use lib.Dec.{eqb}
use lib.ListN.{length}
use borrow.Author.Tests.{eqb-true, ne_eqb}
use Rattle.rules.specs.Layout.{Kind, process, segment, file, record_words, slots, configuration, cell_of, subtype_cell, Addr, at, rd, live, serial, owner, group, entries, held_at, used_at, links, opens, size, subtype, bits}
use Rattle.rules.specs.Seid.{class, seid, index_of, serial_of, formed, or_self, is_subtype, present}
use Rattle.rules.specs.Modes.{reads, writes}
use Rattle.rules.specs.Errors.{XOK}
use Rattle.rules.specs.Rule.{Word, ◌≔◌, Rule, over}
use Rattle.rules.specs.Find.{in_own_cell, free_slot, free_entry, freed}
use Rattle.rules.specs.Subtype.{held_by, modes_by, no_subtype}
use Rattle.rules.specs.Call02.{release_process}
use Rattle.rules.specs.Call07.{unfit, subtype_for, create}
use Rattle.rules.specs.Call08.{is_subtyped, mismatched, open_file, open_subtype}
use Rattle.rules.specs.Call09.{close}
use Rattle.rules.specs.Call11.{unlinked, unlink}
use Rattle.rules.specs.Step.{State, Call, step, next, run, rule_of}
use Rattle.laws.proofs.Tests.{and_left, and_right, passed, not-of, or_left, or_right, split, both_ways, cond_both}
use Rattle.laws.proofs.Seids.{index-seid, serial-seid, made-formed, is-present, present-is}
use Rattle.laws.proofs.Shape.{good_of, file-record}
use Rattle.laws.proofs.Slots.{slot-untaken}
use Rattle.laws.proofs.Subtypes.{names-one, not-formed, by-opened}
use Rattle.laws.proofs.Written.{nil, also, all_map, over-miss}
use Rattle.laws.proofs.Object.{no-process}
use Rattle.laws.proofs.Refusals.{Clear}
use Rattle.kept.proofs.Records.{elsewhere, in-first}
use Rattle.kept.proofs.Made.{object-words}
use Rattle.kept.proofs.Keeps.{Caller}
use Rattle.kept.proofs.Found.{own-slot, free-entry}
use Rattle.kept.proofs.Exchange.{entered-in}
use Rattle.kept.proofs.Created.{made_in, made-subtyped}
use Rattle.kept.proofs.Kept.{Well, kept, conf-kept, serials-kept, run-conf-kept, run-serials-kept}
use Rattle.promises.proofs.Refusals.{own, own-clear, refused}
use Rattle.promises.proofs.After.{its-caller, read-after}
use Rattle.promises.proofs.Stale.{given, entry_holds, GivenUp, subtype-given-up}
use Rattle.promises.proofs.Writes.{Wrote, made, filled, emptied, paged, counted, freed-word, cleared, linked, sized, set-bits, posted, received, writes as words-written}
use Rattle.promises.proofs.Surviving.{Survives, survives-freed, survives-given, survives-released}
use Rattle.promises.proofs.Released.{HoldsBy, all-released}
use Rattle.promises.proofs.Gone.{gone-for-good}

abbrev pub word_of : State → ℕ → ℕ → ℕ
word_of s f n = rd (configuration s.table) s.table (at file f n)

-- ---- "Create may name a subtype of the caller's cell held for reading and writing."

-- what an accepted call 7 with c not 0 had: the descriptor c - 1 holds the subtype s
pub record NamedBy (h : List ℕ) (r : Addr → ℕ) (k : Call) (s : ℕ) : Type 0 where
  pub in-record : k.c ≤ entries
  pub holds : r (at process k.caller (held_at file (k.c - 1))) ≡ s
  pub is-subtype : is_subtype s ≡ true
  pub own-cell : subtype_cell h (index_of s) ≡ cell_of h process k.caller
  pub to_read : reads (r (at process k.caller (used_at file (k.c - 1)))) ≡ true
  pub to_write : writes (r (at process k.caller (used_at file (k.c - 1)))) ≡ true

fitting : (h : List ℕ) (r : Addr → ℕ) (k : Call) → (k.c ≡ 0 → ⊥) → not (eqb k.c 0) && no_subtype r k.caller k.c ≡ false
    → not (eqb k.c 0) && unfit h r k.caller k.c ≡ false → NamedBy h r k (held_by r k.caller k.c)
unfolding unfit
fitting h r k some named fit =
    let p = k.caller in
    let n = ne_eqb k.c 0 some in
    let x = names-one r p k.c (rw n at named) in
    let used = modes_by r p k.c in
    let other : Bool = not (eqb (subtype_cell h (index_of (held_by r p k.c))) (cell_of h process p)) in
    let few : Bool = not (reads used && writes used) in
    let fits : other || few ≡ false = rw n at fit in
    let both = passed (reads used && writes used) (or_right other few fits) in
    record {
      in-record = x.in-record;
      holds = refl;
      is-subtype = x.holds-one;
      own-cell = eqb-true _ _ (passed _ (or_left other few fits));
      to_read = and_left (reads used) (writes used) both;
      to_write = and_right (reads used) (writes used) both;
    }

module _ (s : State) (k : Call) (w : Well s) (code : k.code ≡ 7) (ok : (step s k).answered.error ≡ XOK) where
  abbrev h : List ℕ
  h = configuration s.table

  abbrev r : Addr → ℕ
  r = rd h s.table

  -- the slot that the new file takes
  abbrev pub created : ℕ
  created = free_slot (configuration s.table) (rd (configuration s.table) s.table) file (cell_of (configuration s.table) process k.caller)

  its-rule : own s k ≡ create h r k.caller k.a k.b k.c k.buffer
  unfolding rule_of
  its-rule = rw code

  clear : Clear (create h r k.caller k.a k.b k.c k.buffer).refusals
  clear = rw its-rule at (own-clear s k ok)

  its-subtype : word_of (next s k) created subtype ≡ subtype_for r k.caller k.c
  unfolding create
  its-subtype =
      let p = k.caller in
      let me = its-caller s k w ok in
      let room = own-slot h r p me file clear.1.1.1.1.1.0 in
      let dl = (free-entry r file p clear.1.1.1.1.0).in-record in
      let new = made_in file tt created (r (at file created serial) + 1) (r (at process p owner)) (r (at process p group)) k.a 0 0 (subtype_for r p k.c) in
      rw (conf-kept s k w) (read-after s k w ok (at file created subtype) (room.in-range, omega arith)
      ∙ ap (λ (x : Rule). over r x.effects.words (at file created subtype)) its-rule
      ∙ in-first file process created p (λ e f. no-process file tt (sym e)) new (entered-in r file tt p (free_entry r file p) _ k.b dl) r subtype
      ∙ made-subtyped created _ _ _ _ _ _ (subtype_for r p k.c) r)

  pub created-without : k.c ≡ 0 → word_of (next s k) created subtype ≡ 0
  unfolding subtype_for
  created-without z = its-subtype ∙ rw z

  pub created-with : (k.c ≡ 0 → ⊥) → NamedBy (configuration s.table) (rd (configuration s.table) s.table) k (word_of (next s k) created subtype)
  unfolding create subtype_for
  created-with some =
      let is : word_of (next s k) created subtype ≡ held_by r k.caller k.c = its-subtype ∙ rw (ne_eqb k.c 0 some) in
      rw is (fitting h r k some clear.1.1.0 clear.1.1.1.0)

-- ---- "Open of a subtyped file takes the descriptor of its subtype, held for read to read and for write to write."

-- the caller's descriptor c - 1 holds the subtype s, for all that the modes b ask
pub record ByHolder (r : Addr → ℕ) (k : Call) (s : ℕ) : Type 0 where
  pub some : k.c ≡ 0 → ⊥
  pub in-record : k.c ≤ entries
  pub holds : r (at process k.caller (held_at file (k.c - 1))) ≡ s
  pub to_read : reads k.b ≡ true → reads (r (at process k.caller (used_at file (k.c - 1)))) ≡ true
  pub to_write : writes k.b ≡ true → writes (r (at process k.caller (used_at file (k.c - 1)))) ≡ true

-- what is asked is granted
granted : (x y : Bool) → x && not y ≡ false → x ≡ true → y ≡ true
granted x y e t = passed y (rw t at e)

matched : (r : Addr → ℕ) (k : Call) (i : ℕ) → no_subtype r k.caller k.c ≡ false → mismatched r k.caller i k.b k.c ≡ false
    → ByHolder r k (r (at file i subtype))
unfolding mismatched
matched r k i named fits =
    let x = names-one r k.caller k.c named in
    let wrong : Bool = not (eqb (held_by r k.caller k.c) (r (at file i subtype))) in
    let unread : Bool = reads k.b && not (reads (modes_by r k.caller k.c)) in
    let unwritten : Bool = writes k.b && not (writes (modes_by r k.caller k.c)) in
    let few = or_right wrong (unread || unwritten) fits in
    record {
      some = x.some;
      in-record = x.in-record;
      holds = eqb-true _ _ (passed _ (or_left wrong (unread || unwritten) fits));
      to_read = granted (reads k.b) _ (or_left unread unwritten few);
      to_write = granted (writes k.b) _ (or_right unread unwritten few);
    }

-- a call 8 on a file (what it is given is no subtype) that is answered XOK
pub by-holder : (s : State) (k : Call) → k.code ≡ 8 → is_subtype (given s k) ≡ false → (step s k).answered.error ≡ XOK
    → (word_of s (index_of (given s k)) subtype ≡ 0 → ⊥)
    → ByHolder (rd (configuration s.table) s.table) k (word_of s (index_of (given s k)) subtype)
unfolding rule_of open_file
by-holder s k code is-file ok some =
    let h = configuration s.table in
    let r = rd (configuration s.table) s.table in
    let i = index_of (given s k) in
    let has : is_subtyped r i ≡ true = not-of _ (ne_eqb (r (at file i subtype)) 0 some) in
    by-opened h r k.caller k.a k.b k.c k.buffer (λ (x : Rule). Clear x.refusals → ByHolder r k (r (at file i subtype)))
    (λ t. both_ways (is_subtype (given s k)) t is-file)
    (λ t q. matched r k i (rw has at q.1.1.1.1.1.0) (rw has at q.1.1.1.1.1.1.0))
    (rw code at (own-clear s k ok))

-- ---- a file's subtype stays while it lives

module _ (h : List ℕ) (r : Addr → ℕ) (st : List ℕ) (k : Call) (me : Caller h r k.caller) (i : ℕ) (lives : r (at file i live) ≡ 1) where
  kind-of : (x : Word) → at file i subtype ≡ x.at → file ≡ x.at.kind
  kind-of x e = ap (λ (b : Addr). b.kind) e

  word-of : (x : Word) → at file i subtype ≡ x.at → subtype ≡ x.at.word
  word-of x e = ap (λ (b : Addr). b.word) e

  not-bits : (j : Kind) → subtype ≡ bits j → ⊥
  not-bits process e = omega (arith, e)
  not-bits segment e = omega (arith, e)
  not-bits file e = omega (arith, e)

  -- calls other than 2, 9 and 11 write no such word
  sparing : (k.code ≡ 2 → ⊥) → (k.code ≡ 9 → ⊥) → (k.code ≡ 11 → ⊥) → (x : Word) → Wrote h r k x → at file i subtype ≡ x.at → ⊥
  sparing a b c x (made {j = j} {c = d} f l room low y) e =
      omega (arith, (slot-untaken h r j d room).is_free, lived j _ (ap (λ (b : Addr). b.kind) e) (ap (λ (b : Addr). b.slot) e))
    where
      lived : (j : Kind) (m : ℕ) → file ≡ j → i ≡ m → r (at j m live) ≡ 1
      lived j m e f = rw (← e, ← f) lives
  sparing a b c x (filled j y w) e = no-process file tt (kind-of x e)
  sparing a b c x (emptied j y w) e = no-process file tt (kind-of x e)
  sparing a b c x (paged y l) e = no-process file tt (kind-of x e)
  sparing a b c x (counted {j = j} o) e = omega (arith, word-of x e, (object-words j o).holders-at)
  sparing a b c x (freed-word process o f y) e = absurd o
  sparing a b c x (freed-word segment o f y) e = omega (arith, ap class (kind-of x e))
  sparing a b c x (freed-word file o f y) e = c (f a b)
  sparing a b c x (cleared d y) e = a d
  sparing a b c x linked e = let z : subtype ≡ links = word-of x e in omega arith
  sparing a b c x sized e = let z : subtype ≡ size = word-of x e in omega arith
  sparing a b c x (set-bits {j = j} d f) e = not-bits j (word-of x e)
  sparing a b c x (posted d y) e = no-process file tt (kind-of x e)
  sparing a b c x (received d y) e = no-process file tt (kind-of x e)

  abbrev Stays : List Word → Type 0
  Stays ws = over r ws (at file i live) ≡ 1 → over r ws (at file i subtype) ≡ r (at file i subtype)

  survived : (ws : List Word) → Survives file tt i r (over r ws) → Stays ws
  survived ws f l = f l subtype (λ e. omega (arith, e))

  -- a file whose last link goes is freed
  unlinked-stays : (m : ℕ) → Stays (unlinked r m)
  unfolding unlinked
  unlinked-stays m = cond_both Stays (eqb (r (at file m links)) 1 && eqb (r (at file m opens)) 0) (freed file m) ((at file m links ≔ r (at file m links) - 1) ∷ [])
      (λ e. survived (freed file m) (survives-freed file tt i r file m))
      (λ e l. over-miss (at file i subtype) (also (λ z. let y : subtype ≡ links = ap (λ (b : Addr). b.word) z in omega arith) nil) r)

  subtype-stays : Clear (rule_of h r st k).refusals → Stays (rule_of h r st k).effects.words
  unfolding rule_of release_process close unlink
  subtype-stays ok = elim (ℕ_discrete k.code 2) [
    | yes e ↦ rw e (survived _ (survives-released file tt i h r (index_of (or_self r k.caller k.a))))
    | no a ↦ elim (ℕ_discrete k.code 9) [
      | yes e ↦ rw e (survived _ (survives-given file tt i h r r file k.caller k.a (r (at process k.caller (held_at file k.a)))))
      | no b ↦ elim (ℕ_discrete k.code 11) [
        | yes e ↦ rw e (unlinked-stays (index_of (or_self r k.caller k.a)))
        | no c ↦ λ l. over-miss (at file i subtype) (all_map (sparing a b c) (words-written h r st k me ok)) r
      ]
    ]
  ]

-- one call, answered how it may be: a file that lives before and after it
pub one-call : (s : State) (k : Call) (i : ℕ) → Well s → i < slots (configuration s.table) file → word_of s i live ≡ 1 → word_of (next s k) i live ≡ 1
    → word_of (next s k) i subtype ≡ word_of s i subtype
one-call s k i w l lives alive = elim (ℕ_discrete (step s k).answered.error XOK) [
  | no n ↦ rw (refused s k n).state refl
  | yes ok ↦
      let h = configuration s.table in
      let after : (n : ℕ) → n < record_words file → word_of (next s k) i n ≡ over (rd h s.table) (own s k).effects.words (at file i n) =
      λ n nl. rw (conf-kept s k w) (read-after s k w ok (at file i n) (l, nl)) in
      after subtype (omega arith)
      ∙ subtype-stays h (rd h s.table) s.store k (its-caller s k w ok) i lives (own-clear s k ok) (sym (after live (omega arith)) ∙ alive)
]

-- a run: a file that lives before and after it with the same serial is the same file, and lived all the while
module _ (s : State) (w : Well s) (i : ℕ) (l : i < slots (configuration s.table) file) (lives : word_of s i live ≡ 1) where
  abbrev it : ℕ
  it = seid (class file) i (word_of s i serial)

  small : i < 256
  small = omega (arith, l, (good_of s.table (length s.store) w).shape.few file)

  its-record : (1 ≤ word_of s i serial) × (word_of s i serial < 65536)
  its-record =
      let x = file-record (configuration s.table) (rd (configuration s.table) s.table) (good_of s.table (length s.store) w).records i l in
      (x.serial-some lives, omega (arith, x.serial-fits))

  its-slot : index_of it ≡ i
  its-slot = index-seid (class file) i (word_of s i serial) small its-record.1

  its-serial : serial_of it ≡ word_of s i serial
  its-serial = serial-seid (class file) i (word_of s i serial) small its-record.1

  -- where a later state has it, it lived in every state between
  lived : (k : Call) (ks : List Call) → word_of (run (next s k) ks) i live ≡ 1 → word_of (run (next s k) ks) i serial ≡ word_of s i serial → word_of (next s k) i live ≡ 1
  lived k ks alive same =
      let u = next s k in
      let v = kept s k w in
      let conf = conf-kept s k w in
      let end = run u ks in
      let form : formed (configuration u.table) file it ≡ true =
      rw conf (made-formed (class file) (slots (configuration s.table) file) i (word_of s i serial) l
      (omega (arith, (good_of s.table (length s.store) w).shape.few file)) its-record.0 its-record.1) in
      let here : present (rd (configuration end.table) end.table) file it ≡ true =
      present-is _ file it (record { is_live = rw its-slot alive; same-serial = rw its-slot (same ∙ sym its-serial) }) in
      let reached : word_of s i serial ≤ word_of u i serial = rw conf (serials-kept s k w file i l) in
      split _ (present (rd (configuration u.table) u.table) file it)
      (λ t. rw its-slot at (is-present _ file it t).is_live)
      (λ t. both_ways _ here (gone-for-good u ks file it (record { well = v; form = form; reached = rw (its-serial, its-slot) reached; absent = t })).absent)

  next-serial : (k : Call) (ks : List Call) → word_of (run (next s k) ks) i serial ≡ word_of s i serial → word_of (next s k) i serial ≡ word_of s i serial
  next-serial k ks same =
      let u = next s k in
      let v = kept s k w in
      let conf = conf-kept s k w in
      let first : word_of s i serial ≤ word_of u i serial = rw conf (serials-kept s k w file i l) in
      let rest : word_of u i serial ≤ word_of (run u ks) i serial = rw (run-conf-kept u ks v) (run-serials-kept u ks v file i (rw conf l)) in
      omega (arith, first, rest, same)

pub fixed : (s : State) (ks : List Call) (i : ℕ) → Well s → i < slots (configuration s.table) file → word_of s i live ≡ 1 → word_of (run s ks) i live ≡ 1
    → word_of (run s ks) i serial ≡ word_of s i serial → word_of (run s ks) i subtype ≡ word_of s i subtype
unfolding run
fixed s [] i w l lives alive same = refl
fixed s (k ∷ ks) i w l lives alive same =
    let there = lived s w i l lives k ks alive same in
    fixed (next s k) ks i (kept s k w) (rw (conf-kept s k w) l) there alive (same ∙ sym (next-serial s w i l lives k ks same))
    ∙ one-call s k i w l lives there

-- ---- "Subtypes open and close by calls 8 and 9, are never freed": what that touches

-- a call 8 on a subtype: no word of any file's record
pub opened : (s : State) (k : Call) → Well s → k.code ≡ 8 → is_subtype (given s k) ≡ true → (f n : ℕ) → f < slots (configuration s.table) file → n < record_words file
    → word_of (next s k) f n ≡ word_of s f n
unfolding rule_of open_subtype
opened s k w code is-subtype f n fl nl = elim (ℕ_discrete (step s k).answered.error XOK) [
  | no d ↦ rw (refused s k d).state refl
  | yes ok ↦
      let h = configuration s.table in
      let r = rd (configuration s.table) s.table in
      let same : Clear (own s k).refusals → over r (own s k).effects.words (at file f n) ≡ r (at file f n) =
      rw code (by-opened h r k.caller k.a k.b k.c k.buffer (λ (x : Rule). Clear x.refusals → over r x.effects.words (at file f n) ≡ r (at file f n))
      (λ t q. let dl = (free-entry r file k.caller q.1.1.1.1.1.1.0).in-record in
      elsewhere process k.caller (entered-in r file tt k.caller (free_entry r file k.caller) (given s k) k.b dl) r file f n (λ e g. no-process file tt e))
      (λ t. both_ways (is_subtype (given s k)) is-subtype t)) in
      rw (conf-kept s k w) (read-after s k w ok (at file f n) (fl, nl) ∙ same (own-clear s k ok))
]

-- by call 9, XOK: the descriptor's two words, and no word of any file's record (`others`)
pub closed : (s : State) (k : Call) → Well s → k.caller < slots (configuration s.table) process
    → rd (configuration s.table) s.table (at process k.caller live) ≡ 1 → k.code ≡ 9 → k.a < entries → is_subtype (entry_holds s k file) ≡ true
    → GivenUp s k file × ((f n : ℕ) → f < slots (configuration s.table) file → n < record_words file → word_of (next s k) f n ≡ word_of s f n)
closed s k w l alive code known holds =
    let x = subtype-given-up s k w l alive code known holds in
    let apart : (f n p m : ℕ) → at file f n ≡ at process p m → ⊥ = λ f n p m e. no-process file tt (ap (λ (b : Addr). b.kind) e) in (
      x,
      λ f n fl nl. rw (conf-kept s k w) (x.others (at file f n) (fl, nl) (apart f n _ _) (apart f n _ _) (λ e. absurd (no-process file tt e))),
    )

-- by call 2, with its process: a file stays as it is that no other descriptor of the process holds
no-holder : (h : List ℕ) (r : Addr → ℕ) (q i d : ℕ) → is_subtype (r (at process q (held_at file d))) ≡ true → HoldsBy h r q file i d → ⊥
no-holder h r q i d t x = both_ways (formed h file _) x.form (not-formed h file _ t)

pub released : (s : State) (k : Call) → Well s → k.code ≡ 2
    → let h : List ℕ = configuration s.table in
    let r : Addr → ℕ = rd (configuration s.table) s.table in
    let q : ℕ = index_of (given s k) in
    k.caller < slots h process → r (at process k.caller live) ≡ 1 → formed h process (given s k) ≡ true → in_own_cell h k.caller process (given s k) ≡ true
    → present r process (given s k) ≡ true → r (at process q owner) ≡ r (at process k.caller owner)
    → (f n : ℕ) → f < slots h file → n < record_words file → ((d : ℕ) → d < entries → is_subtype (r (at process q (held_at file d))) ≡ false → HoldsBy h r q file f d → ⊥)
    → word_of (next s k) f n ≡ word_of s f n
released s k w code l alive form mine here owned f n fl nl none =
    let h = configuration s.table in
    let r = rd (configuration s.table) s.table in
    let q = index_of (given s k) in
    rw (conf-kept s k w) ((all-released s k w code l alive form mine here owned).objects file tt f n fl nl (λ d dl x.
    split ⊥ (is_subtype (r (at process q (held_at file d)))) (λ t. no-holder h r q f d t x) (λ t. none d dl t x)))
