-- Stale identifiers. A seid that names no object (for call 8, which opens subtypes too, no subtype either) is refused by every call that takes a seid, save a post to another
-- cell, which is dropped; a held entry that is stale is refused by every use of it, save giving it up, which succeeds and touches no object, and taking it off the map
-- (02, CR 1: "An outgoing entry may be stale": Map). A descriptor that holds a subtype (02, CR 11) is used for blocks and given up as a stale one is.
-- (All but giving up are so in every state, well formed or not.)
use mathlib.Core.Path.{◌≡◌, refl, sym, ap, ◌∙◌}
use mathlib.Core.Bool.{Bool, true, false, cond, ◌&&◌, ◌||◌, not}
use mathlib.Core.List.{List, [], ◌∷◌, ◌++◌}
use Prim.Native.Nat.{ℕ, ◌-◌, ◌<◌}
use native.Mathlib.Omega.{arith}
use native.Mathlib.Decide.{ℕ_discrete}
use lib.Dec.{ltb, leb, eqb}
use lib.ListN.{length}
use borrow.Author.Tests.{eqb-true, eqb-false, ne_eqb, lt-leb, lt-ltb}
use Rattle.rules.specs.Claim.{Holds}
use Rattle.rules.specs.Layout.{Kind, process, segment, file, slots, configuration, Addr, at, Valid, rd, live, entries, held_at, used_at, pages, pages_at, page_at}
use Rattle.rules.specs.Seid.{class, class_of, formed, is_subtype, names_subtype, seid_at, or_self, present}
use Rattle.rules.specs.WellFormed.{well_formed}
use Rattle.rules.specs.Errors.{XOK, XnSgDes, XbSgDes, XbadOd}
use Rattle.rules.specs.Rule.{◌⇒◌, Word, Effect, effect, Rule, rule, write, store, over}
use Rattle.rules.specs.Find.{in_own_cell, stale, entered, pages_cleared, emptied, given_up}
use Rattle.rules.specs.Call02.{release_process}
use Rattle.rules.specs.Call04.{rendezvous}
use Rattle.rules.specs.Call05.{release_segment}
use Rattle.rules.specs.Call06.{set_access}
use Rattle.rules.specs.Call08.{open_file, open_subtype}
use Rattle.rules.specs.Call09.{close}
use Rattle.rules.specs.Call10.{link}
use Rattle.rules.specs.Call11.{unlink}
use Rattle.rules.specs.Call12.{set_bits, set_bits_of}
use Rattle.rules.specs.Call13.{read_block}
use Rattle.rules.specs.Call14.{write_block}
use Rattle.rules.specs.Call15.{post}
use Rattle.rules.specs.Call17.{status, status_of}
use Rattle.rules.specs.Call18.{access_of}
use Rattle.rules.specs.Call19.{remap}
use Rattle.rules.specs.Call20.{page_access}
use Rattle.rules.specs.Call21.{regrade}
use Rattle.rules.specs.Step.{State, Call, step, regrade_code, rule_of, bad_code, whole_rule}
use Rattle.laws.proofs.Tests.{and_left, and_right, and_both, passed, not-of, refuted, both_ways, or-rest, split, cond_both, cond-false}
use Rattle.laws.proofs.Seids.{class-pos, class-some, class-inj, is-formed, present-is}
use Rattle.laws.proofs.Shape.{good_of, formed-object, subtype-some}
use Rattle.laws.proofs.Subtypes.{names-it, not-formed, by-opened}
use Rattle.laws.proofs.Written.{AllOf, nil, also, all_map, all_append, rd-write, conf-write, over-append, over-miss}
use Rattle.laws.proofs.Object.{Object}
use Rattle.kept.proofs.Fine.{fine_of}
use Rattle.laws.proofs.Refusals.{Clear}
use Rattle.kept.proofs.Records.{InRecord, all_valid}
use Rattle.kept.proofs.Made.{placed}
use Rattle.kept.proofs.Found.{own-found}
use Rattle.kept.proofs.Exchange.{entered-in, entered-held, entered-used, entered-beside}
use Rattle.kept.proofs.Entries.{cleared_page, Cleared, clears}
use Rattle.promises.proofs.Refusals.{Untouched, own, own-clear, goes_on, done, refused, nothing-done, effects}

-- the calls that take a seid, but for post: 2, 4, 8, 10, 11, 12, 17; and of which kinds
abbrev pub takes_seid : ℕ → Bool
takes_seid n = eqb n 2 || (eqb n 4 || (eqb n 8 || (eqb n 10 || (eqb n 11 || (eqb n 12 || eqb n 17)))))

abbrev pub takes : Kind → ℕ → Bool
takes process n = eqb n 2 || (eqb n 12 || eqb n 17)
takes segment n = eqb n 4 || (eqb n 12 || eqb n 17)
takes file n = eqb n 8 || (eqb n 10 || (eqb n 11 || (eqb n 12 || eqb n 17)))

-- a word names an object for a call: it has the form of a kind that the call takes, whose slot is live with that serial
abbrev pub Names : List ℕ → (Addr → ℕ) → ℕ → ℕ → Type 0
Names h r code v = (j : Kind) × (takes j code ≡ true) × (formed h j v ≡ true) × (present r j v ≡ true)

-- the calls that use an entry for objects of a kind: 13, 14 and 21 a descriptor, 6, 18 and 19 a designator
abbrev pub uses_entry : Kind → ℕ → Bool
uses_entry process n = false
uses_entry segment n = eqb n 6 || (eqb n 18 || eqb n 19)
uses_entry file n = eqb n 13 || (eqb n 14 || eqb n regrade_code)

-- the call that gives up an entry
abbrev pub gives_up_entry : Kind → ℕ
gives_up_entry process = 0
gives_up_entry segment = 5
gives_up_entry file = 9

either : {P : Type 0} (a b : Bool) → a || b ≡ true → (a ≡ true → P) → (b ≡ true → P) → P
either {P} a b t f g = split P a f (λ e. g (or-rest a b t e))

-- an identifier of any kind is not 0: it stands for itself
pub for-itself : (h : List ℕ) (r : Addr → ℕ) (p : ℕ) (j : Kind) (v : ℕ) → formed h j v ≡ true → or_self r p v ≡ v
unfolding or_self
for-itself h r p j v form = cond-false (eqb v 0) _ _ (ne_eqb v 0 (class-some v (class j) (class-pos j) (is-formed _ _ v form).class-is))

module _ (s : State) (k : Call) where
  abbrev h : List ℕ
  h = configuration s.table

  abbrev r : Addr → ℕ
  r = rd (configuration s.table) s.table

  -- the seid that a call is given, 0 being the caller's own
  abbrev pub given : ℕ
  given = or_self (rd (configuration s.table) s.table) k.caller k.a

  -- what the entry that a call is given holds
  abbrev pub entry_holds : Kind → ℕ
  entry_holds j = rd (configuration s.table) s.table (at process k.caller (held_at j k.a))

  -- what the designator of the page that a call is given holds
  abbrev pub page_holds : ℕ
  page_holds =
      rd (configuration s.table) s.table (at process k.caller
      (held_at segment (rd (configuration s.table) s.table (at process k.caller (page_at k.a)) - 1)))

  -- ---- seids

  by-class : (x : Bool) (f g : Rule) → (Clear f.refusals → Names h r k.code given) → (Clear g.refusals → Names h r k.code given)
      → Clear (cond x f g).refusals → Names h r k.code given
  by-class x f g a b = cond_both (λ (y : Rule). Clear y.refusals → Names h r k.code given) x f g (λ e. a) (λ e. b)

  named : takes_seid k.code ≡ true → (k.code ≡ 8 → names_subtype h given ≡ false) → Clear (own s k).refusals → Names h r k.code given
  unfolding rule_of release_process rendezvous open_file open_subtype link unlink set_bits status
  named t no-subtype c =
      let n : ℕ = k.code in
      either (eqb n 2) _ t (λ e. let q = rw (eqb-true n 2 e) at c in (process, rw (eqb-true n 2 e), passed _ q.0, passed _ q.1.1.0))
      (λ t. either (eqb n 4) _ t (λ e. let q = rw (eqb-true n 4 e) at c in (segment, rw (eqb-true n 4 e), passed _ q.1.0, passed _ q.1.1.1.0))
      (λ t. either (eqb n 8) _ t
      (λ e. by-opened h r k.caller k.a k.b k.c k.buffer (λ (x : Rule). Clear x.refusals → Names h r k.code given)
      (λ t q. both_ways (names_subtype h given) (names-it h given (passed _ q.1.0) (passed _ q.1.1.1.0)) (no-subtype (eqb-true n 8 e)))
      (λ t q. (file, rw (eqb-true n 8 e), passed _ q.1.0, passed _ q.1.1.1.0))
      (rw (eqb-true n 8 e) at c))
      (λ t. either (eqb n 10) _ t (λ e. let q = rw (eqb-true n 10 e) at c in (file, rw (eqb-true n 10 e), passed _ q.0, passed _ q.1.1.0))
      (λ t. either (eqb n 11) _ t (λ e. let q = rw (eqb-true n 11 e) at c in (file, rw (eqb-true n 11 e), passed _ q.0, passed _ q.1.1.0))
      (λ t. either (eqb n 12) _ t
      (λ e. by-class (eqb (class_of given) (class process)) _ _ (for-bits process (rw (eqb-true n 12 e)))
      (by-class (eqb (class_of given) (class segment)) _ _ (for-bits segment (rw (eqb-true n 12 e))) (for-bits file (rw (eqb-true n 12 e)))) (rw (eqb-true n 12 e) at c))
      (λ e. by-class (eqb (class_of given) (class process)) _ _ (for-status process (rw (eqb-true n 17 e)))
      (by-class (eqb (class_of given) (class segment)) _ _ (for-status segment (rw (eqb-true n 17 e))) (for-status file (rw (eqb-true n 17 e))))
      (rw (eqb-true n 17 e) at c)))))))
    where
      for-bits : (j : Kind) → takes j k.code ≡ true → Clear (set_bits_of h r k.caller given k.b k.buffer j).refusals → Names h r k.code given
      for-bits j t q = (j, t, passed _ q.1.0, passed _ q.1.1.1.0)

      for-status : (j : Kind) → takes j k.code ≡ true → Clear (status_of h r k.caller given k.buffer j).refusals → Names h r k.code given
      for-status j t q = (j, t, passed _ q.1.0, passed _ q.1.1.1.0)

  -- a seid that names no object of a kind that the call takes, nor, to call 8, a subtype
  pub stale-seid : takes_seid k.code ≡ true → (k.code ≡ 8 → names_subtype (configuration s.table) given ≡ false)
      → ((j : Kind) → takes j k.code ≡ true → formed (configuration s.table) j given ≡ true → present (rd (configuration s.table) s.table) j given ≡ false)
      → (step s k).answered.error ≡ XOK → ⊥
  stale-seid t no-subtype nothing e =
      let n = named t no-subtype (own-clear s k e) in
      both_ways (present r n.0 given) n.3 (nothing n.0 n.1 n.2)

  -- a live caller's own seid, which 0 stands for, is never stale
  pub own-seid-present : Holds (well_formed s.table (length s.store)) → k.caller < slots (configuration s.table) process
      → rd (configuration s.table) s.table (at process k.caller live) ≡ 1
      → present (rd (configuration s.table) s.table) process (seid_at (rd (configuration s.table) s.table) process k.caller) ≡ true
  own-seid-present w l alive =
      let g = good_of s.table (length s.store) w in
      present-is r process _ (own-found h r k.caller (record { shape = g.shape; fine = fine_of h r g.records; in-range = l; alive = alive })).here

  -- ---- posts

  -- in the own cell it is refused; in another, as ever, it leaves everything as it was
  pub stale-post : k.code ≡ 15 → present (rd (configuration s.table) s.table) process given ≡ false
      → (in_own_cell (configuration s.table) k.caller process given ≡ true → (step s k).answered.error ≡ XOK → ⊥) × Untouched s k (step s k)
  unfolding rule_of whole_rule post
  stale-post c gone = (
    λ mine e. let q = rw c at (own-clear s k e) in
        both_ways (in_own_cell h k.caller process given && not (present r process given))
        (and_both (in_own_cell h k.caller process given) (not (present r process given)) mine (not-of (present r process given) gone)) q.1.1.1.0,
    elim (ℕ_discrete (step s k).answered.error XOK) [
      | yes e ↦ nothing-done s k e (rw (c, gone))
      | no n ↦ refused s k n
    ],
  )

  -- ---- entries

  -- what such a call uses isn't stale (an incoming designator is an entry: 16 is none)
  used : (j : Kind) → uses_entry j k.code ≡ true → (k.code ≡ 19 → k.a < entries) → Clear (own s k).refusals → stale h r j (entry_holds j) ≡ false
  unfolding rule_of set_access access_of remap read_block write_block regrade
  used process u in-entries c = both_ways true refl (sym u)
  used segment u in-entries c = either (eqb k.code 6) _ u
      (λ e. let q = rw (eqb-true k.code 6 e) at c in q.1.1.1.0)
      (λ u. either (eqb k.code 18) (eqb k.code 19) u
      (λ e. let q = rw (eqb-true k.code 18 e) at c in q.1.1.0)
      (λ e. let q = rw (eqb-true k.code 19 e) at c in
      let t : ltb k.a entries ≡ true = lt-ltb k.a entries (in-entries (eqb-true k.code 19 e)) in
      rw t at q.1.1.0))
  used file u in-entries c = either (eqb k.code 13) _ u
      (λ e. let q = rw (eqb-true k.code 13 e) at c in q.1.1.1.1.0)
      (λ u. either (eqb k.code 14) (eqb k.code regrade_code) u
      (λ e. let q = rw (eqb-true k.code 14 e) at c in q.1.1.1.1.0)
      (λ e. let q = rw (eqb-true k.code regrade_code e) at c in q.1.1.1.1.1.1.0))

  -- it is an object's identifier, and names one
  not-stale : (j : Kind) (v : ℕ) → stale h r j v ≡ false → (formed h j v ≡ true) × (present r j v ≡ true)
  not-stale j v e =
      let t = passed (formed h j v && present r j v) e in
      (and_left (formed h j v) (present r j v) t, and_right (formed h j v) (present r j v) t)

  pub stale-entry : (j : Kind) → uses_entry j k.code ≡ true → (k.code ≡ 19 → k.a < entries) → present (rd (configuration s.table) s.table) j (entry_holds j) ≡ false
      → (step s k).answered.error ≡ XOK → ⊥
  stale-entry j u in-entries gone e = both_ways (present r j (entry_holds j)) (not-stale j (entry_holds j) (used j u in-entries (own-clear s k e))).1 gone

  -- 02, CR 11: "block calls and regrades" on a subtype are refused
  pub subtype-entry : uses_entry file k.code ≡ true → is_subtype (entry_holds file) ≡ true → (step s k).answered.error ≡ XOK → ⊥
  subtype-entry u t e =
      let in-entries : k.code ≡ 19 → k.a < entries = λ c. both_ways (uses_entry file k.code) u (rw c) in
      both_ways (formed h file (entry_holds file)) (not-stale file (entry_holds file) (used file u in-entries (own-clear s k e))).0 (not-formed h file (entry_holds file) t)

  -- a page whose designator is stale is refused by call 20
  pub stale-page : k.code ≡ 20 → present (rd (configuration s.table) s.table) segment page_holds ≡ false → (step s k).answered.error ≡ XOK → ⊥
  unfolding rule_of page_access access_of
  stale-page c gone e = let q = rw c at (own-clear s k e) in both_ways (present r segment page_holds) (not-stale segment page_holds q.1.1.1.1.0).1 gone

  -- ---- giving up

  -- XOK and two zeros; the entry's two words become 0, and so do the pages of a designator; no other word of the table, no byte of the store or of the buffer changes
  pub record GivenUp (j : Kind) : Type 0 where
    pub error : (step s k).answered.error ≡ XOK
    pub first : (step s k).answered.first ≡ 0
    pub second : (step s k).answered.second ≡ 0
    pub held : rd (configuration s.table) (step s k).state.table (at process k.caller (held_at j k.a)) ≡ 0
    pub used : rd (configuration s.table) (step s k).state.table (at process k.caller (used_at j k.a)) ≡ 0
    pub others : (b : Addr) → Valid (configuration s.table) b → (b ≡ at process k.caller (held_at j k.a) → ⊥)
        → (b ≡ at process k.caller (used_at j k.a) → ⊥) → (b.kind ≡ process → b.slot ≡ k.caller → b.word < pages_at)
        → rd (configuration s.table) (step s k).state.table b ≡ rd (configuration s.table) s.table b
    pub page : (g : ℕ) → g < pages → rd (configuration s.table) (step s k).state.table (at process k.caller (page_at g))
        ≡ cleared_page (rd (configuration s.table) s.table) j k.caller k.a g
    pub same-configuration : configuration (step s k).state.table ≡ configuration s.table
    pub store : (step s k).state.store ≡ s.store
    pub buffer : (step s k).buffer ≡ k.buffer

  -- the entry holds an object of the own cell
  abbrev mine : Kind → Bool
  mine j = formed h j (entry_holds j) && in_own_cell h k.caller j (entry_holds j)

  -- a held object of the own cell is there: so one that isn't is another cell's
  elsewhere : (j : Kind) → Object j → Holds (well_formed s.table (length s.store)) → k.caller < slots h process → k.a < entries
      → present r j (entry_holds j) ≡ false → mine j ≡ false
  elsewhere j o w in-range known gone = refuted (mine j) (λ t.
      let x = (fine_of h r (good_of s.table (length s.store) w).records).entry j o k.caller k.a in-range known in
      let n = formed-object h j (entry_holds j) (and_left (formed h j (entry_holds j)) (in_own_cell h k.caller j (entry_holds j)) t) in
      let c = eqb-true _ _ (and_right (formed h j (entry_holds j)) (in_own_cell h k.caller j (entry_holds j)) t) in
      both_ways (present r j (entry_holds j)) (present-is r j (entry_holds j) (record { is_live = x.current-live n c; same-serial = x.current-serial n c })) gone)

  module _ (j : Kind) (o : Object j) (w : Holds (well_formed s.table (length s.store))) (in-range : k.caller < slots h process)
      (alive : r (at process k.caller live) ≡ 1) (known : k.a < entries) (some : entry_holds j ≡ 0 → ⊥) (theirs : mine j ≡ false) where
    abbrev words : List Word
    words = pages_cleared r j k.caller k.a ++ entered j k.caller k.a 0 0

    written : given_up h r j k.caller k.a (entry_holds j) ≡ words
    unfolding given_up emptied
    written = rw theirs

    cleared : Cleared h r j k.caller k.a
    cleared = clears h r (fine_of h r (good_of s.table (length s.store) w).records) k.caller in-range alive j o k.a

    in-process : AllOf (InRecord process k.caller) words
    in-process = all_append _ cleared.in-process (entered-in r j o k.caller k.a 0 0 known)

    -- what is read over them
    abbrev without : Addr → ℕ
    without = over r (pages_cleared r j k.caller k.a)

    reading-is : (b : Addr) → over r words b ≡ over without (entered j k.caller k.a 0 0) b
    reading-is b = ap (λ (f : Addr → ℕ). f b) (over-append r (pages_cleared r j k.caller k.a) (entered j k.caller k.a 0 0))

    -- a word that is neither the entry's nor a page
    untouched : (b : Addr) → (b.kind ≡ process → b.slot ≡ k.caller → b.word < pages_at) → without b ≡ r b
    untouched b low = elim (ℕ_discrete b.slot k.caller) [
      | no n ↦ over-miss b (all_map (λ x i e. n (ap (λ (c : Addr). c.slot) e ∙ i.1)) cleared.in-process) r
      | yes e ↦ split _ (eqb (class b.kind) (class process))
          (λ t. let kind = class-inj b.kind process (eqb-true _ _ t) in
          let is : at process k.caller b.word ≡ b = λ i. record { kind = sym kind i; slot = sym e i; word = b.word } in
          rw (← is) (cleared.past b.word (low kind e)))
          (λ t. over-miss b (all_map (λ x i z. eqb-false _ _ t (ap class (ap (λ (c : Addr). c.kind) z ∙ i.0))) cleared.in-process) r)
    ]

    by-rule : (x y : ℕ) → bad_code k.code ≡ false
        → own s k ≡ rule ((leb entries k.a ⇒ x) ∷ (eqb (entry_holds j) 0 ⇒ y) ∷ []) (effect 0 0 k.buffer (given_up h r j k.caller k.a (entry_holds j)) [])
        → GivenUp j
    unfolding whole_rule
    by-rule x y code is =
        let ok = goes_on s k w in-range alive code (rw is (lt-leb entries k.a known, (ne_eqb (entry_holds j) 0 some, tt))) in
        let d = done s k ok in
        let e : effects s k ≡ effect 0 0 k.buffer words [] =
        ap (λ (x : Rule). x.effects) is ∙ ap (λ ws. effect 0 0 k.buffer ws []) written in
        let t : (step s k).state.table ≡ write h s.table words =
        d.table ∙ ap (λ (x : Effect). write h s.table x.words) e in
        let y = placed j o k.a known in
        let valid = all_valid h process k.caller in-range in-process in
        let reads : (b : Addr) → Valid h b → rd h (step s k).state.table b ≡ over without (entered j k.caller k.a 0 0) b =
        λ b v. ap (λ (l : List ℕ). rd h l b) t ∙ rd-write h s.table valid (good_of s.table (length s.store) w).words b v ∙ reading-is b in
        record {
          error = ok;
          first = d.first ∙ ap (λ (x : Effect). x.first) e;
          second = d.second ∙ ap (λ (x : Effect). x.second) e;
          held = reads _ (in-range, omega arith) ∙ entered-held without j o k.caller k.a 0 0 known;
          used = reads _ (in-range, omega arith) ∙ entered-used without j o k.caller k.a 0 0 known;
          others = λ b v x y low. reads b v ∙ over-miss b (also x (also y nil)) without ∙ untouched b low;
          page = λ g gl. reads _ (in-range, omega arith) ∙ entered-beside without j o k.caller k.a 0 0 known (page_at g) (λ z. omega arith) (λ z. omega arith)
              ∙ cleared.page g gl;
          same-configuration = ap configuration t ∙ conf-write h s.table words refl;
          store = d.store ∙ ap (λ (x : Effect). store h s.store x.bytes) e;
          buffer = d.buffer ∙ ap (λ (x : Effect). x.buffer) e;
        }

  -- of a well-formed state and a live caller: an entry that holds no object of the own cell
  other-given-up : (j : Kind) → Object j → Holds (well_formed s.table (length s.store)) → k.caller < slots h process
      → r (at process k.caller live) ≡ 1 → k.code ≡ gives_up_entry j → k.a < entries → (entry_holds j ≡ 0 → ⊥) → mine j ≡ false → GivenUp j
  unfolding rule_of bad_code release_segment close
  other-given-up process o w l a c known some theirs = absurd o
  other-given-up segment o w l a c known some theirs = by-rule segment o w l a known some theirs XnSgDes XbSgDes (rw c) (rw c)
  other-given-up file o w l a c known some theirs = by-rule file o w l a known some theirs XbadOd XbadOd (rw c) (rw c)

  pub stale-given-up : (j : Kind) → Object j → Holds (well_formed s.table (length s.store)) → k.caller < slots (configuration s.table) process
      → rd (configuration s.table) s.table (at process k.caller live) ≡ 1 → k.code ≡ gives_up_entry j → k.a < entries → (entry_holds j ≡ 0 → ⊥)
      → present (rd (configuration s.table) s.table) j (entry_holds j) ≡ false → GivenUp j
  stale-given-up j o w l a c known some gone = other-given-up j o w l a c known some (elsewhere j o w l known gone)

  -- 02, CR 11: so too a descriptor that holds a subtype
  pub subtype-given-up : Holds (well_formed s.table (length s.store)) → k.caller < slots (configuration s.table) process
      → rd (configuration s.table) s.table (at process k.caller live) ≡ 1 → k.code ≡ 9 → k.a < entries → is_subtype (entry_holds file) ≡ true → GivenUp file
  subtype-given-up w l a c known t = other-given-up file tt w l a c known (subtype-some file (entry_holds file) t) (rw (not-formed h file (entry_holds file) t))
