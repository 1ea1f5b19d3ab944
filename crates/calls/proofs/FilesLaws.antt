-- What the calls on files find and write, in the rules' terms: their refusals are the rules', and so are the words that they write.
use mathlib.Core.Path.{◌≡◌, refl, sym, ap, ◌∙◌}
use Rattle.std.specs.Prelude.{Some, None}
use mathlib.Core.Bool.{Bool, true, false, cond, ◌&&◌, ◌||◌, not}
use mathlib.Core.List.{List, [], ◌∷◌, ◌++◌}
use Prim.Native.Nat.{ℕ, ◌+◌, ◌*◌, ◌-◌, ◌≤◌, ◌<◌}
use native.Mathlib.Omega.{arith}
use native.Mathlib.Decide.{ℕ_discrete}
use lib.Dec.{eqb, ltb}
use lib.ListN.{get_or, set}
use borrow.Author.Tests.{eqb-true, eq-eqb, ne_eqb}
use Rattle.rules.specs.Layout.{max_slots, max_bits, max_links, Kind, process, segment, file, configuration, slots, cell_of, Addr, at, entries, held_at, used_at, cell_slots, first_slot, live, serial, owner, group, bits, links, opens, subtype, record_words}
use Rattle.rules.specs.Seid.{class, class_of, seid, index_of, formed, or_self, subtype_class, is_subtype, formed_subtype}
use Rattle.rules.specs.Modes.{valid_modes, reads, writes, clash}
use Rattle.rules.specs.Rights.{lacks}
use Rattle.rules.specs.Errors.{XbParam, XbadModes, XnoObj, XnoAcc, XdapViol, Xbusy, XbadLink, XodSpace, XnoSpace, XshSg, XbadStCap, XbadSubtypeMatch}
use Rattle.rules.specs.Rule.{Refusal, ◌⇒◌, Word, ◌≔◌, Rule, first_refusal, write}
use Rattle.rules.specs.Find.{in_own_cell, flows_to_caller, rights_at, no_slot, free_entry, no_entry, entered, own, find}
use Rattle.rules.specs.Subtype.{no_subtype}
use Rattle.rules.specs.Call07.{subtype_for, created, create}
use Rattle.rules.specs.Call08.{clashes_at, clashes, is_subtyped, mismatched, open_file, open_subtype, open_seid}
use Rattle.rules.specs.Call10.{link}
use Rattle.rules.specs.Call11.{unlinked, unlink}
use Rattle.rules.specs.Call12.{is_shared, set_bits_of, set_bits}
use Rattle.rules.specs.Words.{some_below}
use Rattle.laws.proofs.Tests.{cond-true, cond-false, passed}
use Rattle.laws.proofs.Below.{some-none, some_of}
use Rattle.laws.proofs.Seids.{is-formed, class-some}
use Rattle.modes.specs.Clash.{clash_of}
use Rattle.modes.proofs.Numbers.{clash-valid}
use Rattle.laws.proofs.Shape.{file-record, descriptor}
use Rattle.layout.specs.declared.Header.{Header}
use Rattle.layout.specs.Header.{record_of, place_of}
use Rattle.calls.specs.declared.Caller.{Caller}
use Rattle.calls.specs.declared.objects.Seen.{Seen}
use Rattle.calls.specs.World.{Known, Sound, words_of, Clashable}
use Rattle.calls.specs.declared.Answer.{Answer}
use Rattle.calls.specs.Left.{rule_at, Left}
use Rattle.calls.specs.declared.error.Error.{Error}
use Rattle.calls.specs.Refusing.{number_of}
use Rattle.calls.specs.Seen.{named_of, kind_by, unseen, seen_of, find_tests, own_tests, slot_found, entry_found, subtype_as, seen_subtype}
use Rattle.ids.specs.Seid.{seid_of}
use Rattle.calls.specs.Calls.{open_tests, create_under, open_under}
use Rattle.calls.specs.declared.entries.Entry.{Entry}
use Rattle.calls.specs.Entries.{entry_of, freed_at, made_at, taken_up_at}
use Rattle.calls.proofs.Worlds.{spot}
use Rattle.laws.proofs.Refusals.{clear}
use Rattle.laws.proofs.Written.{write-append}
use Rattle.calls.proofs.Refusals.{past}
use Rattle.calls.proofs.Refused.{stopped, later}
use Rattle.calls.proofs.Leaves.{left-same}
use Rattle.calls.proofs.Looks.{own-numbered, by_kind, form-past, find_first, own_first, seen-formed, own_is, slot_is, slot-in}
use Rattle.calls.proofs.Given.{begins, along, freed-is}
use Rattle.calls.proofs.Holders.{made-is, entered-is, one-fits, taken-told}
use Rattle.calls.proofs.Counted.{holders-counted, holders-few}
use Rattle.calls.proofs.Searches.{entry-none, entry-some, slot-none, slot-some, new-seid}

-- ---- 10 and 11: link and unlink. s is the seid, f what is seen of it, m its links

module _ {t : List ℕ} {n : Header} {c : Caller} (sound : Sound t n c) (a : ℕ) (buffer : List ℕ) {s m : ℕ} {f : Seen} (self : s ≡ or_self (words_of t) c.slot a)
    (seen : f ≡ seen_of (configuration t) (words_of t) c.slot file (named_of n file s)) (count : m ≡ words_of t (at file f.slot links)) where
  link-number : first_refusal (own_tests f file ++ (eqb m max_links ⇒ XbadLink) ∷ []) ≡ first_refusal (rule_at t (λ h q. link h q c.slot a buffer)).refusals
  unfolding link
  link-number =
      rw (← self)
      (own_first sound.known c.slot file s seen ((eqb m max_links ⇒ XbadLink) ∷ []) ((eqb (words_of t (at file (index_of s) links)) max_links ⇒ XbadLink) ∷ [])
      (λ form. rw (count, slot_is sound.known c.slot file s seen form)))

  unlink-number : first_refusal (own_tests f file ++ (eqb m 0 ⇒ XbadLink) ∷ []) ≡ first_refusal (rule_at t (λ h q. unlink h q c.slot a buffer)).refusals
  unfolding unlink
  unlink-number =
      rw (← self)
      (own_first sound.known c.slot file s seen ((eqb m 0 ⇒ XbadLink) ∷ []) ((eqb (words_of t (at file (index_of s) links)) 0 ⇒ XbadLink) ∷ [])
      (λ form. rw (count, slot_is sound.known c.slot file s seen form)))

  -- stage by stage
  pub link-owned : (e : Error) → number_of e ≡ first_refusal (own_tests f file) → number_of e ≡ first_refusal (rule_at t (λ h q. link h q c.slot a buffer)).refusals
  link-owned e found = stopped (own_tests f file) ((eqb m max_links ⇒ XbadLink) ∷ []) e found ∙ link-number

  pub link-counted : {e : ℕ} → 0 ≡ first_refusal (own_tests f file) → e ≡ first_refusal ((eqb m max_links ⇒ XbadLink) ∷ [])
      → e ≡ first_refusal (rule_at t (λ h q. link h q c.slot a buffer)).refusals
  link-counted z found = later (own_tests f file) ((eqb m max_links ⇒ XbadLink) ∷ []) refl z found ∙ link-number

  pub unlink-owned : (e : Error) → number_of e ≡ first_refusal (own_tests f file) → number_of e ≡ first_refusal (rule_at t (λ h q. unlink h q c.slot a buffer)).refusals
  unlink-owned e found = stopped (own_tests f file) ((eqb m 0 ⇒ XbadLink) ∷ []) e found ∙ unlink-number

  pub unlink-counted : {e : ℕ} → 0 ≡ first_refusal (own_tests f file) → e ≡ first_refusal ((eqb m 0 ⇒ XbadLink) ∷ [])
      → e ≡ first_refusal (rule_at t (λ h q. unlink h q c.slot a buffer)).refusals
  unlink-counted z found = later (own_tests f file) ((eqb m 0 ⇒ XbadLink) ∷ []) refl z found ∙ unlink-number

  -- past "own" the seid is formed
  module _ (passed : 0 ≡ first_refusal (own_tests f file)) where
    linked-form : formed (configuration t) file s ≡ true
    linked-form = form-past sound.known c.slot file s seen (clear (own_tests f file) refl (sym passed)).0

    -- its links stay in a byte
    pub links-few : m ≤ max_links
    links-few =
        let i = slot-in sound.known c.slot file s seen linked-form in
        let x = file-record (configuration t) (words_of t) sound.records f.slot i in
        elim (ℕ_discrete (words_of t (at file f.slot live)) 1) [
          | yes y ↦ omega (arith, count, (x.alive y).links-fit)
          | no z ↦ omega (arith, count, x.free (omega (arith, x.flag)) links (omega arith) (omega arith))
        ]

    pub link-words : set t (place_of n (at file f.slot links)) (m + 1) ≡ write (configuration t) t (rule_at t (λ h q. link h q c.slot a buffer)).effects.words
    unfolding link
    link-words = rw (count, spot sound.known (at file f.slot links), slot_is sound.known c.slot file s seen linked-form, self)

    pub unlink-words : write (configuration t) t (unlinked (words_of t) f.slot) ≡ write (configuration t) t (rule_at t (λ h q. unlink h q c.slot a buffer)).effects.words
    unfolding unlink
    unlink-words = rw (slot_is sound.known c.slot file s seen linked-form, self)

-- one link less

module _ {t : List ℕ} {n : Header} (known : Known t n) (i : ℕ) {m held : ℕ} (count : m ≡ words_of t (at file i links)) (holders : held ≡ words_of t (at file i opens)) where
  same_test : eqb m 1 && eqb held 0 ≡ eqb (words_of t (at file i links)) 1 && eqb (words_of t (at file i opens)) 0
  same_test = rw (count, holders)

  pub drop-freed : {o : ℕ} → o ≡ record_of n file i → eqb m 1 && eqb held 0 ≡ true → freed_at t o (record_words file) ≡ write (configuration t) t (unlinked (words_of t) i)
  unfolding unlinked
  drop-freed oe b =
      rw (oe, begins known file i) (sym (freed-is (configuration t) t file i))
      ∙ ap (write (configuration t) t) (sym (cond-true _ _ _ (sym same_test ∙ b)))

  pub drop-counted : {x : ℕ} → x ≡ m - 1 → eqb m 1 && eqb held 0 ≡ false → set t (place_of n (at file i links)) x ≡ write (configuration t) t (unlinked (words_of t) i)
  unfolding unlinked
  drop-counted xe b =
      rw (xe, count, spot known (at file i links))
      (ap (write (configuration t) t) (sym (cond-false _ _ _ (sym same_test ∙ b))))

-- ---- 12: set bits, of a kind

module _ {t : List ℕ} {n : Header} {c : Caller} (sound : Sound t n c) (k : Kind) (s b : ℕ) (buffer : List ℕ) {x : Seen} {fixed : Bool}
    (seen : x ≡ seen_of (configuration t) (words_of t) c.slot k (named_of n k s)) (shared : fixed ≡ is_shared (words_of t) k x.slot) where
  bits-number : first_refusal ((ltb max_bits b ⇒ XbParam) ∷ own_tests x k ++ (fixed ⇒ XshSg) ∷ [])
      ≡ first_refusal (set_bits_of (configuration t) (words_of t) c.slot s b buffer k).refusals
  bits-number =
      let rule-last = (is_shared (words_of t) k (index_of s) ⇒ XshSg) ∷ [] in
      past (ltb max_bits b) XbParam (own_tests x k ++ (fixed ⇒ XshSg) ∷ []) (own (configuration t) (words_of t) c.slot k s ++ rule-last)
      (λ _. own_first sound.known c.slot k s seen ((fixed ⇒ XshSg) ∷ []) rule-last (λ form. rw (shared, slot_is sound.known c.slot k s seen form)))

  pub bits-sized : (e : Error) → number_of e ≡ first_refusal ((ltb max_bits b ⇒ XbParam) ∷ [])
      → number_of e ≡ first_refusal (set_bits_of (configuration t) (words_of t) c.slot s b buffer k).refusals
  bits-sized e found = stopped ((ltb max_bits b ⇒ XbParam) ∷ []) (own_tests x k ++ (fixed ⇒ XshSg) ∷ []) e found ∙ bits-number

  module _ {e : ℕ} (sized : 0 ≡ first_refusal ((ltb max_bits b ⇒ XbParam) ∷ [])) where
    bits-past : e ≡ first_refusal (own_tests x k ++ (fixed ⇒ XshSg) ∷ []) → e ≡ first_refusal (set_bits_of (configuration t) (words_of t) c.slot s b buffer k).refusals
    bits-past found = later ((ltb max_bits b ⇒ XbParam) ∷ []) (own_tests x k ++ (fixed ⇒ XshSg) ∷ []) refl sized found ∙ bits-number

    pub bits-shared : 0 ≡ first_refusal (own_tests x k) → e ≡ first_refusal ((fixed ⇒ XshSg) ∷ [])
        → e ≡ first_refusal (set_bits_of (configuration t) (words_of t) c.slot s b buffer k).refusals
    bits-shared z found = bits-past (later (own_tests x k) ((fixed ⇒ XshSg) ∷ []) (own-numbered x k) z found)

  pub bits-owned : (e : Error) → 0 ≡ first_refusal ((ltb max_bits b ⇒ XbParam) ∷ []) → number_of e ≡ first_refusal (own_tests x k)
      → number_of e ≡ first_refusal (set_bits_of (configuration t) (words_of t) c.slot s b buffer k).refusals
  bits-owned e sized found = bits-past sized (stopped (own_tests x k) ((fixed ⇒ XshSg) ∷ []) e found)

  pub bits-words : 0 ≡ first_refusal (own_tests x k) → {j : ℕ} → j ≡ bits k
      → set t (place_of n (at k x.slot j)) b ≡ write (configuration t) t (set_bits_of (configuration t) (words_of t) c.slot s b buffer k).effects.words
  bits-words passed je =
      let form = form-past sound.known c.slot k s seen (clear (own_tests x k) (own-numbered x k) (sym passed)).0 in
      rw (je, spot sound.known (at k x.slot (bits k)), slot_is sound.known c.slot k s seen form)

-- it goes by the kind that the seid's class names
pub by-class : (h : List ℕ) (r : Addr → ℕ) (p a b : ℕ) (buffer : List ℕ) {s : ℕ} {k : Kind} → s ≡ or_self r p a → k ≡ kind_by s
    → set_bits_of h r p s b buffer k ≡ set_bits h r p a b buffer
unfolding set_bits
by-class h r p a b buffer {s} {k} self kind-is =
    let f : Kind → Rule = λ (j : Kind). set_bits_of h r p s b buffer j in
    rw (← self) (ap f kind-is ∙ by_kind f (eqb (class_of s) (class process)) (eqb (class_of s) (class segment)))

abbrev slot_tests : List ℕ → (Addr → ℕ) → ℕ → List Refusal
slot_tests h r c = (no_slot h r file c ⇒ XnoSpace) ∷ []

-- ---- 7: create; `by` names the descriptor of its subtype

module _ {t : List ℕ} {n : Header} {c : Caller} (sound : Sound t n c) (a b by : ℕ) (buffer : List ℕ) where
  create-number : first_refusal ((ltb max_bits a ⇒ XbParam) ∷ (not (valid_modes b) ⇒ XbadModes)
      ∷ create_under (configuration t) (words_of t) c.slot by ++ (no_entry (words_of t) file c.slot ⇒ XodSpace)
      ∷ (no_slot (configuration t) (words_of t) file c.cell ⇒ XnoSpace) ∷ []) ≡ first_refusal (rule_at t (λ h q. create h q c.slot a b by buffer)).refusals
  unfolding create
  create-number = rw sound.home

  abbrev create_args : List Refusal
  create_args = (ltb max_bits a ⇒ XbParam) ∷ (not (valid_modes b) ⇒ XbadModes) ∷ []

  abbrev create_room : List Refusal
  create_room = (no_entry (words_of t) file c.slot ⇒ XodSpace) ∷ slot_tests (configuration t) (words_of t) c.cell

  -- stage by stage
  pub create-args : (e : Error) → number_of e ≡ first_refusal create_args → number_of e ≡ first_refusal (rule_at t (λ h q. create h q c.slot a b by buffer)).refusals
  create-args e found = stopped create_args (create_under (configuration t) (words_of t) c.slot by ++ create_room) e found ∙ create-number

  module _ (args : 0 ≡ first_refusal create_args) where
    pub create-under : (e : Error) → number_of e ≡ first_refusal (create_under (configuration t) (words_of t) c.slot by)
        → number_of e ≡ first_refusal (rule_at t (λ h q. create h q c.slot a b by buffer)).refusals
    create-under e found =
        later create_args (create_under (configuration t) (words_of t) c.slot by ++ create_room) refl args
        (stopped (create_under (configuration t) (words_of t) c.slot by) create_room e found) ∙ create-number

    module _ (under : 0 ≡ first_refusal (create_under (configuration t) (words_of t) c.slot by)) where
      create-room : {e : ℕ} → e ≡ first_refusal create_room → e ≡ first_refusal (rule_at t (λ h q. create h q c.slot a b by buffer)).refusals
      create-room found =
          later create_args (create_under (configuration t) (words_of t) c.slot by ++ create_room) refl args
          (later (create_under (configuration t) (words_of t) c.slot by) create_room refl under found) ∙ create-number

      pub create-no-entry : None ≡ entry_found (words_of t) file c.slot → XodSpace ≡ first_refusal (rule_at t (λ h q. create h q c.slot a b by buffer)).refusals
      create-no-entry none = create-room (entry-none (words_of t) file c.slot (slot_tests (configuration t) (words_of t) c.cell) none)

      module _ {d : ℕ} (entry : Some d ≡ entry_found (words_of t) file c.slot) where
        past-entry : {e : ℕ} → e ≡ first_refusal (slot_tests (configuration t) (words_of t) c.cell)
            → e ≡ first_refusal (rule_at t (λ h q. create h q c.slot a b by buffer)).refusals
        past-entry found = create-room (found ∙ (entry-some (words_of t) file c.slot d (slot_tests (configuration t) (words_of t) c.cell) entry).1)

        pub create-no-slot : None ≡ slot_found (configuration t) (words_of t) file c.cell
            → XnoSpace ≡ first_refusal (rule_at t (λ h q. create h q c.slot a b by buffer)).refusals
        create-no-slot none = past-entry (slot-none (configuration t) (words_of t) file c.cell XnoSpace none)

        pub create-passed : {i : ℕ} → Some i ≡ slot_found (configuration t) (words_of t) file c.cell
            → 0 ≡ first_refusal (rule_at t (λ h q. create h q c.slot a b by buffer)).refusals
        create-passed {i} some = past-entry (slot-some (configuration t) (words_of t) file c.cell i XnoSpace some).1

  pub create-entry : {d : ℕ} → Some d ≡ entry_found (words_of t) file c.slot → d ≡ (rule_at t (λ h q. create h q c.slot a b by buffer)).effects.second
  unfolding create
  create-entry {d} entry = (entry-some (words_of t) file c.slot d [] entry).0

  -- i is the slot that was found, v its serial, s the new seid
  module _ {i v s : ℕ} (slot : Some i ≡ slot_found (configuration t) (words_of t) file c.cell) (ve : v ≡ words_of t (at file i serial))
      (se : s ≡ seid_of (class file) i (v + 1)) where
    pub create-seid : s ≡ (rule_at t (λ h q. create h q c.slot a b by buffer)).effects.first
    unfolding create
    create-seid = new-seid sound file slot ve se ∙ rw ((slot-some (configuration t) (words_of t) file c.cell i XnoSpace slot).0, sound.home)

  -- d is the descriptor that was found, u and g are the caller's owner and group, w is the subtype
  module _ {i d v u g s w : ℕ} (slot : Some i ≡ slot_found (configuration t) (words_of t) file c.cell) (entry : Some d ≡ entry_found (words_of t) file c.slot)
      (ve : v ≡ words_of t (at file i serial)) (ue : u ≡ words_of t (at process c.slot owner)) (ge : g ≡ words_of t (at process c.slot group))
      (se : s ≡ seid_of (class file) i (v + 1)) (we : w ≡ subtype_for (words_of t) c.slot by) where
    -- the record, its ninth word, and the entry
    made_told : {o : ℕ} {t₁ t₂ : List ℕ} → o ≡ record_of n file i → t₁ ≡ made_at t o (v + 1) u g a 0 0 1 → t₂ ≡ set t₁ (o + subtype) w
        → t₂ ≡ write (configuration t) t (created (words_of t) c.slot a (subtype_for (words_of t) c.slot by) i (words_of t (at file i serial) + 1))
    made_told oe e₁ e₂ =
        e₂ ∙ rw (e₁, oe, begins sound.known file i, ve, ue, ge, we)
        (sym (made-is (configuration t) t file i (words_of t (at file i serial) + 1) (words_of t (at process c.slot owner))
        (words_of t (at process c.slot group)) a 0 0 1 ((at file i subtype ≔ subtype_for (words_of t) c.slot by) ∷ [])
        ∙ rw (along (configuration t) file i subtype)))

    pub create-words : {o place : ℕ} {t₁ t₂ t₃ : List ℕ} → o ≡ record_of n file i → t₁ ≡ made_at t o (v + 1) u g a 0 0 1 → t₂ ≡ set t₁ (o + subtype) w
        → place ≡ record_of n process c.slot + held_at file d → t₃ ≡ set (set t₂ place s) (place + 1) b
        → t₃ ≡ write (configuration t) t (rule_at t (λ h q. create h q c.slot a b by buffer)).effects.words
    unfolding create
    create-words {t₃ = t₃} oe e₁ e₂ pe e₃ =
        let h : List ℕ = configuration t in
        let x : ℕ = seid (class file) i (words_of t (at file i serial) + 1) in
        let made : List Word = created (words_of t) c.slot a (subtype_for (words_of t) c.slot by) i (words_of t (at file i serial) + 1) in
        let told : t₃ ≡ write h (write h t made) (entered file c.slot d x b) =
        e₃ ∙ rw (made_told oe e₁ e₂, pe, spot sound.known (at process c.slot (held_at file d)), new-seid sound file slot ve se)
        (sym (entered-is h (write h t made) file c.slot d x b [] refl)) in
        let whole : t₃ ≡ write h t (made ++ entered file c.slot d x b) = told ∙ sym (write-append h t made (entered file c.slot d x b)) in
        whole ∙ rw ((slot-some h (words_of t) file c.cell i XnoSpace slot).0, (entry-some (words_of t) file c.slot d [] entry).0, sound.home)

-- ---- 8: open. The search for a clash: x is entry d of process p

module _ {t : List ℕ} {n : Header} {cell s b most : ℕ} (good : Clashable t n cell s b most) (p d : ℕ) (lp : p < slots (configuration t) process) (ld : d < entries) {x : Entry}
    (read : x ≡ entry_of (words_of t) file p d) where
  -- an entry that does not hold the file clashes with nothing, and of one that does the modes alone are asked
  pub clash-none : (x.held ≡ s → ⊥) → false ≡ clashes_at (words_of t) s b p d
  unfolding clashes_at
  clash-none other = sym (ap (λ (y : Bool). y && clash (words_of t (at process p (used_at file d))) b) (ne_eqb _ s (λ e. other (ap (λ (y : Entry). y.held) read ∙ e))))

  pub clash-held : x.held ≡ s → {c : Bool} → c ≡ clash_of x.used b → c ≡ clashes_at (words_of t) s b p d
  unfolding clashes_at
  clash-held e ce =
      let held : words_of t (at process p (held_at file d)) ≡ s = sym (ap (λ (y : Entry). y.held) read) ∙ e in
      let some : words_of t (at process p (held_at file d)) ≡ 0 → ⊥ = λ z. good.some (sym held ∙ z) in
      let valid = (descriptor (configuration t) (words_of t) good.records p d lp ld).valid some in
      ce
      ∙ ap (λ (y : Entry). clash_of y.used b) read
      ∙ clash-valid _ b valid good.modes
      ∙ sym (ap (λ (y : Bool). y && clash (words_of t (at process p (used_at file d))) b) (eq-eqb _ s held))

-- the processes of the caller's cell: from is the first, m how many there are
module _ (t : List ℕ) (cell s b : ℕ) {from m : ℕ} (fe : from ≡ first_slot (configuration t) process cell) (me : m ≡ cell_slots (configuration t) process cell) where
  pub none-clash : ((k : ℕ) → k < m → some_below entries (clashes_at (words_of t) s b (from + k)) ≡ false) → clashes (configuration t) (words_of t) cell s b ≡ false
  unfolding clashes
  none-clash h = rw (← fe, ← me) (some-none m (λ i. some_below entries (clashes_at (words_of t) s b (from + i))) h)

  pub some-clash : (k d : ℕ) → k < m → d < entries → clashes_at (words_of t) s b (from + k) d ≡ true → clashes (configuration t) (words_of t) cell s b ≡ true
  unfolding clashes
  some-clash k d lk ld e =
      rw (← fe, ← me)
      (some_of m (λ i. some_below entries (clashes_at (words_of t) s b (from + i))) k lk (some_of entries (clashes_at (words_of t) s b (from + k)) d ld e))

-- past the modes "find" may refuse
pub open-found : (f : Seen) (b : ℕ) (e : Error) → 0 ≡ first_refusal ((not (valid_modes b) ⇒ XbadModes) ∷ [])
    → number_of e ≡ first_refusal (find_tests f file (not f.flows || (writes b && not f.own))) → number_of e ≡ first_refusal (open_tests f b)
open-found f b e modes found =
    later ((not (valid_modes b) ⇒ XbadModes) ∷ [])
    (find_tests f file (not f.flows || (writes b && not f.own)) ++ (lacks f.rights (reads b) (writes b) ⇒ XdapViol) ∷ []) refl modes
    (stopped (find_tests f file (not f.flows || (writes b && not f.own))) ((lacks f.rights (reads b) (writes b) ⇒ XdapViol) ∷ []) e found)

-- an open past its first stage: the modes are valid, and what is seen is formed
open-modes : (f : Seen) (b : ℕ) → 0 ≡ first_refusal (open_tests f b) → (valid_modes b ≡ true) × (not f.formed ≡ false)
open-modes f b none =
    let unrefused = clear (open_tests f b) refl (sym none) in
    (passed (valid_modes b) unrefused.0, unrefused.1.0)

-- ---- a file: f is what is seen of the seid s, y the file's subtype; `by` names the descriptor of that
module _ {t : List ℕ} {n : Header} {c : Caller} (sound : Sound t n c) (s b by : ℕ) (buffer : List ℕ) {y : ℕ} {f : Seen}
    (seen : f ≡ seen_of (configuration t) (words_of t) c.slot file (named_of n file s)) (of : y ≡ words_of t (at file f.slot subtype)) where
  -- what follows "find" in the rule, and in the code
  abbrev after : List Refusal
  after =
      (lacks f.rights (reads b) (writes b) ⇒ XdapViol)
      ∷ open_under (words_of t) c.slot y b by ++ (f.own && clashes (configuration t) (words_of t) c.cell s b ⇒ Xbusy) ∷ (no_entry (words_of t) file c.slot ⇒ XodSpace) ∷ []

  abbrev rule_after : List Refusal
  rule_after =
      (lacks (rights_at (words_of t) c.slot file (index_of s)) (reads b) (writes b) ⇒ XdapViol)
      ∷ (is_subtyped (words_of t) (index_of s) && no_subtype (words_of t) c.slot by ⇒ XbadStCap)
      ∷ (is_subtyped (words_of t) (index_of s) && mismatched (words_of t) c.slot (index_of s) b by ⇒ XbadSubtypeMatch)
      ∷ (in_own_cell (configuration t) c.slot file s && clashes (configuration t) (words_of t) (cell_of (configuration t) process c.slot) s b ⇒ Xbusy)
      ∷ (no_entry (words_of t) file c.slot ⇒ XodSpace) ∷ []

  same_after : formed (configuration t) file s ≡ true → first_refusal after ≡ first_refusal rule_after
  unfolding mismatched
  same_after form = rw (of, sound.home, slot_is sound.known c.slot file s seen form, seen-formed sound.known c.slot file s seen form)

  open-number : first_refusal (open_tests f b ++ open_under (words_of t) c.slot y b by
      ++ (f.own && clashes (configuration t) (words_of t) c.cell s b ⇒ Xbusy) ∷ (no_entry (words_of t) file c.slot ⇒ XodSpace) ∷ [])
      ≡ first_refusal (rule_at t (λ h q. open_file h q c.slot s b by buffer)).refusals
  unfolding open_file
  open-number =
      let forbidden : Bool = not f.flows || (writes b && not f.own) in
      let forbids : Bool = not (flows_to_caller (configuration t) c.slot file s) || (writes b && not (in_own_cell (configuration t) c.slot file s)) in
      past (not (valid_modes b)) XbadModes (find_tests f file forbidden ++ after) (find (configuration t) (words_of t) file s forbids ++ rule_after)
      (λ _. find_first sound.known c.slot file s seen forbidden forbids after rule_after (λ form. rw (seen-formed sound.known c.slot file s seen form)) same_after)

  abbrev open_clash : List Refusal
  open_clash = (f.own && clashes (configuration t) (words_of t) c.cell s b ⇒ Xbusy) ∷ []

  abbrev open_room : List Refusal
  open_room = (no_entry (words_of t) file c.slot ⇒ XodSpace) ∷ []

  -- stage by stage
  pub open-seen : (e : Error) → number_of e ≡ first_refusal (open_tests f b) → number_of e ≡ first_refusal (rule_at t (λ h q. open_file h q c.slot s b by buffer)).refusals
  open-seen e found = stopped (open_tests f b) (open_under (words_of t) c.slot y b by ++ open_clash ++ open_room) e found ∙ open-number

  module _ (none : 0 ≡ first_refusal (open_tests f b)) where
    pub open-under : (e : Error) → number_of e ≡ first_refusal (open_under (words_of t) c.slot y b by)
        → number_of e ≡ first_refusal (rule_at t (λ h q. open_file h q c.slot s b by buffer)).refusals
    open-under e found =
        later (open_tests f b) (open_under (words_of t) c.slot y b by ++ open_clash ++ open_room) refl none
        (stopped (open_under (words_of t) c.slot y b by) (open_clash ++ open_room) e found) ∙ open-number

    module _ (under : 0 ≡ first_refusal (open_under (words_of t) c.slot y b by)) where
      open-past : {e : ℕ} → e ≡ first_refusal (open_clash ++ open_room) → e ≡ first_refusal (rule_at t (λ h q. open_file h q c.slot s b by buffer)).refusals
      open-past found =
          later (open_tests f b) (open_under (words_of t) c.slot y b by ++ open_clash ++ open_room) refl none
          (later (open_under (words_of t) c.slot y b by) (open_clash ++ open_room) refl under found) ∙ open-number

      pub open-clash : (e : Error) → number_of e ≡ first_refusal open_clash → number_of e ≡ first_refusal (rule_at t (λ h q. open_file h q c.slot s b by buffer)).refusals
      open-clash e found = open-past (stopped open_clash open_room e found)

      pub open-room : {e : ℕ} → 0 ≡ first_refusal open_clash → e ≡ first_refusal open_room
          → e ≡ first_refusal (rule_at t (λ h q. open_file h q c.slot s b by buffer)).refusals
      open-room z found = open-past (later open_clash open_room refl z found)

  -- past the first stage the seid is formed
  module _ (none : 0 ≡ first_refusal (open_tests f b)) where
    open-form : formed (configuration t) file s ≡ true
    open-form = form-past sound.known c.slot file s seen (open-modes f b none).1

    -- and the search may be made: z are the file's opens
    pub may-clash : {z : ℕ} → z ≡ words_of t (at file f.slot opens) → f.own ≡ true → Clashable t n c.cell s b z
    may-clash ze own =
        let here = eqb-true _ _ (sym (own_is sound.known c.slot file s seen open-form) ∙ own) ∙ sym sound.home in
        record {
          known = sound.known;
          records = sound.records;
          some = class-some s (class file) (omega arith) (is-formed (class file) _ s open-form).class-is;
          modes = (open-modes f b none).0;
          few = rw (ze, slot_is sound.known c.slot file s seen open-form) (holders-counted sound s open-form here);
        }

    pub open-fits : {object : ℕ} → object ≡ record_of n file f.slot → get_or t (object + opens) 0 ≤ max_slots * entries
    open-fits oe = one-fits sound file f.slot refl (slot-in sound.known c.slot file s seen open-form) oe

    pub open-words : {d place object : ℕ} → d ≡ free_entry (words_of t) file c.slot → place ≡ record_of n process c.slot + held_at file d
        → object ≡ record_of n file f.slot
        → taken_up_at t file place s b object f.own ≡ write (configuration t) t (rule_at t (λ h q. open_file h q c.slot s b by buffer)).effects.words
    unfolding open_file
    open-words {d} entry pe oe =
        taken-told sound.known file c.slot d s b refl (slot_is sound.known c.slot file s seen open-form)
        (own_is sound.known c.slot file s seen open-form) pe oe ∙ rw entry

-- ---- a subtype, likewise
module _ {t : List ℕ} {n : Header} {c : Caller} (sound : Sound t n c) (s b : ℕ) (buffer : List ℕ) {f : Seen}
    (seen : f ≡ seen_subtype (configuration t) (words_of t) c.slot s) where
  subtype-form : f.formed ≡ formed_subtype (configuration t) s
  subtype-form = rw seen (by (formed_subtype (configuration t) s))
    where
      by : (z : Bool) → (cond z (subtype_as (configuration t) (words_of t) c.slot s) unseen).formed ≡ z
      by true = refl
      by false = refl

  subtype-seen : formed_subtype (configuration t) s ≡ true → f ≡ subtype_as (configuration t) (words_of t) c.slot s
  subtype-seen form = rw form at seen

  pub may-clash-subtype : 0 ≡ first_refusal (open_tests f b) → {z : ℕ} → z ≡ entries * max_slots → Clashable t n c.cell s b z
  may-clash-subtype none ze =
      let stage = open-modes f b none in
      let form = passed (formed_subtype (configuration t) s) (rw subtype-form at stage.1) in
      record {
        known = sound.known;
        records = sound.records;
        some = class-some s subtype_class (omega arith) (is-formed subtype_class _ s form).class-is;
        modes = stage.0;
        few = rw ze (holders-few sound s);
      }

  -- what follows the form, in the code and in the rule: x is what is seen
  abbrev rest : Seen → List Refusal
  rest x =
      (not x.flows || (writes b && not x.own) ⇒ XnoAcc) ∷ (not x.present ⇒ XnoObj) ∷ (lacks x.rights (reads b) (writes b) ⇒ XdapViol)
      ∷ (x.own && clashes (configuration t) (words_of t) (cell_of (configuration t) process c.slot) s b ⇒ Xbusy) ∷ (no_entry (words_of t) file c.slot ⇒ XodSpace) ∷ []

  subtype-number : first_refusal (open_tests f b ++ (f.own && clashes (configuration t) (words_of t) c.cell s b ⇒ Xbusy) ∷ (no_entry (words_of t) file c.slot ⇒ XodSpace) ∷ [])
      ≡ first_refusal (rule_at t (λ h q. open_subtype h q c.slot s b buffer)).refusals
  unfolding open_subtype
  subtype-number =
      let x : Seen = subtype_as (configuration t) (words_of t) c.slot s in
      rw (sound.home, subtype-form)
      (past (not (valid_modes b)) XbadModes ((not (formed_subtype (configuration t) s) ⇒ XnoObj) ∷ rest f) ((not (formed_subtype (configuration t) s) ⇒ XnoObj) ∷ rest x)
      (λ _. past (not (formed_subtype (configuration t) s)) XnoObj (rest f) (rest x)
      (λ e. ap (λ (y : Seen). first_refusal (rest y)) (subtype-seen (passed (formed_subtype (configuration t) s) e)))))

  abbrev subtype_clash : List Refusal
  subtype_clash = (f.own && clashes (configuration t) (words_of t) c.cell s b ⇒ Xbusy) ∷ []

  abbrev subtype_room : List Refusal
  subtype_room = (no_entry (words_of t) file c.slot ⇒ XodSpace) ∷ []

  -- stage by stage
  pub subtype-open : (e : Error) → number_of e ≡ first_refusal (open_tests f b) → number_of e ≡ first_refusal (rule_at t (λ h q. open_subtype h q c.slot s b buffer)).refusals
  subtype-open e found = stopped (open_tests f b) (subtype_clash ++ subtype_room) e found ∙ subtype-number

  module _ (none : 0 ≡ first_refusal (open_tests f b)) where
    pub subtype-clash : (e : Error) → number_of e ≡ first_refusal subtype_clash → number_of e ≡ first_refusal (rule_at t (λ h q. open_subtype h q c.slot s b buffer)).refusals
    subtype-clash e found = later (open_tests f b) (subtype_clash ++ subtype_room) refl none (stopped subtype_clash subtype_room e found) ∙ subtype-number

    pub subtype-room : {e : ℕ} → 0 ≡ first_refusal subtype_clash → e ≡ first_refusal subtype_room
        → e ≡ first_refusal (rule_at t (λ h q. open_subtype h q c.slot s b buffer)).refusals
    subtype-room z found =
        later (open_tests f b) (subtype_clash ++ subtype_room) refl none (later subtype_clash subtype_room refl z found) ∙ subtype-number

  pub subtype-words : {d place : ℕ} → d ≡ free_entry (words_of t) file c.slot → place ≡ record_of n process c.slot + held_at file d
      → set (set t place s) (place + 1) b ≡ write (configuration t) t (rule_at t (λ h q. open_subtype h q c.slot s b buffer)).effects.words
  unfolding open_subtype
  subtype-words {d} {place} entry pe =
      let into : List ℕ = write (configuration t) t (entered file c.slot d s b) in
      let told : set (set t place s) (place + 1) b ≡ into =
      rw (pe, spot sound.known (at process c.slot (held_at file d))) (sym (entered-is (configuration t) t file c.slot d s b [] refl)) in
      told ∙ rw entry

-- ---- by the seid's class
module _ (t : List ℕ) (p a b by : ℕ) (buffer : List ℕ) {s : ℕ} {r : Answer} {t' : List ℕ} (self : s ≡ or_self (words_of t) p a) where
  pub left-of-subtype : is_subtype s ≡ true → Left t (λ h q. open_subtype h q p s b buffer) r t' → Left t (λ h q. open_seid h q p a b by buffer) r t'
  unfolding open_seid
  left-of-subtype e l = left-same t (λ h q. open_subtype h q p s b buffer) (λ h q. open_seid h q p a b by buffer) (rw (← self, e)) l

  pub left-of-file : is_subtype s ≡ false → Left t (λ h q. open_file h q p s b by buffer) r t' → Left t (λ h q. open_seid h q p a b by buffer) r t'
  unfolding open_seid
  left-of-file e l = left-same t (λ h q. open_file h q p s b by buffer) (λ h q. open_seid h q p a b by buffer) (rw (← self, e)) l
