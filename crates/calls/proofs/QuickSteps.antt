-- The quick engine's steps: what the code does to the words of the working slice is what following the call says, and what a call that succeeded leaves.
use mathlib.Core.Path.{◌≡◌, refl, sym, ap, ap₂, ◌∙◌}
use mathlib.Core.Bool.{Bool, true, false, cond, ◌&&◌}
use mathlib.Core.List.{List}
use Prim.Native.Nat.{ℕ, ◌+◌, ◌*◌, ◌-◌, ◌≤◌, ◌<◌}
use native.Mathlib.Omega.{arith}
use lib.Dec.{eqb, ltb, leb}
use lib.ListN.{length, get_or}
use lib.Seq.{sets, ext_get_or}
use borrow.Author.Tests.{le-leb, lt-leb, leb-false, le-ltb, ltb-true, eq-eqb, ne_eqb, eqb-true, eqb-false}
use Rattle.rules.specs.Claim.{Holds}
use Rattle.rules.specs.Layout.{max_slots, max_serial, max_bits, Kind, process, segment, file, record_words, cells, slots, cell_slots, first_slot, configuration, cell_of, store_bytes, Addr, at, rd, live, serial, entries, held_at}
use Rattle.rules.specs.Seid.{class, index_of, formed, or_self}
use Rattle.rules.specs.WellFormed.{lengths_exact, well_formed}
use Rattle.rules.specs.Rule.{first_refusal}
use Rattle.rules.specs.Find.{in_own_cell, can_take}
use Rattle.rules.specs.Call02.{release_process}
use Rattle.rules.specs.Call21.{regrade}
use Rattle.rules.specs.Step.{Call, regrade_code, last_code, rule_of, bad_caller, bad_code, step}
use Rattle.rules.specs.Step as rules
use Rattle.rules.specs.Work.{key_at, free_keys, list_words, mask, names, masks}
use Rattle.laws.proofs.Tests.{or_left, or-neither, passed, split, and_right, and_both, cond-true, cond-false}
use Rattle.laws.proofs.Claims.{tested}
use Rattle.laws.proofs.Tab.{length-tab, get_or-tab}
use Rattle.laws.proofs.Refusals.{clear}
use Rattle.laws.proofs.Seids.{is-formed}
use Rattle.laws.proofs.Shape.{in-run}
use Rattle.layout.specs.declared.Header.{Header}
use Rattle.layout.specs.Header.{header_of, base_of, record_of}
use Rattle.layout.specs.Hall.{hall_of}
use Rattle.lists.specs.Free.{free_test, serial_at, key_of, free_list}
use Rattle.lists.specs.Region.{taken, given, relisted}
use Rattle.lists.proofs.Sorting.{sorted-same}
use Rattle.marks.specs.Masks.{names_at, masks_at, marked, unmarked, masked}
use Rattle.marks.proofs.Bits.{mask-same}
use Rattle.kept.proofs.Kept.{Well, kept, conf-kept}
use Rattle.follow.specs.Right.{Right, list_at, mark_at, mark_of}
use Rattle.follow.specs.Followed.{noted, here, taken_in, marked_by, unmarked_by, given_back, listed_anew, masked_anew, after_release, followed}
use Rattle.follow.proofs.Follows.{follows-step}
use Rattle.calls.specs.declared.Answer.{Answer}
use Rattle.calls.specs.declared.Caller.{Caller}
use Rattle.calls.specs.declared.entries.Entry.{Entry}
use Rattle.calls.specs.World.{Known, Sound, words_of}
use Rattle.calls.specs.Entries.{entry_of}
use Rattle.calls.specs.Left.{answer_of, table_of}
use Rattle.calls.specs.Did.{state_of, call_of, Did, Through, rule_in}
use Rattle.calls.specs.Quick.{RightIn, Near, Followable}
use Rattle.calls.proofs.Worlds.{see, spot, shape, slots-is}
use Rattle.calls.proofs.Searches.{run_small}
use Rattle.calls.proofs.Names.{slot-few}
use Rattle.calls.proofs.Codes.{done}
use Rattle.calls.proofs.QuickPlaces.{near-here}
use Rattle.calls.proofs.Whole.{header-conf}

-- ---- what a call is about

module _ (r : Addr → ℕ) (p a : ℕ) {code : ℕ} where
  pub note-segment : code ≡ 5 → {x : Entry} → x ≡ entry_of r segment p a → x.held ≡ noted r p code a
  unfolding noted
  note-segment e xe = rw (xe, e)

  pub note-file : code ≡ 9 → {x : Entry} → x ≡ entry_of r file p a → x.held ≡ noted r p code a
  unfolding noted
  note-file e xe = rw (xe, e)

  pub note-other : (code ≡ 5 → ⊥) → (code ≡ 9 → ⊥) → {x : ℕ} → x ≡ or_self r p a → x ≡ noted r p code a
  unfolding noted
  note-other m n xe = rw (ne_eqb code 5 m, ne_eqb code 9 n) xe

-- ---- slots of the caller's cell

module _ {t : List ℕ} {n : Header} {c : Caller} (sound : Sound t n c) where
  pub near-self : Near t c process c.slot
  near-self = record { in-range = sound.caller; in_cell = sym sound.home }

  -- x tells whether s names one, i is its slot
  pub near-told : (k : Kind) (s : ℕ) {x : Bool} {i : ℕ} → x ≡ here (configuration t) c.slot k s → x ≡ true → i ≡ index_of s → Near t c k i
  near-told k s xe e ie = rw ie (near-here sound k s (sym xe ∙ e)).1

  -- where its slot can be taken, whose live word and serial are y and z, its key is a word
  pub give-small : (k : Kind) (s y z : ℕ) {x : Bool} {i : ℕ} → x ≡ here (configuration t) c.slot k s → x ≡ true → i ≡ index_of s → eqb y 0 && ltb z max_serial ≡ true
      → (i < max_slots) × (z < max_serial)
  give-small k s y z {i = i} xe e ie f =
      (slot-few sound.known k i (near-told k s xe e ie).in-range, ltb-true z max_serial (and_right (eqb y 0) (ltb z max_serial) f))

-- ---- a slot is taken; v is what the slice becomes, place where the code found the words

pub take-told : (h : List ℕ) (k : Kind) (c : ℕ) (w : List ℕ) {place : ℕ} {v : List ℕ} → place ≡ list_at h k c → v ≡ taken w place → v ≡ taken_in h k c w
unfolding taken_in
take-told h k c w pe ve = ve ∙ ap (taken w) pe

-- ---- a descriptor comes to hold s, or ceases to; x tells whether s names a file of the caller's cell

module _ (h : List ℕ) (p s d : ℕ) (w : List ℕ) {x : Bool} (xe : x ≡ here h p file s) where
  pub marks-none : x ≡ false → (holds : Bool) → w ≡ cond holds (marked_by h p s d w) (unmarked_by h p s d w)
  unfolding marked_by unmarked_by
  marks-none e true = sym (cond-false (here h p file s) _ w (sym xe ∙ e))
  marks-none e false = sym (cond-false (here h p file s) _ w (sym xe ∙ e))

  module _ (e : x ≡ true) {i place : ℕ} (ie : i ≡ index_of s) (pe : place ≡ mark_of h p i) {v : List ℕ} where
    pub mark-told : v ≡ marked w place d → v ≡ marked_by h p s d w
    unfolding marked_by
    mark-told ve = ve ∙ ap (λ (j : ℕ). marked w j d) (pe ∙ ap (mark_of h p) ie) ∙ sym (cond-true (here h p file s) _ w (sym xe ∙ e))

    pub unmark-told : v ≡ unmarked w place d → v ≡ unmarked_by h p s d w
    unfolding unmarked_by
    unmark-told ve = ve ∙ ap (λ (j : ℕ). unmarked w j d) (pe ∙ ap (mark_of h p) ie) ∙ sym (cond-true (here h p file s) _ w (sym xe ∙ e))

-- ---- a slot is given back; x tells whether s names one of the caller's cell

module _ (h : List ℕ) (q : Addr → ℕ) (p : ℕ) (k : Kind) (s : ℕ) (w : List ℕ) {x : Bool} (xe : x ≡ here h p k s) where
  pub give-none : x ≡ false → w ≡ given_back h q p k s w
  unfolding given_back
  give-none e = rw (← xe, e)

  -- y and z are the live word and the serial of its slot i
  module _ (e : x ≡ true) {i y z : ℕ} (ie : i ≡ index_of s) (ye : y ≡ q (at k i live)) (ze : z ≡ q (at k i serial)) where
    can-take : eqb y 0 && ltb z max_serial ≡ can_take q k (index_of s)
    can-take = rw (ye, ze, ie)

    pub give-worn : eqb y 0 && ltb z max_serial ≡ false → w ≡ given_back h q p k s w
    unfolding given_back
    give-worn f = rw (← xe, e, ← can-take, f)

    pub give-told : eqb y 0 && ltb z max_serial ≡ true → {c place : ℕ} → c ≡ cell_of h process p → place ≡ list_at h k c → {v : List ℕ}
        → v ≡ given w place (z * max_slots + i) → v ≡ given_back h q p k s w
    unfolding given_back key_at
    give-told f ce pe {v} ve =
        let both : here h p k s && can_take q k (index_of s) ≡ true = and_both _ _ (sym xe ∙ e) (sym can-take ∙ f) in
        let key : z * max_slots + i ≡ q (at k (index_of s) serial) * max_slots + index_of s = rw (ze, ie) in
        ve ∙ ap₂ (given w) (pe ∙ ap (list_at h k) ce) key ∙ sym (cond-true (here h p k s && can_take q k (index_of s)) _ w both)

-- ---- a list is made anew: from and m are the first slot and the length of the cell's run

module _ {t : List ℕ} {n : Header} (known : Known t n) (k : Kind) (c : ℕ) (l : c < n.cells) {from m : ℕ} (fe : from ≡ first_slot (configuration t) k c)
    (me : m ≡ cell_slots (configuration t) k c) where
  -- the keys by the table's words
  keys-told : free_list t (base_of n k) (record_words k) m from ≡ free_keys (configuration t) (words_of t) k c
  unfolding free_list free_keys free_test key_of serial_at key_at rd
  keys-told = rw (fe, me)
      (sorted-same (free_test t (base_of n k) (record_words k)) (can_take (words_of t) k) (key_of t (base_of n k) (record_words k)) (key_at (words_of t) k) _ _
      (λ i a b. rw (spot known (at k i live), spot known (at k i serial))) (λ i a b f. rw (spot known (at k i serial))))

  pub list-told : (w : List ℕ) {place : ℕ} {v : List ℕ} → place ≡ list_at (configuration t) k c → v ≡ relisted t (base_of n k) (record_words k) m from w place
      → v ≡ listed_anew (configuration t) (words_of t) k c w
  unfolding relisted listed_anew
  list-told w pe ve =
      ve ∙ cond-true (leb (from + m) max_slots) _ w (le-leb _ _ (run_small known k c l fe me))
      ∙ ap₂ (sets w) pe (ap₂ list_words keys-told me)

-- ---- and so are the masks of a process i of a cell: first is where the processes of the cell begin, from and m are the cell's files

module _ {t : List ℕ} {n : Header} (known : Known t n) (c i : ℕ) (il : i < n.processes) (cell : cell_of (configuration t) process i ≡ c) {first : ℕ}
    (ie : first ≡ first_slot (configuration t) process c) where
  process-in : i < slots (configuration t) process
  process-in = omega (arith, il, slots-is known process)

  pub first_below : first ≤ i
  first_below = rw (ie, ← cell) (in-run (configuration t) (shape known) process i process-in).1

  pub place-small : i - first < max_slots
  place-small = omega (arith, slot-few known process i process-in)

  module _ (l : c < n.cells) {from m : ℕ} (fe : from ≡ first_slot (configuration t) file c) (me : m ≡ cell_slots (configuration t) file c) where
    abbrev held : ℕ
    held = record_of n process i + held_at file 0

    held_word : (d : ℕ) → get_or t (held + 2 * d) 0 ≡ words_of t (at process i (held_at file d))
    held_word d = see known process i (held_at file d) refl (ap (λ (j : ℕ). get_or t j 0) (omega arith))

    masks-told : masks_at t held m from ≡ masks (configuration t) (words_of t) c i
    unfolding masks_at masks names_at names
    masks-told = rw (fe, me)
        (ext_get_or 0 _ _ (length-tab _ _ _ ∙ sym (length-tab _ _ _)) (λ f b.
        let long = length-tab (first_slot (configuration t) file c) (cell_slots (configuration t) file c) (λ g. mask (names_at t held g) entries 0) in
        let fl : f < cell_slots (configuration t) file c = omega (arith, long) in
        get_or-tab _ _ _ f 0 fl
        ∙ mask-same (names_at t held (first_slot (configuration t) file c + f)) (names (words_of t) i (first_slot (configuration t) file c + f)) entries 0
        (λ d x y. rw (held_word d))
        ∙ sym (get_or-tab _ _ _ f 0 fl)))

    pub mask-told : (w : List ℕ) {place : ℕ} {v : List ℕ} → place ≡ mark_at (configuration t) c 0 (i - first) → v ≡ masked t held m from w place
        → v ≡ masked_anew (configuration t) (words_of t) c i w
    unfolding masked masked_anew mark_of
    mask-told w {place} pe ve =
        let none : first_slot (configuration t) file c - first_slot (configuration t) file c ≡ 0 = omega arith in
        let there : place ≡ mark_of (configuration t) i (first_slot (configuration t) file c) = rw (pe, cell, none, ie) refl in
        ve ∙ cond-true (leb (from + m) max_slots) _ w (le-leb _ _ (run_small known file c l fe me)) ∙ ap₂ (sets w) there masks-told

-- a process is released
pub release-told : (h : List ℕ) (q : Addr → ℕ) (c i : ℕ) (w : List ℕ) {v₁ v₂ v₃ v₄ : List ℕ} → v₁ ≡ listed_anew h q process c w → v₂ ≡ listed_anew h q segment c v₁
    → v₃ ≡ listed_anew h q file c v₂ → v₄ ≡ masked_anew h q c i v₃ → v₄ ≡ after_release h q c i w
unfolding after_release
release-told h q c i w a b d e = rw (e, d, b, a)

-- ---- by the code: s is what the call was about, x and y are its answer's words, c is the caller's cell

module _ (h : List ℕ) (q : Addr → ℕ) (p s a b x y : ℕ) (w : List ℕ) {code c : ℕ} (ce : c ≡ cell_of h process p) {v : List ℕ} where
  pub followed-1 : code ≡ 1 → v ≡ taken_in h process c w → v ≡ followed h q p s code a b x y w
  unfolding followed
  followed-1 e ve = ve ∙ rw (e, ce)

  pub followed-2 : code ≡ 2 → {i : ℕ} → i ≡ index_of s → v ≡ after_release h q c i w → v ≡ followed h q p s code a b x y w
  unfolding followed
  followed-2 e ie ve = ve ∙ rw (e, ce, ie)

  pub followed-3 : code ≡ 3 → v ≡ taken_in h segment c w → v ≡ followed h q p s code a b x y w
  unfolding followed
  followed-3 e ve = ve ∙ rw (e, ce)

  pub followed-5 : code ≡ 5 → v ≡ given_back h q p segment s w → v ≡ followed h q p s code a b x y w
  unfolding followed
  followed-5 e ve = ve ∙ rw e

  pub followed-7 : code ≡ 7 → {u : List ℕ} → u ≡ taken_in h file c w → v ≡ marked_by h p x y u → v ≡ followed h q p s code a b x y w
  unfolding followed
  followed-7 e ue ve = ve ∙ rw (e, ue, ce)

  pub followed-8 : code ≡ 8 → v ≡ marked_by h p s x w → v ≡ followed h q p s code a b x y w
  unfolding followed
  followed-8 e ve = ve ∙ rw e

  pub followed-9 : code ≡ 9 → {u : List ℕ} → u ≡ unmarked_by h p s a w → v ≡ given_back h q p file s u → v ≡ followed h q p s code a b x y w
  unfolding followed
  followed-9 e ue ve = ve ∙ rw (e, ue)

  pub followed-11 : code ≡ 11 → v ≡ given_back h q p file s w → v ≡ followed h q p s code a b x y w
  unfolding followed
  followed-11 e ve = ve ∙ rw e

  pub followed-21 : code ≡ regrade_code → v ≡ taken_in h file b w → v ≡ followed h q p s code a b x y w
  unfolding followed
  followed-21 e ve = ve ∙ rw e

-- the other codes leave it alone
pub followed-other : (h : List ℕ) (q : Addr → ℕ) (p s a b x y : ℕ) (w : List ℕ) {code : ℕ} → (code ≡ 1 → ⊥) → (code ≡ 2 → ⊥) → (code ≡ 3 → ⊥) → (code ≡ 5 → ⊥)
    → (code ≡ 7 → ⊥) → (code ≡ 8 → ⊥) → (code ≡ 9 → ⊥) → (code ≡ 11 → ⊥) → (code ≡ regrade_code → ⊥) → w ≡ followed h q p s code a b x y w
unfolding followed
followed-other h q p s a b x y w {code} n1 n2 n3 n5 n7 n8 n9 n11 n21 =
    rw (
      ne_eqb code 1 n1,
      ne_eqb code 2 n2,
      ne_eqb code 3 n3,
      ne_eqb code 5 n5,
      ne_eqb code 7 n7,
      ne_eqb code 8 n8,
      ne_eqb code 9 n9,
      ne_eqb code 11 n11,
      ne_eqb code regrade_code n21,
    )

-- ---- a call on a sound table, by a caller that is live: the table that it leaves is sound again, and the slice that follows it is that table's

module _ {t : List ℕ} (st : List ℕ) {c : Caller} (sound : Sound t (header_of (configuration t)) c) (long : length st ≡ store_bytes (configuration t))
    (code a b d : ℕ) (some : 1 ≤ code) (last : code ≤ last_code) (alive : words_of t (at process c.slot live) ≡ 1) (buffer : List ℕ) where
  abbrev call : Call
  call = call_of c.slot code a b d buffer

  well : Well (state_of t st)
  unfolding well_formed lengths_exact
  well = (sound.known.conf, ((sound.words, long), sound.records))

  good-caller : bad_caller (configuration t) (rd (configuration t) t) c.slot ≡ false
  unfolding bad_caller
  good-caller = or-neither _ _ (lt-leb (slots (configuration t) process) c.slot sound.caller) (rw (eq-eqb _ 1 alive) refl)

  good-code : bad_code code ≡ false
  unfolding bad_code
  good-code = or-neither _ _ (ne_eqb code 0 (λ e. omega arith)) (le-ltb last_code code last)

  module _ {r : Answer} {t' s' b' : List ℕ} (th : Through t st buffer (rule_in t st c.slot code a b d buffer) r t' s' b') where
    did : Did (step (state_of t st) call) r t' s' b'
    did = done t st c.slot code a b d buffer (tested (well_formed t (length st)) well) good-caller good-code th

    same-conf : configuration t' ≡ configuration t
    same-conf = ap configuration did.table ∙ conf-kept (state_of t st) call well

    well-after : Holds (well_formed t' (length s'))
    well-after = rw (did.table, did.store) (kept (state_of t st) call well)

    sound-after : {n : Header} → n ≡ header_of t → Sound t' n c
    unfolding well_formed lengths_exact
    sound-after e =
        record {
          known = record { conf = well-after.0; long = omega (arith, well-after.1.0.0); header = e ∙ header-conf t ∙ ap header_of (sym same-conf) };
          words = well-after.1.0.0;
          records = well-after.1.1;
          caller = rw same-conf sound.caller;
          home = rw same-conf sound.home;
        }

    hall-after : {hall : List ℕ} → hall ≡ hall_of (configuration t) → hall ≡ hall_of (configuration t')
    hall-after e = e ∙ ap hall_of (sym same-conf)

    -- an answer without an error is one of a call that nothing refused
    cleared : r.error ≡ 0 → first_refusal (rule_in t st c.slot code a b d buffer).refusals ≡ 0
    unfolding answer_of
    cleared e = split _ (eqb (first_refusal (rule_in t st c.slot code a b d buffer).refusals) 0) (λ q. eqb-true _ 0 q)
        (λ q. absurd (eqb-false _ 0 q (sym (ap (λ (x : Answer). x.error) (rw q at th.answer)) ∙ e)))

    released-near : r.error ≡ 0 → {s : ℕ} → s ≡ noted (words_of t) c.slot code a → code ≡ 2 → Near t' c process (index_of s)
    unfolding noted rule_of release_process
    released-near e se z =
        let self : ℕ = or_self (words_of t) c.slot a in
        let ok = clear (release_process (configuration t) (words_of t) c.slot a buffer).refusals refl (rw z at (cleared e)) in
        let is = (is-formed (class process) (slots (configuration t) process) self (passed (formed (configuration t) process self) ok.0)).index_in in
        let own = eqb-true _ _ (passed (in_own_cell (configuration t) c.slot process self) ok.1.0) in
        rw (se, z) (record { in-range = rw same-conf is; in_cell = rw same-conf (own ∙ sym sound.home) })

    copied-in : r.error ≡ 0 → code ≡ regrade_code → b < cells (configuration t')
    unfolding rule_of regrade
    copied-in e z =
        let ok = clear (regrade (configuration t) (words_of t) st c.slot a b d buffer).refusals refl (rw z at (cleared e)) in
        rw same-conf (leb-false (cells (configuration t)) b (or_left (leb (cells (configuration t)) b) (ltb max_bits d) ok.1.1.0))

    -- what following asks of it: n is the header, hall what the check handed on, and s what the call was about
    pub ready-after : r.error ≡ 0 → {n : Header} {hall : List ℕ} {s : ℕ} → n ≡ header_of t → hall ≡ hall_of (configuration t) → s ≡ noted (words_of t) c.slot code a
        → Sound t' n c × (hall ≡ hall_of (configuration t')) × Followable t' c s code b
    ready-after e ne he se = (sound-after ne, hall-after he, record { released = released-near e se; copied = copied-in e })

    pub right-after : r.error ≡ 0 → {s : ℕ} {w v : List ℕ} → s ≡ noted (words_of t) c.slot code a → RightIn t w
        → v ≡ followed (configuration t') (words_of t') c.slot s code a b r.first r.second w → Right (configuration t) (rd (configuration t) t') v
    right-after e {w = w} se right ve =
        let one : r.first ≡ (step (state_of t st) call).answered.first = ap (λ (x : rules.Answer). x.first) did.answered in
        let two : r.second ≡ (step (state_of t st) call).answered.second = ap (λ (x : rules.Answer). x.second) did.answered in
        let x = follows-step (state_of t st) well call w right (sym (ap (λ (x : rules.Answer). x.error) did.answered) ∙ e) in
        rw (ve, se, same-conf, one, two, did.table) x

    -- a refusal changes nothing
    pub right-still : (r.error ≡ 0 → ⊥) → {w : List ℕ} → RightIn t w → Right (configuration t) (rd (configuration t) t') w
    unfolding answer_of table_of
    right-still refused right = split _ (eqb (first_refusal (rule_in t st c.slot code a b d buffer).refusals) 0)
        (λ q. absurd (refused (ap (λ (x : Answer). x.error) (rw q at th.answer))))
        (λ q. let still : t' ≡ t = rw q at th.table in rw still right)
