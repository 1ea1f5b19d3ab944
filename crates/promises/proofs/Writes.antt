-- What each call writes, word by word, said once: `writes`, at the end. What no call changes follows from it.
use mathlib.Core.Path.{◌≡◌, refl}
use mathlib.Core.Bool.{false, ◌&&◌, not}
use mathlib.Core.List.{List, [], ◌∷◌}
use Prim.Native.Nat.{ℕ, zero, suc, ◌+◌, ◌*◌, ◌-◌, ◌≤◌, ◌<◌}
use native.Mathlib.Omega.{arith}
use lib.Dec.{ltb, leb, eqb}
use borrow.Author.Tests.{ltb-true, leb-false}
use Rattle.rules.specs.Layout.{max_bits, Kind, process, segment, file, record_words, cells, cell_of, Addr, at, live, serial, owner, group, parent, queue, entries, held_at, used_at, messages, message_words, messages_at, message_at, pages, pages_at, page_at, bits, size, holders, links, opens, subtype}
use Rattle.rules.specs.Seid.{index_of, formed, or_self, present}
use Rattle.rules.specs.Rule.{Word, ◌≔◌, Rule, over}
use Rattle.rules.specs.Find.{in_own_cell, entered, one_more, zeros, freed, kept, one_less, page_left, pages_set, pages_cleared, emptied as emptied_entry, given_up, free_slot, no_slot, free_entry}
use Rattle.rules.specs.Call01.{spawn}
use Rattle.rules.specs.Call02.{dropped, dropped_to, released, release_process}
use Rattle.rules.specs.Call03.{build_segment}
use Rattle.rules.specs.Call04.{rendezvous}
use Rattle.rules.specs.Call05.{release_segment}
use Rattle.rules.specs.Call06.{set_access}
use Rattle.rules.specs.Call07.{create}
use Rattle.rules.specs.Call08.{open_file, open_subtype}
use Rattle.rules.specs.Call09.{close}
use Rattle.rules.specs.Call10.{link}
use Rattle.rules.specs.Call11.{unlinked, unlink}
use Rattle.rules.specs.Call12.{is_shared, set_bits_of}
use Rattle.rules.specs.Call13.{read_block}
use Rattle.rules.specs.Call14.{write_block}
use Rattle.rules.specs.Call15.{queued, may_post, post}
use Rattle.rules.specs.Call16.{moved_up, receive}
use Rattle.rules.specs.Call18.{access_of}
use Rattle.rules.specs.Call19.{remap}
use Rattle.rules.specs.Call20.{page_access}
use Rattle.rules.specs.Call21.{regrade}
use Rattle.rules.specs.Step.{Call, regrade_code, rule_of}
use Rattle.laws.proofs.Tests.{and_right, or_left}
use Rattle.laws.proofs.Written.{AllOf, nil, also, all_append, all-if, all-tab}
use Rattle.laws.proofs.Object.{Object}
use Rattle.laws.proofs.Refusals.{Clear}
use Rattle.laws.proofs.Shape.{in-run}
use Rattle.laws.proofs.Subtypes.{by-opened}
use Rattle.laws.proofs.Codes.{by_code, by_bits, by-status}
use Rattle.kept.proofs.Keeps.{Caller}
use Rattle.kept.proofs.Found.{free-entry}

-- a word of some entry of a kind: descriptors first, then designators
abbrev pub EntryWord : Kind → ℕ → Type 0
EntryWord process n = ⊥
EntryWord file n = (8 ≤ n) × (n < 40)
EntryWord segment n = (40 ≤ n) × (n < messages_at)

-- a queue's length, or a word of its messages
abbrev pub MailWord : ℕ → Type 0
MailWord n = (n ≡ queue → ⊥) → (messages_at ≤ n) × (n < pages_at)

-- the process that a call acts on: its caller, or the one that call 2 releases
pub data Acting (r : Addr → ℕ) (k : Call) : ℕ → Type 0 where
  itself : Acting r k k.caller
  released-one : k.code ≡ 2 → Acting r k (index_of (or_self r k.caller k.a))

-- the calls that fill an entry, or change how it is used
abbrev pub Fills : Kind → ℕ → Type 0
Fills process n = ⊥
Fills segment n = Unit {0}
Fills file n = (n ≡ 7 → ⊥) → n ≡ 8

-- the calls that free an object
abbrev pub Frees : Kind → ℕ → Type 0
Frees process n = ⊥
Frees segment n = (n ≡ 2 → ⊥) → n ≡ 5
Frees file n = (n ≡ 2 → ⊥) → (n ≡ 9 → ⊥) → n ≡ 11

-- the calls that make an object of a kind
abbrev pub Makes : Kind → ℕ → Type 0
Makes process n = n ≡ 1
Makes segment n = n ≡ 3
Makes file n = (n ≡ 7 → ⊥) → n ≡ regrade_code

-- how many words of its record are written when it is made: a file's subtype is past the first eight
abbrev pub made_words : Kind → ℕ
made_words process = 8
made_words segment = 8
made_words file = 9

made_some : (j : Kind) → 8 ≤ made_words j
made_some process = omega arith
made_some segment = omega arith
made_some file = omega arith

pub data Wrote (h : List ℕ) (r : Addr → ℕ) (k : Call) : Word → Type 0 where
  -- one of the first words of a record made in a free slot of a cell: its serial is one more
  made : {j : Kind} {c n v : ℕ} → Makes j k.code → c < cells h → no_slot h r j c ≡ false → n < made_words j → (n ≡ serial → v ≡ r (at j (free_slot h r j c) serial) + 1)
      → Wrote h r k (at j (free_slot h r j c) n ≔ v)
  -- an entry of the caller's filled, or used otherwise; an entry given up
  filled : (j : Kind) {n v : ℕ} → Fills j k.code → EntryWord j n → Wrote h r k (at process k.caller n ≔ v)
  emptied : (j : Kind) {q n : ℕ} → Acting r k q → EntryWord j n → Wrote h r k (at process q n ≔ 0)
  -- a page set, by call 19 or where its designator is given up
  paged : {q n v : ℕ} → Acting r k q → pages_at ≤ n → Wrote h r k (at process q n ≔ v)
  -- an object's holders counted, or the object freed; the process that call 2 releases cleared
  counted : {j : Kind} {i v : ℕ} → Object j → Wrote h r k (at j i (holders j) ≔ v)
  freed-word : (j : Kind) {i n : ℕ} → Object j → Frees j k.code → (n ≡ serial → ⊥) → Wrote h r k (at j i n ≔ 0)
  cleared : {n : ℕ} → k.code ≡ 2 → (n ≡ serial → ⊥) → Wrote h r k (at process (index_of (or_self r k.caller k.a)) n ≔ 0)
  -- a file's links and size; bits, of any kind
  linked : {i v : ℕ} → Wrote h r k (at file i links ≔ v)
  sized : {i v : ℕ} → Wrote h r k (at file i size ≔ v)
  set-bits : {j : Kind} {i v : ℕ} → k.code ≡ 12 → is_shared r j i ≡ false → Wrote h r k (at j i (bits j) ≔ v)
  -- a queue's length and messages: the receiver's of a post, the caller's at a receive
  posted : {n v : ℕ} → k.code ≡ 15 → MailWord n → Wrote h r k (at process (index_of (or_self r k.caller k.a)) n ≔ v)
  received : {n v : ℕ} → k.code ≡ 16 → MailWord n → Wrote h r k (at process k.caller n ≔ v)

-- ---- the parts that the calls share

held_word : (j : Kind) → Object j → (d : ℕ) → d < entries → EntryWord j (held_at j d) × EntryWord j (used_at j d)
held_word process o d l = absurd o
held_word segment o d l = ((omega arith, omega arith), (omega arith, omega arith))
held_word file o d l = ((omega arith, omega arith), (omega arith, omega arith))

module _ (h : List ℕ) (r : Addr → ℕ) (k : Call) where
  abbrev given : ℕ
  given = or_self r k.caller k.a

  abbrev Writes : List Word → Type 0
  Writes ws = AllOf (Wrote h r k) ws

  -- (what is read may have changed since the call began: q is what it holds by then)
  of-filled : (j : Kind) → Object j → Fills j k.code → (d s u : ℕ) → d < entries → Writes (entered j k.caller d s u)
  of-filled j o f d s u l = let w = held_word j o d l in also (filled j f w.0) (also (filled j f w.1) nil)

  of-emptied : (j : Kind) → Object j → (p : ℕ) → Acting r k p → (d : ℕ) → d < entries → Writes (entered j p d 0 0)
  of-emptied j o p a d l = let w = held_word j o d l in also (emptied j a w.0) (also (emptied j a w.1) nil)

  of-freed : (j : Kind) → Object j → Frees j k.code → (i : ℕ) → Writes (freed j i)
  unfolding zeros
  of-freed j o f i =
      also (freed-word j {n = live} o f (λ e. omega arith)) (all-tab (Wrote h r k) 2 (record_words j - 2) _ (λ n lo hi. freed-word j {n = n} o f (λ e. omega arith)))

  of-cleared : k.code ≡ 2 → Writes (freed process (index_of given))
  unfolding zeros
  of-cleared e = also (cleared {n = live} e (λ x. omega arith)) (all-tab (Wrote h r k) 2 (record_words process - 2) _ (λ n lo hi. cleared {n = n} e (λ x. omega arith)))

  of-less : (q : Addr → ℕ) (j : Kind) → Object j → Frees j k.code → (i : ℕ) → Writes (one_less q j i)
  unfolding one_less
  of-less q j o f i =
      all-if (Wrote h r k) (eqb (q (at j i (holders j))) 1 && not (kept q j i)) (freed j i) ((at j i (holders j) ≔ q (at j i (holders j)) - 1) ∷ [])
      (λ e. of-freed j o f i) (λ e. also (counted o) nil)

  of-more : (q : Addr → ℕ) (p : ℕ) (j : Kind) → Object j → (s : ℕ) → Writes (one_more h q p j s)
  of-more q p j o s = all-if (Wrote h r k) (in_own_cell h p j s) _ [] (λ e. also (counted o) nil) (λ e. nil)

  of-pages : (p : ℕ) → Acting r k p → (f : ℕ → ℕ) → Writes (pages_set p f)
  unfolding pages_set
  of-pages p a f = all-tab (Wrote h r k) 0 pages _ (λ g lo hi. paged {n = page_at g} a (omega arith))

  of-cleared-pages : (q : Addr → ℕ) (j : Kind) (p : ℕ) → Acting r k p → (d : ℕ) → Writes (pages_cleared q j p d)
  of-cleared-pages q process p a d = nil
  of-cleared-pages q segment p a d = of-pages p a (page_left q p d)
  of-cleared-pages q file p a d = nil

  of-given-up : (q : Addr → ℕ) (j : Kind) → Object j → Frees j k.code → (p : ℕ) → Acting r k p → (d s : ℕ) → d < entries → Writes (given_up h q j p d s)
  unfolding given_up emptied_entry
  of-given-up q j o f p a d s l = all_append _ (of-cleared-pages q j p a d)
      (all_append _ (of-emptied j o p a d l) (all-if (Wrote h r k) (formed h j s && in_own_cell h p j s) (one_less q j (index_of s)) [] (λ e. of-less q j o f (index_of s)) (λ e. nil)))

  of-dropped : (q : Addr → ℕ) (j : Kind) → Object j → Frees j k.code → (p : ℕ) → Acting r k p → (d : ℕ) → d < entries → Writes (dropped h q j p d)
  unfolding dropped
  of-dropped q j o f p a d l = all-if (Wrote h r k) (eqb (q (at process p (held_at j d))) 0) [] _ (λ e. nil) (λ e. of-given-up q j o f p a d _ l)

  of-dropped-to : (q : Addr → ℕ) (j : Kind) → Object j → Frees j k.code → (p : ℕ) → Acting r k p → (n : ℕ) → n ≤ entries → Writes (dropped_to h q j p n)
  unfolding dropped_to
  of-dropped-to q j o f p a zero l = nil
  of-dropped-to q j o f p a (suc n) l =
      all_append _ (of-dropped-to q j o f p a n (omega arith)) (of-dropped (over q (dropped_to h q j p n)) j o f p a n (omega arith))

  of-released : k.code ≡ 2 → Writes (released h r (index_of given))
  unfolding released
  of-released e =
      let a = released-one e in
      all_append _ (of-dropped-to r file tt (λ n. absurd (n e)) _ a entries (omega arith))
      (all_append _ (of-dropped-to (over r (dropped_to h r file (index_of given) entries)) segment tt (λ n. absurd (n e)) _ a entries (omega arith)) (of-cleared e))

  of-unlinked : k.code ≡ 11 → (i : ℕ) → Writes (unlinked r i)
  unfolding unlinked
  of-unlinked e i = all-if (Wrote h r k) (eqb (r (at file i links)) 1 && eqb (r (at file i opens)) 0) _ _ (λ t. of-freed file tt (λ n m. e) i) (λ t. also linked nil)

  -- ---- a record made in a cell that has room

  module _ (c : ℕ) (l : c < cells h) (j : Kind) (makes : Makes j k.code) (room : no_slot h r j c ≡ false) where
    new_word : (n v : ℕ) → n < made_words j → (n ≡ serial → ⊥) → Wrote h r k (at j (free_slot h r j c) n ≔ v)
    new_word n v m x = made makes l room m (λ e. absurd (x e))

    -- live, serial, owner and group, and what comes after them
    of-made : (u g : ℕ) {ws : List Word} → Writes ws
        → let i : ℕ = free_slot h r j c in
        Writes ((at j i live ≔ 1) ∷ (at j i serial ≔ r (at j i serial) + 1) ∷ (at j i owner ≔ u) ∷ (at j i group ≔ g) ∷ ws)
    of-made u g ws =
        let m = made_some j in
        also (new_word live 1 (omega arith) (λ e. omega arith)) (also (made {n = serial} makes l room (omega arith) (λ e. refl))
        (also (new_word owner u (omega arith) (λ e. omega arith)) (also (new_word group g (omega arith) (λ e. omega arith)) ws)))

    -- an object's other four
    of-object : (u g b x y z : ℕ) → let i : ℕ = free_slot h r j c in
        Writes ((at j i live ≔ 1) ∷ (at j i serial ≔ r (at j i serial) + 1) ∷ (at j i owner ≔ u) ∷ (at j i group ≔ g)
        ∷ (at j i 4 ≔ b) ∷ (at j i 5 ≔ x) ∷ (at j i 6 ≔ y) ∷ (at j i 7 ≔ z) ∷ [])
    of-object u g b x y z =
        let m = made_some j in
        of-made u g
        (also (new_word 4 b (omega arith) (λ e. omega arith)) (also (new_word 5 x (omega arith) (λ e. omega arith)) (also (new_word 6 y (omega arith) (λ e. omega arith))
        (also (new_word 7 z (omega arith) (λ e. omega arith)) nil))))

  module _ (me : Caller h r k.caller) where
    mine : cell_of h process k.caller < cells h
    mine = (in-run h me.shape process k.caller me.in-range).0

    of-spawned : k.code ≡ 1 → Clear (spawn h r k.caller k.a k.b k.c k.buffer).refusals → Writes (spawn h r k.caller k.a k.b k.c k.buffer).effects.words
    unfolding spawn
    of-spawned e ok =
        let w = new_word (cell_of h process k.caller) mine process e ok.1.1.0 in
        of-made (cell_of h process k.caller) mine process e ok.1.1.0 k.a k.b
        (also (w parent _ (omega arith) (λ e. omega arith)) (also (w (bits process) k.c (omega arith) (λ e. omega arith)) nil))

    of-regraded : (st : List ℕ) → k.code ≡ regrade_code → Clear (regrade h r st k.caller k.a k.b k.c k.buffer).refusals
        → Writes (regrade h r st k.caller k.a k.b k.c k.buffer).effects.words
    unfolding regrade
    of-regraded st e ok =
        let cell = leb-false (cells h) k.b (or_left (leb (cells h) k.b) (ltb max_bits k.c) ok.1.1.0) in
        of-object k.b cell file (λ n. e) ok.1.1.1.1.1.1.1.1.0 _ _ _ _ _ _

    -- ---- mail

    of-posted : k.code ≡ 15 → Writes (post h r k.caller k.a k.buffer).effects.words
    unfolding post queued
    of-posted e =
        let q = index_of given in
        all-if (Wrote h r k) (present r process given && (may_post r k.caller q && ltb (r (at process q queue)) messages)) _ [] (λ t.
        let l = ltb-true (r (at process q queue)) messages (and_right (may_post r k.caller q) _ (and_right (present r process given) _ t)) in
        also (posted e (λ x. absurd (x refl))) (also (posted e (λ x. (omega arith, omega arith))) (also (posted e (λ x. (omega arith, omega arith)))
        (also (posted e (λ x. (omega arith, omega arith))) (also (posted e (λ x. (omega arith, omega arith))) nil)))))
        (λ t. nil)

    of-received : k.code ≡ 16 → Writes (receive h r k.caller k.buffer).effects.words
    unfolding receive moved_up zeros
    of-received e = also (received e (λ x. absurd (x refl)))
        (all_append _ (all-tab (Wrote h r k) messages_at (message_words * (messages - 1)) _ (λ n lo hi. received {n = n} e (λ x. (omega arith, omega arith))))
        (all-tab (Wrote h r k) (message_at (messages - 1) 0) message_words _ (λ n lo hi. received {n = n} e (λ x. (omega arith, omega arith)))))

-- what call 12 that is carried out says of a segment
shared-clear : (h : List ℕ) (r : Addr → ℕ) (p s b : ℕ) (buffer : List ℕ) (j : Kind) → Clear (set_bits_of h r p s b buffer j).refusals → is_shared r j (index_of s) ≡ false
shared-clear h r p s b buffer process ok = refl
shared-clear h r p s b buffer segment ok = ok.1.1.1.1.1.0
shared-clear h r p s b buffer file ok = refl

-- ---- every call

pub writes : (h : List ℕ) (r : Addr → ℕ) (st : List ℕ) (k : Call) → Caller h r k.caller → Clear (rule_of h r st k).refusals → AllOf (Wrote h r k) (rule_of h r st k).effects.words
unfolding release_process build_segment rendezvous release_segment set_access create open_file open_subtype close link unlink read_block write_block access_of remap page_access
writes h r st k me =
    let p = k.caller in
    let P : Rule → Type 0 = λ x. Clear x.refusals → AllOf (Wrote h r k) x.effects.words in
    by_code h k (λ f. P (f r st)) (record {
      call-1 = λ e. of-spawned h r k me e;
      call-2 = λ e ok. of-released h r k e;
      call-3 = λ e ok.
          all_append _ (of-object h r k (cell_of h process p) (mine h r k me) segment e ok.1.1.1.0 _ _ _ _ _ 1)
          (of-filled h r k segment tt tt (free_entry r segment p) _ _ (free-entry r segment p ok.1.1.0).in-record);
      call-4 = λ e ok.
          all_append _ (of-filled h r k segment tt tt (free_entry r segment p) _ _ (free-entry r segment p ok.1.1.1.1.1.1.1.0).in-record)
          (of-more h r k r p segment tt _);
      call-5 = λ e ok. of-given-up h r k r segment tt (λ n. e) p itself k.a _ (leb-false entries k.a ok.0);
      call-6 = λ e ok. let l = leb-false entries k.a ok.1.0 in also (filled segment tt (omega arith, omega arith)) nil;
      call-7 = λ e ok.
          let c = cell_of h process p in
          let makes : Makes file k.code = λ n. absurd (n e) in
          let room = ok.1.1.1.1.1.0 in
          all_append _ (all_append _ (of-object h r k c (mine h r k me) file makes room _ _ _ _ _ 1)
          (also (new_word h r k c (mine h r k me) file makes room subtype _ (omega arith) (λ e. omega arith)) nil))
          (of-filled h r k file tt (λ n. absurd (n e)) (free_entry r file p) _ _ (free-entry r file p ok.1.1.1.1.0).in-record);
      call-8 = λ e. by-opened h r p k.a k.b k.c k.buffer P
          (λ t ok. of-filled h r k file tt (λ n. e) (free_entry r file p) _ _ (free-entry r file p ok.1.1.1.1.1.1.0).in-record)
          (λ t ok.
          all_append _ (of-filled h r k file tt (λ n. e) (free_entry r file p) _ _ (free-entry r file p ok.1.1.1.1.1.1.1.1.0).in-record)
          (of-more h r k r p file tt _));
      call-9 = λ e ok. of-given-up h r k r file tt (λ n m. absurd (m e)) p itself k.a _ (leb-false entries k.a ok.0);
      call-10 = λ e ok. also linked nil;
      call-11 = λ e ok. of-unlinked h r k e (index_of (or_self r p k.a));
      call-12 = λ e. by_bits h r k P (λ s j ok. also (set-bits e (shared-clear h r p s k.b k.buffer j ok)) nil);
      call-13 = λ e ok. nil;
      call-14 = λ e ok. also sized nil;
      call-15 = λ e ok. of-posted h r k me e;
      call-16 = λ e ok. of-received h r k me e;
      call-17 = λ e. by-status h r k P (λ s j ok. nil);
      call-18 = λ e ok. nil;
      call-19 = λ e ok. of-pages h r k p itself _;
      call-20 = λ e ok. nil;
      call-21 = λ e. of-regraded h r k me st e;
      other = λ ok. nil;
    })
