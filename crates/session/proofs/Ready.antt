-- A configuration that is whole: it is accepted exactly when the rules take it, and then the table and the store are as the rules begin with.
use Rattle.std.proofs.Common.{◌≡◌, ℕ, zero, suc, ◌+◌, ◌-◌, ◌*◌, ◌≤◌, Bool, true, List, ◌∷◌, ◌++◌, length, get_or, take, replicate, sym, refl, ap, ◌∙◌, mul_assoc, arith, length-append, length-take, length-take-le, take_all, get_or-take, take-take}
use lib.ListN.{length-replicate}
use lib.Seq.{length-sets}
use Rattle.rules.specs.Claim.{◌&◌, Holds, test}
use Rattle.rules.specs.Layout.{max_cells, max_subtypes, block_bytes, process, segment, file, header_words, cell_words, subtype_words, cells, subtypes, slots, blocks, configuration, table_words, words_at_most, store_bytes, configuration_words}
use Rattle.rules.specs.WellFormed.{configured, lengths_exact}
use Rattle.rules.specs.SetUp.{can_set_up, first_processes, fresh_table, set_up_answer, set_up_table}
use Rattle.rules.specs.Step.{State}
use Rattle.rules.specs.Replay.{max_replay_blocks, max_replay_slots, replayable, start_of}
use Rattle.laws.proofs.Tests.{split, same_test}
use Rattle.laws.proofs.Claims.{holds, tested}
use Rattle.laws.proofs.Places.{conf-cells, conf-subtypes, conf-slots, conf-blocks}
use Rattle.laws.proofs.Written.{length-write}
use Rattle.laws.proofs.Shape.{Shape, shape_of}
use Rattle.script.proofs.Meaning.{Fits}
use Rattle.output.proofs.Laws.{take-sets}
use Rattle.session.specs.Turn.{words_asked, words_of, bytes_of, accepts, table_ready, store_ready}

-- room for the largest table and store that replay takes
abbrev pub most_replay_words : ℕ
most_replay_words = words_at_most max_replay_slots

abbrev pub most_replay_bytes : ℕ
most_replay_bytes = max_replay_blocks * block_bytes

take-replicate : (a m n : ℕ) → m ≤ n → take m (replicate n a) ≡ replicate m a
take-replicate a zero n h = refl
take-replicate a (suc m) zero h = absurd (omega arith)
take-replicate a (suc m) (suc n) h = ap (λ (l : List ℕ). a ∷ l) (take-replicate a m n (omega arith))

-- the table t begins with its configuration; st is a store
module _ (t st : List ℕ) (few : Fits (get_or t 0 0) (get_or t 6 0)) (long : most_replay_words ≤ length t) (wide : most_replay_bytes ≤ length st) where
  abbrev h : List ℕ
  h = configuration t

  same-words : table_words h ≡ table_words t
  same-words = rw (conf-cells t, conf-subtypes t, conf-slots t process, conf-slots t segment, conf-slots t file)

  same_bytes : store_bytes h ≡ store_bytes t
  same_bytes = rw (conf-slots t file, conf-blocks t)

  -- the words in use begin with it too
  enough : configuration_words t ≤ words_of t
  unfolding cells subtypes
  enough = omega (arith, few.few-cells, few.few-subtypes)

  same-configuration : configuration (take (words_of t) t) ≡ h
  unfolding configuration cells subtypes
  same-configuration =
      let c : get_or (take (words_of t) t) 0 0 ≡ get_or t 0 0 = get_or-take (words_of t) t 0 0 (omega (arith, enough)) in
      let u : get_or (take (words_of t) t) 6 0 ≡ get_or t 6 0 = get_or-take (words_of t) t 6 0 (omega (arith, enough)) in
      rw (c, u) (take-take (header_words + cell_words * get_or t 0 0 + subtype_words * get_or t 6 0) (words_of t) t enough)

  -- replay's own limit
  pub record FewSlots : Type 0 where
    pub processes : slots h process ≤ max_replay_slots
    pub segments : slots h segment ≤ max_replay_slots
    pub files : slots h file ≤ max_replay_slots

  -- a good configuration of few slots has room, and one that has room has few
  words-fit : Shape h → FewSlots → words_of t ≡ table_words h
  words-fit s x =
      let c : cells t ≤ max_cells = rw (conf-cells t) at s.few-cells in
      let u : subtypes t ≤ max_subtypes = rw (conf-subtypes t) at s.few-subtypes in
      let p : slots t process ≤ max_replay_slots = rw (conf-slots t process) at x.processes in
      let g : slots t segment ≤ max_replay_slots = rw (conf-slots t segment) at x.segments in
      let f : slots t file ≤ max_replay_slots = rw (conf-slots t file) at x.files in
      let w = same-words in
      let m : words_asked t ≤ length t = omega arith in
      omega arith

  few-of-words : words_of t ≡ table_words h → FewSlots
  few-of-words e =
      let w = same-words in
      let p = conf-slots t process in
      let g = conf-slots t segment in
      let f = conf-slots t file in
      record { processes = omega arith; segments = omega arith; files = omega arith }

  -- and so have few blocks
  file-blocks : slots t file * blocks t * block_bytes ≡ store_bytes h
  file-blocks = mul_assoc (slots t file) (blocks t) block_bytes ∙ sym same_bytes

  same_blocks : slots h file * blocks h ≡ slots t file * blocks t
  same_blocks = rw (conf-slots t file, conf-blocks t)

  bytes_fit : slots h file * blocks h ≤ max_replay_blocks → bytes_of t st ≡ store_bytes h
  bytes_fit n = let e = file-blocks in let b = same_blocks in omega arith

  few-of-fit : bytes_of t st ≡ store_bytes h → slots h file * blocks h ≤ max_replay_blocks
  few-of-fit f = let e = file-blocks in let b = same_blocks in omega arith

  -- what set-up asks of the words in use
  can-set-up : Bool
  can-set-up = test (can_set_up (take (words_of t) t) (bytes_of t st))

  words-lent : length (take (words_of t) t) ≡ words_of t
  words-lent = length-take-le (words_of t) t (omega arith)

  set-up-holds : can-set-up ≡ true → Holds (configured h) × ((words_of t ≡ table_words h) × (bytes_of t st ≡ store_bytes h))
  unfolding can-set-up can_set_up lengths_exact
  set-up-holds e =
      let w = holds (configured h & lengths_exact h (length (take (words_of t) t)) (bytes_of t st))
      (ap (λ (c : List ℕ). test (configured c & lengths_exact c (length (take (words_of t) t)) (bytes_of t st))) (sym same-configuration) ∙ e) in
      (w.0, (sym words-lent ∙ w.1.0, w.1.1))

  set-up-can : Holds (configured h) → slots h file * blocks h ≤ max_replay_blocks → FewSlots → can-set-up ≡ true
  unfolding can-set-up can_set_up lengths_exact
  set-up-can c b x =
      rw same-configuration
      (tested (configured h & lengths_exact h (length (take (words_of t) t)) (bytes_of t st)) (c, (words-lent ∙ words-fit (shape_of h c) x, bytes_fit b)))

  answer-of : accepts t st ≡ can-set-up
  unfolding accepts set_up_answer can-set-up
  answer-of = split _ (test (can_set_up (take (words_of t) t) (bytes_of t st))) (λ e. rw e) (λ e. rw e)

  -- it is accepted where the rules take it
  pub accepts-replayable : accepts t st ≡ test (replayable h)
  unfolding replayable
  accepts-replayable =
      answer-of
      ∙ same_test can-set-up (test (replayable h))
      (λ e.
      let w = set-up-holds e in
      let x = few-of-words w.1.0 in
      tested (replayable h) (w.0, (few-of-fit w.1.1, (x.processes, (x.segments, x.files)))))
      (λ e. let w = holds (replayable h) e in set-up-can w.0 w.1.0 (record { processes = w.1.1.0; segments = w.1.1.1.0; files = w.1.1.1.1 }))

  -- and then the table and the store are those that the rules begin with
  short : length h ≤ table_words h
  unfolding configuration
  short = omega (arith, length-take (configuration_words t) t, conf-cells t, conf-subtypes t)

  length-fresh : length (fresh_table h) ≡ table_words h
  unfolding fresh_table
  length-fresh =
      length-write h (h ++ replicate (table_words h - length h) 0) (first_processes h (cells h))
      ∙ length-append h (replicate (table_words h - length h) 0)
      ∙ ap (λ (n : ℕ). length h + n) (length-replicate (table_words h - length h) 0)
      ∙ (let n = short in omega arith)

  module _ (yes : accepts t st ≡ true) where
    set-up-yes : can-set-up ≡ true
    set-up-yes = sym answer-of ∙ yes

    table-begins : take (words_of t) (table_ready t st) ≡ fresh_table h
    unfolding set_up_table can-set-up
    table-begins =
        let w : words_of t ≡ table_words h = (set-up-holds set-up-yes).1.0 in
        rw (set-up-yes, same-configuration) (take-sets t (fresh_table h) (words_of t) (length-fresh ∙ sym w) (omega arith))

    store-begins : take (bytes_of t st) (store_ready st) ≡ replicate (store_bytes h) 0
    store-begins =
        ap (take (bytes_of t st)) zeros ∙ take-replicate 0 (bytes_of t st) (length st) (omega arith) ∙ ap (λ (n : ℕ). replicate n 0) (set-up-holds set-up-yes).1.1
      where
        zeros : store_ready st ≡ replicate (length st) 0
        zeros =
            sym (take_all (length st) (store_ready st) (let e = length-sets st 0 (replicate (length st) 0) in omega arith))
            ∙ take-sets st (replicate (length st) 0) (length st) (length-replicate (length st) 0) (omega arith)

    pub begins : ◌≡◌ {A = State} (record { table = take (words_of t) (table_ready t st); store = take (bytes_of t st) (store_ready st) }) (start_of h)
    unfolding start_of
    begins = λ i. record { table = table-begins i; store = store-begins i }
