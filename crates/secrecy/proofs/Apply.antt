-- A rule carried out: what a set of cells sees of it. The same for every call.
use mathlib.Core.Path.{◌≡◌, refl, sym, ap, ◌∙◌}
use mathlib.Core.Bool.{Bool, true, false, ◌||◌, not, true≢false}
use mathlib.Core.List.{List, [], ◌∷◌, ◌++◌}
use Prim.Native.Nat.{ℕ, ◌+◌, ◌*◌, ◌<◌}
use native.Mathlib.Omega.{arith}
use lib.Dec.{ltb, eqb}
use lib.ListN.{length}
use lib.Seq.{sets, length-sets}
use borrow.Author.Tests.{eqb-true, eqb-false, ltb-true, ne_eqb}
use Rattle.rules.specs.Layout.{file, cell_of, flows, Addr, Valid, rd, table_words, store_bytes, stretch}
use Rattle.rules.specs.Rule.{Refusal, ◌⇒◌, Word, Bytes, Effect, Rule, first_refusal, write, store}
use Rattle.rules.specs.Step.{State, answer, carried_out}
use Rattle.rules.specs.Observer.{Closed}
use Rattle.laws.proofs.Tests.{split, and_left, and_right, failed, both_ways, refuted}
use Rattle.laws.proofs.Written.{AllOf, nil, also, all_map, over-miss, over-at, rd-write}
use Rattle.laws.proofs.Stored.{sets-both, stretch-apart}
use Rattle.laws.proofs.Refusals.{Clear, numbered, without, clear}
use Rattle.secrecy.proofs.Shown.{Ups, UpBytes, WritesUp, up-effect, up-test, Hidden, Alike-effects, same_effect, hidden, Alike, alike-effect, alike-test}
use Rattle.secrecy.proofs.View.{Stretches}

-- ---- refusals

-- where no refusal answers, each of the tests is false
pub granted : {h : List ℕ} {c : ℕ} {k : Rule} → WritesUp h c k → first_refusal k.refusals ≡ 0 → Ups h c k.effects.words × AllOf (UpBytes h c) k.effects.bytes
granted (up-effect u b) e = (u, b)
granted (up-test {b = b} {n = n} {rs = rs} z g) e = split _ b
    (λ t. absurd (eqb-false n 0 z (rw t at e)))
    (λ f. granted (g f) (rw f at e))

pub same-refusal : {h : List ℕ} {C : ℕ → Bool} {k l : Rule} → Alike h C k l → first_refusal k.refusals ≡ first_refusal l.refusals
same-refusal (alike-effect a) = refl
same-refusal (alike-test {b = b} {d = d} z e g) = split _ b (λ t. rw (← e, t)) (λ f. rw (← e, f) (same-refusal (g f)))

granted-alike : {h : List ℕ} {C : ℕ → Bool} {k l : Rule} → Alike h C k l → first_refusal k.refusals ≡ 0 → Alike-effects h C k.effects l.effects
granted-alike (alike-effect a) e = a
granted-alike (alike-test {b = b} {n = n} z q g) e = split _ b
    (λ t. absurd (eqb-false n 0 z (rw t at e)))
    (λ f. granted-alike (g f) (rw f at e))

-- where another refusal answers than the last of a list, the last is not looked at
pub last-unasked : (rs : List Refusal) (x y : Bool) (n : ℕ) → (first_refusal (rs ++ (x ⇒ n) ∷ []) ≡ 0 → ⊥) → (first_refusal (rs ++ (x ⇒ n) ∷ []) ≡ n → ⊥)
    → first_refusal (rs ++ (x ⇒ n) ∷ []) ≡ first_refusal (rs ++ (y ⇒ n) ∷ [])
last-unasked [] true y n z o = absurd (o refl)
last-unasked [] false y n z o = absurd (z refl)
last-unasked (r ∷ rs) x y n z o = split _ r.test
    (λ e. rw e)
    (λ e. rw e (last-unasked rs x y n (rw e at z) (rw e at o)))

-- where the last answers, or none, those before it do not hold
pub clear-before : (rs : List Refusal) (x : Bool) (n : ℕ) → numbered rs ≡ true → without n rs ≡ true
    → eqb (first_refusal (rs ++ (x ⇒ n) ∷ [])) 0 || eqb (first_refusal (rs ++ (x ⇒ n) ∷ [])) n ≡ true → Clear rs
clear-before [] x n a b e = tt
clear-before (r ∷ rs) x n a b e = split _ r.test
    (λ t.
    let some = lt-eqb r.number (ltb-true 0 r.number (and_left (ltb 0 r.number) (numbered rs) a)) in
    let other = failed (eqb r.number n) (and_left (not (eqb r.number n)) (without n rs) b) in
    both_ways (eqb r.number 0 || eqb r.number n) (rw t at e) (rw (some, other)))
    (λ f. (f, clear-before rs x n (and_right (ltb 0 r.number) (numbered rs) a) (and_right (not (eqb r.number n)) (without n rs) b) (rw f at e)))
  where
    lt-eqb : (m : ℕ) → 0 < m → eqb m 0 ≡ false
    lt-eqb m l = ne_eqb m 0 (λ e. omega arith)

-- where none answers, the last does not hold
pub last-clear : (rs : List Refusal) (x : Bool) (n : ℕ) → numbered (rs ++ (x ⇒ n) ∷ []) ≡ true → first_refusal (rs ++ (x ⇒ n) ∷ []) ≡ 0 → x ≡ false
last-clear rs x n a e = last_of rs (clear (rs ++ (x ⇒ n) ∷ []) a e)
  where
    last_of : (rs : List Refusal) → Clear (rs ++ (x ⇒ n) ∷ []) → x ≡ false
    last_of [] c = c.0
    last_of (r ∷ rs) c = last_of rs c.1

-- the number that a call answers is its first refusal's
pub error-is : (h : List ℕ) (s : State) (buffer : List ℕ) (k : Rule) → (carried_out h s buffer k).answered.error ≡ first_refusal k.refusals
unfolding carried_out
error-is h s buffer k = split _ (eqb (first_refusal k.refusals) 0) (λ e. rw e (sym (eqb-true _ 0 e))) (λ e. rw e)

-- a refusal changes nothing, and its answer and buffer hang on its number alone
pub refuses : (h : List ℕ) (s : State) (buffer : List ℕ) (k : Rule) (n : ℕ) → first_refusal k.refusals ≡ n → eqb n 0 ≡ false
    → carried_out h s buffer k ≡ record { answered = answer n 0 0; state = s; buffer = buffer }
unfolding carried_out
refuses h s buffer k n e z = rw (e, z)

-- ---- what two states show to the set, under one configuration h

pub record AgreeAt (h : List ℕ) (C : ℕ → Bool) (s t : State) : Type 0 where
  pub records : (a : Addr) → Valid h a → C (cell_of h a.kind a.slot) ≡ true → rd h s.table a ≡ rd h t.table a
  pub stretches : Stretches h C s.store t.store

-- a state of the right lengths
pub record Sized (h : List ℕ) (s : State) : Type 0 where
  pub words : length s.table ≡ table_words h
  pub bytes : length s.store ≡ store_bytes h

module _ (h : List ℕ) (C : ℕ → Bool) where
  pub agree-sym : (s t : State) → AgreeAt h C s t → AgreeAt h C t s
  agree-sym s t a = record { records = λ b v i. sym (a.records b v i); stretches = λ f i x y z. sym (a.stretches f i x y z) }

  pub agree_trans : (s t u : State) → AgreeAt h C s t → AgreeAt h C t u → AgreeAt h C s u
  agree_trans s t u a b =
      record { records = λ x v i. a.records x v i ∙ b.records x v i; stretches = λ f i x y z. a.stretches f i x y z ∙ b.stretches f i x y z }

  -- the words and bytes of an effect written
  abbrev pub done : State → Effect → State
  done s e = record { table = write h s.table e.words; store = store h s.store e.bytes }

  -- a cell that c flows to lies outside a closed set, if c does
  outside : Closed h C → (c d : ℕ) → C c ≡ false → flows h c d ≡ true → C d ≡ false
  outside cl c d out f = refuted (C d) (λ e. both_ways (C c) (cl c d f e) out)

  -- ---- hidden writes

  valid-ups : {c : ℕ} {ws : List Word} → Ups h c ws → AllOf (λ x. Valid h x.at) ws
  valid-ups u = all_map (λ x y. y.valid) u

  unseen : {ws : List Word} → AllOf (Hidden h C) ws → (a : Addr) → C (cell_of h a.kind a.slot) ≡ true → AllOf (λ x. a ≡ x.at → ⊥) ws
  unseen u a i = all_map (λ x o e. true≢false (sym i ∙ ap (λ (b : Addr). C (cell_of h b.kind b.slot)) e ∙ o)) u

  hide-words : {c : ℕ} {ws : List Word} (t : List ℕ) → length t ≡ table_words h → Ups h c ws → AllOf (Hidden h C) ws
      → (a : Addr) → Valid h a → C (cell_of h a.kind a.slot) ≡ true → rd h t a ≡ rd h (write h t ws) a
  hide-words t l u o a v i = sym (rd-write h t (valid-ups u) l a v ∙ over-miss a (unseen o a i) (rd h t))

  hide-bytes : {c : ℕ} {bs : List Bytes} → Closed h C → C c ≡ false → AllOf (UpBytes h c) bs → (s : List ℕ) → Stretches h C s (store h s bs)
  hide-bytes cl out nil s f i x y z = refl
  hide-bytes {c} cl out (also {x = b} {xs = bs} u us) s f i x y z =
      sym (stretch-apart (stretch h) b.file f b.from i b.bytes s u.inside y
      (λ e. both_ways (C (cell_of h file f)) z (rw e (outside cl c (cell_of h file b.file) out u.up))))
      ∙ hide-bytes cl out us (sets s (b.file * stretch h + b.from) b.bytes) f i x y z

  -- ---- the same writes in both states

  same-words : {c : ℕ} {ws : List Word} (t u : List ℕ) → length t ≡ table_words h → length u ≡ table_words h → Ups h c ws → (a : Addr) → Valid h a
      → rd h t a ≡ rd h u a → rd h (write h t ws) a ≡ rd h (write h u ws) a
  same-words {ws = ws} t u lt lu up a v e =
      rd-write h t (valid-ups up) lt a v ∙ over-at ws (rd h t) (rd h u) a e ∙ sym (rd-write h u (valid-ups up) lu a v)

  same_bytes : (bs : List Bytes) (s t : List ℕ) → length s ≡ length t → Stretches h C s t → Stretches h C (store h s bs) (store h t bs)
  same_bytes [] s t l a = a
  same_bytes (b ∷ bs) s t l a =
      let at : ℕ = b.file * stretch h + b.from in
      same_bytes bs (sets s at b.bytes) (sets t at b.bytes) (length-sets s at b.bytes ∙ l ∙ sym (length-sets t at b.bytes))
      (λ f i x y z. sets-both b.bytes s t at (f * stretch h + i) l (a f i x y z))

  -- ---- a rule carried out

  pub hide-effect : (c : ℕ) (e : Effect) → Closed h C → C c ≡ false → Ups h c e.words → AllOf (UpBytes h c) e.bytes → (s : State) → Sized h s → AgreeAt h C s (done s e)
  hide-effect c e cl out u b s z = record {
    records = hide-words s.table z.words u (all_map (λ x y. outside cl c (cell_of h x.at.kind x.at.slot) out y.up) u);
    stretches = hide-bytes cl out b s.store;
  }

  -- from outside the set nothing is seen of it
  pub silent : {c : ℕ} {k : Rule} → Closed h C → C c ≡ false → WritesUp h c k → (s : State) (buffer : List ℕ) → Sized h s → AgreeAt h C s (carried_out h s buffer k).state
  unfolding carried_out
  silent {c} {k} cl out g s buffer z = split _ (eqb (first_refusal k.refusals) 0)
      (λ e. let u = granted g (eqb-true _ 0 e) in rw e (hide-effect c k.effects cl out u.0 u.1 s z))
      (λ e. rw e (record { records = λ a v i. refl; stretches = λ f i x y w. refl }))

  -- the same words and bytes, whatever the answers
  pub same-done : (c : ℕ) (e f : Effect) → e.words ≡ f.words → e.bytes ≡ f.bytes → Ups h c e.words → (s t : State) → Sized h s → Sized h t → AgreeAt h C s t
      → AgreeAt h C (done s e) (done t f)
  same-done c e f p q u s t zs zt a = rw (← p, ← q) (record {
    records = λ b v i. same-words s.table t.table zs.words zt.words u b v (a.records b v i);
    stretches = same_bytes e.bytes s.store t.store (zs.bytes ∙ sym zt.bytes) a.stretches;
  })

  alike-done : {c d : ℕ} {e f : Effect} → Alike-effects h C e f → Ups h c e.words → Ups h d f.words → (s t : State) → Sized h s → Sized h t → AgreeAt h C s t
      → AgreeAt h C (done s e) (done t f)
  alike-done {c} {e = e} {f = f} (same_effect q) u w s t zs zt a = same-done c e f (ap (λ (x : Effect). x.words) q) (ap (λ (x : Effect). x.bytes) q) u s t zs zt a
  alike-done (hidden o n) u w s t zs zt a = record {
    records = λ b v i. sym (hide-words s.table zs.words u o b v i) ∙ a.records b v i ∙ hide-words t.table zt.words w n b v i;
    stretches = a.stretches;
  }

  same_answer : {e f : Effect} → Alike-effects h C e f → (e.first ≡ f.first) × (e.second ≡ f.second) × (e.buffer ≡ f.buffer)
  same_answer (same_effect q) = (ap (λ (x : Effect). x.first) q, ap (λ (x : Effect). x.second) q, ap (λ (x : Effect). x.buffer) q)
  same_answer (hidden o n) = (refl, refl, refl)

  -- two rules alike, carried out: one answer, one buffer, and states that agree
  pub both : {c d : ℕ} {k l : Rule} → Alike h C k l → WritesUp h c k → WritesUp h d l → (s t : State) (buffer : List ℕ) → Sized h s → Sized h t → AgreeAt h C s t
      → ((carried_out h s buffer k).answered ≡ (carried_out h t buffer l).answered) × ((carried_out h s buffer k).buffer ≡ (carried_out h t buffer l).buffer)
      × AgreeAt h C (carried_out h s buffer k).state (carried_out h t buffer l).state
  unfolding carried_out
  both {k = k} {l = l} a g j s t buffer zs zt w =
      let q : first_refusal l.refusals ≡ first_refusal k.refusals = sym (same-refusal a) in
      split _ (eqb (first_refusal k.refusals) 0)
      (λ e.
      let z : first_refusal k.refusals ≡ 0 = eqb-true _ 0 e in
      let x = granted-alike a z in
      let y = same_answer x in
      rw (q, e) (rw (y.0, y.1), y.2, alike-done x (granted g z).0 (granted j (q ∙ z)).0 s t zs zt w))
      (λ e. rw (q, e) (refl, refl, w))
