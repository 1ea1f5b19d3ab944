-- A process's entries given up one after the other: which words are written, and that they hang only on what the table's words hold.
use mathlib.Core.Path.{◌≡◌, refl, sym, ap, ◌∙◌}
use mathlib.Core.Bool.{Bool, true, false, cond, ◌&&◌, not}
use mathlib.Core.List.{List, [], ◌∷◌, ◌++◌}
use Prim.Native.Nat.{ℕ, zero, suc, ◌+◌, ◌-◌, ◌≤◌, ◌<◌}
use native.Mathlib.Omega.{arith}
use native.Mathlib.Numerals.{add-one}
use lib.Dec.{eqb}
use borrow.Author.Tests.{eq-eqb, ne_eqb}
use Rattle.rules.specs.Words.{tab_from}
use Rattle.rules.specs.Layout.{Kind, process, segment, file, record_words, configuration, slots, Addr, at, Valid, rd, live, entries, held_at, used_at, pages, pages_at, page_at, links, holders}
use Rattle.rules.specs.Seid.{class, index_of, formed}
use Rattle.rules.specs.Rule.{Word, ◌≔◌, write, over}
use Rattle.rules.specs.Find.{in_own_cell, zeros, freed, kept, one_less, page_left, pages_set, pages_cleared, emptied, given_up}
use Rattle.rules.specs.Call02.{dropped, dropped_to, released}
use Rattle.laws.proofs.Tests.{and_left, both_ways, split}
use Rattle.laws.proofs.Seids.{is-formed}
use Rattle.laws.proofs.Written.{AllOf, nil, also, all_append, all-if, all_map, all-tab, Valids, over-append, write-append, over-same, over-miss, length-write, rd-write, conf-write}
use Rattle.layout.specs.declared.Header.{Header}
use Rattle.layout.specs.Header.{record_of}
use Rattle.calls.specs.declared.Caller.{Caller}
use Rattle.calls.specs.declared.entries.Entry.{Entry}
use Rattle.calls.specs.World.{Known, words_of, holdable}
use Rattle.calls.specs.Entries.{entry_of, freed_at}
use Rattle.calls.specs.Holding.{HoldingAt, Holding}
use Rattle.calls.proofs.Searches.{record-some}
use Rattle.calls.proofs.Given.{begins, freed-is}
use Rattle.calls.proofs.MapLaws.{pages-same}

-- two readings that agree at each word of a record
abbrev Agree : List ℕ → (Addr → ℕ) → (Addr → ℕ) → Type 0
Agree h r q = (a : Addr) → Valid h a → r a ≡ q a

-- ---- where an entry lies, and where its object's words lie

held_in : (k : Kind) → holdable k ≡ true → (d : ℕ) → d < entries → held_at k d < pages_at
held_in process th d l = both_ways false th refl
held_in segment th d l = omega arith
held_in file th d l = omega arith

used-in : (k : Kind) → holdable k ≡ true → (d : ℕ) → d < entries → used_at k d < pages_at
used-in process th d l = both_ways false th refl
used-in segment th d l = omega arith
used-in file th d l = omega arith

holders-in : (k : Kind) → holdable k ≡ true → holders k < record_words k
holders-in process th = both_ways false th refl
holders-in segment th = omega arith
holders-in file th = omega arith

no-process : (k : Kind) → holdable k ≡ true → class process ≡ class k → ⊥
no-process process th e = both_ways false th refl
no-process segment th e = omega arith
no-process file th e = omega arith

-- entries of one number are apart from those of another
apart : (k : Kind) → holdable k ≡ true → (d e : ℕ) → e < d → (held_at k d ≡ held_at k e → ⊥) × (held_at k d ≡ used_at k e → ⊥)
apart process th d e l = both_ways false th refl
apart segment th d e l = (λ q. omega arith, λ q. omega arith)
apart file th d e l = (λ q. omega arith, λ q. omega arith)

-- ---- one entry

-- a write to a word that the table has; of process q's words before its pages, to none but the two of entry d
record Fits (h : List ℕ) (k : Kind) (q d : ℕ) (x : Word) : Type 0 where
  valid : Valid h x.at
  misses : (j : ℕ) → j < pages_at → (j ≡ held_at k d → ⊥) → (j ≡ used_at k d → ⊥) → at process q j ≡ x.at → ⊥

module _ (h : List ℕ) (k : Kind) (th : holdable k ≡ true) (q d : ℕ) where
  -- a word of the object
  object-fits : (i j v : ℕ) → i < slots h k → j < record_words k → Fits h k q d (at k i j ≔ v)
  object-fits i j v l m = record { valid = (l, m); misses = λ _ _ _ _ e. no-process k th (ap (λ (a : Addr). class a.kind) e) }

  zeros-fit : (i j n : ℕ) → i < slots h k → j + n ≤ record_words k → AllOf (Fits h k q d) (zeros k i j n)
  unfolding zeros tab_from
  zeros-fit i j zero l m = nil
  zeros-fit i j (suc n) l m = also (object-fits i j 0 l (omega arith)) (zeros-fit i (suc j) n l (omega arith))

  less-fits : (r : Addr → ℕ) (i : ℕ) → i < slots h k → AllOf (Fits h k q d) (one_less r k i)
  unfolding one_less
  less-fits r i l =
      all-if _ (eqb (r (at k i (holders k))) 1 && not (kept r k i)) (freed k i) ((at k i (holders k) ≔ r (at k i (holders k)) - 1) ∷ [])
      (λ _. also (object-fits i live 0 l (omega (arith, record-some k))) (zeros-fit i 2 (record_words k - 2) l (omega (arith, record-some k))))
      (λ _. also (object-fits i (holders k) _ l (holders-in k th)) nil)

  pages-fit : (r : Addr → ℕ) (k' : Kind) → q < slots h process → AllOf (Fits h k q d) (pages_cleared r k' q d)
  unfolding pages_set
  pages-fit r process ql = nil
  pages-fit r segment ql = all-tab _ 0 pages _ (λ g lo hi.
      record { valid = (ql, omega arith); misses = λ j l a b e. absurd (let w : j ≡ page_at g = ap (λ (x : Addr). x.word) e in omega arith) })
  pages-fit r file ql = nil

  given-fits : (r : Addr → ℕ) (s : ℕ) → q < slots h process → d < entries → AllOf (Fits h k q d) (given_up h r k q d s)
  unfolding given_up emptied
  given-fits r s ql dl =
      all_append _ (pages-fit r k ql)
      (also (record { valid = (ql, omega (arith, held_in k th d dl)); misses = λ j l a b e. a (ap (λ (x : Addr). x.word) e) })
      (also (record { valid = (ql, omega (arith, used-in k th d dl)); misses = λ j l a b e. b (ap (λ (x : Addr). x.word) e) })
      (all-if _ (formed h k s && in_own_cell h q k s) (one_less r k (index_of s)) []
      (λ e. less-fits r (index_of s) (is-formed (class k) (slots h k) s (and_left (formed h k s) _ e)).index_in) (λ _. nil))))

  dropped-fits : (r : Addr → ℕ) → q < slots h process → d < entries → AllOf (Fits h k q d) (dropped h r k q d)
  unfolding dropped
  dropped-fits r ql dl =
      all-if _ (eqb (r (at process q (held_at k d))) 0) [] (given_up h r k q d (r (at process q (held_at k d)))) (λ _. nil)
      (λ e. given-fits r (r (at process q (held_at k d))) ql dl)

-- what it writes hangs on the words that the table has
kept_same : (h : List ℕ) (k : Kind) (r r' : Addr → ℕ) → Agree h r r' → (i : ℕ) → i < slots h k → kept r k i ≡ kept r' k i
kept_same h process r r' a i l = refl
kept_same h segment r r' a i l = refl
kept_same h file r r' a i l = rw (a (at file i links) (l, omega arith))

module _ (h : List ℕ) (k : Kind) (th : holdable k ≡ true) (q d : ℕ) (ql : q < slots h process) (r r' : Addr → ℕ) (agree : Agree h r r') where
  cleared-same : (k' : Kind) → pages_cleared r k' q d ≡ pages_cleared r' k' q d
  unfolding page_left
  cleared-same process = refl
  cleared-same segment =
      pages-same q (page_left r q d) (page_left r' q d) (λ g l. ap (λ (x : ℕ). cond (eqb x (d + 1)) 0 x) (agree (at process q (page_at g)) (ql, omega arith)))
  cleared-same file = refl

  -- where it has the form of its kind, it names a slot of the table
  given-same : (s : ℕ) → given_up h r k q d s ≡ given_up h r' k q d s
  unfolding given_up emptied one_less
  given-same s = split _ (formed h k s)
      (λ f.
      let l : index_of s < slots h k = (is-formed (class k) (slots h k) s f).index_in in
      rw (cleared-same k, agree (at k (index_of s) (holders k)) (l, holders-in k th), kept_same h k r r' agree (index_of s) l))
      (λ f. rw (f, cleared-same k))

  dropped-same : d < entries → dropped h r k q d ≡ dropped h r' k q d
  unfolding dropped
  dropped-same dl = rw (← agree (at process q (held_at k d)) (ql, omega (arith, held_in k th d dl))) (go (eqb (r (at process q (held_at k d))) 0) refl)
    where
      go : (b : Bool) → eqb (r (at process q (held_at k d))) 0 ≡ b
          → cond b [] (given_up h r k q d (r (at process q (held_at k d)))) ≡ cond b [] (given_up h r' k q d (r (at process q (held_at k d))))
      go true e = refl
      go false e = given-same (r (at process q (held_at k d)))

-- ---- the first n entries

module _ (h : List ℕ) (k : Kind) (th : holdable k ≡ true) (q : ℕ) (ql : q < slots h process) (r : Addr → ℕ) where
  pub record SoFar (n : ℕ) : Type 0 where
    pub valid : Valids h (dropped_to h r k q n)
    pub beside : (j : ℕ) → j < pages_at → ((d : ℕ) → d < n → (j ≡ held_at k d → ⊥) × (j ≡ used_at k d → ⊥)) → over r (dropped_to h r k q n) (at process q j) ≡ r (at process q j)

  so_far : (n : ℕ) → n ≤ entries → SoFar n
  unfolding dropped_to over
  so_far zero l = record { valid = nil; beside = λ j m f. refl }
  so_far (suc n) l =
      let s = so_far n (omega arith) in
      let ws : List Word = dropped_to h r k q n in
      let vs : List Word = dropped h (over r ws) k q n in
      let fit = dropped-fits h k th q n (over r ws) ql l in
      record {
        valid = all_append vs s.valid (all_map (λ x y. y.valid) fit);
        beside = λ j m f. rw (over-append r ws vs) (over-miss (at process q j) (all_map (λ x y. y.misses j m (f n (omega arith)).0 (f n (omega arith)).1) fit) (over r ws)
            ∙ s.beside j m (λ d dl. f d (omega arith)));
      }

  -- another reading that agrees with r gives up the same words
  all_same : (r' : Addr → ℕ) → Agree h r r' → (n : ℕ) → n ≤ entries → dropped_to h r k q n ≡ dropped_to h r' k q n
  unfolding dropped_to
  all_same r' agree zero l = refl
  all_same r' agree (suc n) l =
      let ws : List Word = dropped_to h r k q n in
      let e : ws ≡ dropped_to h r' k q n = all_same r' agree n (omega arith) in
      rw (← e) (ap (λ (vs : List Word). ws ++ vs) (dropped-same h k th q n ql (over r ws) (over r' ws) (over-same h ws r r' agree) l))

-- ---- the table while the entries are given up: t is the table at the start, u once n of them are

-- a known table stays known while words of records are written
known-write : {t : List ℕ} {n : Header} → Known t n → (ws : List Word) → Known (write (configuration t) t ws) n
known-write {t} known ws =
    let c = conf-write (configuration t) t ws refl in
    record { conf = rw c known.conf; long = rw (c, length-write) known.long; header = rw c known.header }

-- one entry: s is what it holds
module _ (h t : List ℕ) (k : Kind) (q d : ℕ) {x : Entry} (entry : x ≡ entry_of (rd h t) k q d) where
  pub drop-some : (x.held ≡ 0 → ⊥) → write h t (given_up h (rd h t) k q d x.held) ≡ write h t (dropped h (rd h t) k q d)
  unfolding dropped
  drop-some some = let e : x.held ≡ rd h t (at process q (held_at k d)) = ap (λ (y : Entry). y.held) entry in rw (← e, ne_eqb x.held 0 some)

  pub drop-none : x.held ≡ 0 → t ≡ write h t (dropped h (rd h t) k q d)
  unfolding dropped
  drop-none none = let e : x.held ≡ rd h t (at process q (held_at k d)) = ap (λ (y : Entry). y.held) entry in rw (← e, eq-eqb x.held 0 none)

-- m of them given up
module _ {t : List ℕ} {n : Header} {c : Caller} (k : Kind) (q : ℕ) (holding : Holding t n c k q) where
  far : (m : ℕ) → m ≤ entries → SoFar (configuration t) k holding.at_all.held q holding.here (words_of t) m
  far = so_far (configuration t) k holding.at_all.held q holding.here (words_of t)

  reads : (m : ℕ) → m ≤ entries
      → Agree (configuration t) (over (words_of t) (dropped_to (configuration t) (words_of t) k q m))
      (rd (configuration t) (write (configuration t) t (dropped_to (configuration t) (words_of t) k q m)))
  reads m l a v = sym (rd-write (configuration t) t (far m l).valid holding.words a v)

  pub ready : {u : List ℕ} (m : ℕ) → u ≡ write (configuration t) t (dropped_to (configuration t) (words_of t) k q m) → HoldingAt u n c k q
  ready m e =
      let ws : List Word = dropped_to (configuration t) (words_of t) k q m in
      let same : configuration (write (configuration t) t ws) ≡ configuration t = conf-write (configuration t) t ws refl in
      rw e (record { known = known-write holding.at_all.known ws; held = holding.at_all.held; homed = rw same holding.at_all.homed })

  pub one_more : (m : ℕ) → m < entries → {u u' : List ℕ} → u ≡ write (configuration t) t (dropped_to (configuration t) (words_of t) k q m)
      → u' ≡ write (configuration u) u (dropped (configuration u) (words_of u) k q m)
      → u' ≡ write (configuration t) t (dropped_to (configuration t) (words_of t) k q (m + 1))
  unfolding dropped_to
  one_more m l {u} {u'} e f =
      let h : List ℕ = configuration t in
      let r : Addr → ℕ = words_of t in
      let th = holding.at_all.held in
      let ws : List Word = dropped_to h r k q m in
      let same : configuration (write h t ws) ≡ h = conf-write h t ws refl in
      let d = dropped-same h k th q m holding.here (over r ws) (rd h (write h t ws)) (reads m (omega arith)) l in
      let g : u' ≡ write h (write h t ws) (dropped h (over r ws) k q m) = f ∙ rw (e, same, d) in
      rw (add-one, write-append) g

  pub none_yet : t ≡ write (configuration t) t (dropped_to (configuration t) (words_of t) k q 0)
  unfolding dropped_to
  none_yet = refl

-- ---- a process released

-- the designators once the descriptors are given up
module _ {t : List ℕ} {n : Header} {c : Caller} (q : ℕ) (files : Holding t n c file q) {t₁ : List ℕ}
    (first : t₁ ≡ write (configuration t) t (dropped_to (configuration t) (words_of t) file q entries)) where
  pub then-segments : Holding t₁ n c segment q
  then-segments =
      let h : List ℕ = configuration t in
      let ws : List Word = dropped_to h (words_of t) file q entries in
      let conf : configuration (write h t ws) ≡ h = conf-write h t ws refl in
      rw first (record {
        at_all = record { known = known-write files.at_all.known ws; held = refl; homed = rw conf files.at_all.homed };
        words = rw (conf, length-write h t ws) files.words;
        here = rw conf files.here;
      })

  -- the record cleared, which begins at a place
  pub released-is : {t₂ t₃ : List ℕ} {place : ℕ} → t₂ ≡ write (configuration t₁) t₁ (dropped_to (configuration t₁) (words_of t₁) segment q entries)
      → place ≡ record_of n process q → t₃ ≡ freed_at t₂ place (record_words process) → t₃ ≡ write (configuration t) t (released (configuration t) (words_of t) q)
  unfolding released
  released-is {t₂} {t₃} {place} second begin third =
      let h : List ℕ = configuration t in
      let r : Addr → ℕ = words_of t in
      let ws : List Word = dropped_to h r file q entries in
      let conf : configuration t₁ ≡ h = ap configuration first ∙ conf-write h t ws refl in
      let then : Holding t₁ n c segment q = then-segments in
      let agree : Agree h (rd h t₁) (over r ws) = λ a v. ap (λ (u : List ℕ). rd h u a) first ∙ sym (reads file q files entries (omega arith) a v) in
      let same : dropped_to h (rd h t₁) segment q entries ≡ dropped_to h (over r ws) segment q entries =
      all_same h segment refl q files.here (rd h t₁) (over r ws) agree entries (omega arith) in
      let two : t₂ ≡ write h t₁ (dropped_to h (over r ws) segment q entries) = second ∙ rw (conf, same) in
      rw (write-append h t ws, write-append, ← first, ← two) (third ∙ rw (begin, begins files.at_all.known process q) (sym (freed-is h t₂ process q)))
