-- Words written within one record: what is then read of that record, and that no other is touched.
use mathlib.Core.Path.{◌≡◌, refl, sym, ap, ◌∙◌}
use mathlib.Core.Bool.{cond}
use mathlib.Core.List.{List, [], ◌∷◌, ◌++◌}
use Prim.Native.Nat.{ℕ, zero, suc, ◌+◌, ◌-◌, ◌≤◌, ◌<◌}
use native.Mathlib.Omega.{arith}
use native.Mathlib.Decide.{ℕ_discrete}
use lib.Dec.{eqb}
use borrow.Author.Tests.{eq-eqb}
use Rattle.rules.specs.Words.{tab_from}
use Rattle.rules.specs.Layout.{Kind, process, segment, file, record_words, slots, Addr, at, Valid, live, serial}
use Rattle.rules.specs.Seid.{class}
use Rattle.rules.specs.Rule.{Word, ◌≔◌, same_addr, over}
use Rattle.rules.specs.Find.{zeros, freed}
use Rattle.laws.proofs.Shape.{words-some}
use Rattle.laws.proofs.Written.{AllOf, nil, also, all_map, Valids, hit, miss, over-append, over-miss, over-at}

-- ---- one record or another

kind-discrete : (l k : Kind) → Dec (l ≡ k)
kind-discrete process process = yes refl
kind-discrete segment segment = yes refl
kind-discrete file file = yes refl
kind-discrete process segment = no (λ e. omega (arith, ap class e))
kind-discrete process file = no (λ e. omega (arith, ap class e))
kind-discrete segment process = no (λ e. omega (arith, ap class e))
kind-discrete segment file = no (λ e. omega (arith, ap class e))
kind-discrete file process = no (λ e. omega (arith, ap class e))
kind-discrete file segment = no (λ e. omega (arith, ap class e))

pub by_kind : (P : Kind → Type 0) (k : Kind) → P k → ((l : Kind) → (l ≡ k → ⊥) → P l) → (l : Kind) → P l
by_kind P k here there l = elim (kind-discrete l k) [ yes e ↦ rw e here | no n ↦ there l n ]

pub by-slot : (P : ℕ → Type 0) (i : ℕ) → P i → ((m : ℕ) → (m ≡ i → ⊥) → P m) → (m : ℕ) → P m
by-slot P i here there m = elim (ℕ_discrete m i) [ yes e ↦ rw e here | no n ↦ there m n ]

pub by-record : (P : Kind → ℕ → Type 0) (k : Kind) (i : ℕ) → P k i → ((l : Kind) (m : ℕ) → (l ≡ k → m ≡ i → ⊥) → P l m) → (l : Kind) (m : ℕ) → P l m
by-record P k i here there = by_kind (λ l. (m : ℕ) → P l m) k (by-slot (P k) i here (λ m n. there k m (λ x y. n y))) (λ l n m. there l m (λ x y. n x))

-- two places of one record
pub apart-word : (k : Kind) (i j n : ℕ) → (j ≡ n → ⊥) → at k i j ≡ at k i n → ⊥
apart-word k i j n ne e = ne (ap (λ (a : Addr). a.word) e)

-- ---- writes to one record

abbrev pub InRecord : Kind → ℕ → Word → Type 0
InRecord k i x = (x.at.kind ≡ k) × (x.at.slot ≡ i) × (x.at.word < record_words k)

pub word_in : (k : Kind) (i j v : ℕ) {ws : List Word} → j < record_words k → AllOf (InRecord k i) ws → AllOf (InRecord k i) ((at k i j ≔ v) ∷ ws)
word_in k i j v l a = also (refl, refl, l) a

pub elsewhere : (k : Kind) (i : ℕ) {ws : List Word} → AllOf (InRecord k i) ws → (r : Addr → ℕ) (l : Kind) (m j : ℕ) → (l ≡ k → m ≡ i → ⊥)
    → over r ws (at l m j) ≡ r (at l m j)
elsewhere k i a r l m j n =
    over-miss (at l m j) (all_map (λ x w e. n (ap (λ (a : Addr). a.kind) e ∙ w.0) (ap (λ (a : Addr). a.slot) e ∙ w.1)) a) r

in-valid : (h : List ℕ) (k : Kind) (i : ℕ) → i < slots h k → (x : Word) → InRecord k i x → Valid h x.at
in-valid h k i l x w = (rw (w.0, w.1) l, rw w.0 w.2)

pub all_valid : (h : List ℕ) (k : Kind) (i : ℕ) {ws : List Word} → i < slots h k → AllOf (InRecord k i) ws → Valids h ws
all_valid h k i l a = all_map (in-valid h k i l) a

-- within a record, places are told apart by their words
pub same-record : (k : Kind) (i j n : ℕ) → same_addr (at k i j) (at k i n) ≡ eqb j n
unfolding same_addr
same-record k i j n = rw (eq-eqb (class k) (class k) refl, eq-eqb i i refl)

-- ---- one word written

module _ (r : Addr → ℕ) (k : Kind) (i n v : ℕ) where
  pub word_at : over r ((at k i n ≔ v) ∷ []) (at k i n) ≡ v
  unfolding over
  word_at = hit (at k i n) (at k i n) v (r (at k i n)) refl

  pub word-past : (j : ℕ) → (j ≡ n → ⊥) → over r ((at k i n ≔ v) ∷ []) (at k i j) ≡ r (at k i j)
  unfolding over
  word-past j ne = miss (at k i j) (at k i n) v (r (at k i j)) (apart-word k i j n ne)

  pub word-if : (j : ℕ) → over r ((at k i n ≔ v) ∷ []) (at k i j) ≡ cond (eqb j n) v (r (at k i j))
  unfolding over
  word-if j = rw (same-record k i j n)

-- ---- two records written

module _ (k l : Kind) (i m : ℕ) (ne : l ≡ k → m ≡ i → ⊥) {ws vs : List Word} (a : AllOf (InRecord k i) ws) (b : AllOf (InRecord l m) vs) (r : Addr → ℕ) where
  pub in-first : (j : ℕ) → over r (ws ++ vs) (at k i j) ≡ over r ws (at k i j)
  in-first j = rw (over-append r ws vs) (elsewhere l m b (over r ws) k i j (λ x y. ne (sym x) (sym y)))

  pub in-second : (j : ℕ) → over r (ws ++ vs) (at l m j) ≡ over r vs (at l m j)
  in-second j = rw (over-append r ws vs) (over-at vs (over r ws) r (at l m j) (elsewhere k i a r l m j ne))

  pub in-neither : (g : Kind) (n j : ℕ) → (g ≡ k → n ≡ i → ⊥) → (g ≡ l → n ≡ m → ⊥) → over r (ws ++ vs) (at g n j) ≡ r (at g n j)
  in-neither g n j x y = rw (over-append r ws vs) (elsewhere l m b (over r ws) g n j y ∙ elsewhere k i a r g n j x)

-- ---- a run of words written

module _ (k : Kind) (i : ℕ) (f : ℕ → ℕ) where
  pub tab-in : (j n : ℕ) → j + n ≤ record_words k → AllOf (InRecord k i) (tab_from j n (λ w. at k i w ≔ f w))
  unfolding tab_from
  tab-in j zero l = nil
  tab-in j (suc n) l = word_in k i j (f j) (omega arith) (tab-in (suc j) n (omega arith))

  pub tab-past : (j n : ℕ) (r : Addr → ℕ) (w : ℕ) → (j ≤ w → w < j + n → ⊥) → over r (tab_from j n (λ w. at k i w ≔ f w)) (at k i w) ≡ r (at k i w)
  unfolding tab_from over
  tab-past j zero r w o = refl
  tab-past j (suc n) r w o =
      tab-past (suc j) n (λ b. cond (same_addr b (at k i j)) (f j) (r b)) w (λ x y. o (omega arith) (omega arith))
      ∙ miss (at k i w) (at k i j) (f j) (r (at k i w)) (apart-word k i w j (λ e. o (omega arith) (omega arith)))

  pub tab-at : (j n : ℕ) (r : Addr → ℕ) (w : ℕ) → j ≤ w → w < j + n → over r (tab_from j n (λ w. at k i w ≔ f w)) (at k i w) ≡ f w
  unfolding tab_from over
  tab-at j zero r w a b = absurd (omega arith)
  tab-at j (suc n) r w a b = elim (ℕ_discrete w j) [
    | yes e ↦ rw e (tab-past (suc j) n (λ b. cond (same_addr b (at k i j)) (f j) (r b)) j (λ x y. omega arith) ∙ hit (at k i j) (at k i j) (f j) (r (at k i j)) refl)
    | no ne ↦ tab-at (suc j) n (λ b. cond (same_addr b (at k i j)) (f j) (r b)) w (omega arith) (omega arith)
  ]

-- ---- a record freed: zero but for its serial

module _ (k : Kind) (i : ℕ) where
  pub freed-in : AllOf (InRecord k i) (freed k i)
  unfolding zeros
  freed-in = let w = words-some k in word_in k i live 0 (omega arith) (tab-in k i (λ w. 0) 2 (record_words k - 2) (omega arith))

  pub freed-serial : (r : Addr → ℕ) → over r (freed k i) (at k i serial) ≡ r (at k i serial)
  unfolding over zeros
  freed-serial r =
      tab-past k i (λ w. 0) 2 (record_words k - 2) (λ b. cond (same_addr b (at k i live)) 0 (r b)) serial (λ x y. omega arith)
      ∙ miss (at k i serial) (at k i live) 0 (r (at k i serial)) (apart-word k i serial live (λ e. omega arith))

  pub freed-word : (r : Addr → ℕ) (j : ℕ) → j < record_words k → (j ≡ serial → ⊥) → over r (freed k i) (at k i j) ≡ 0
  unfolding over zeros
  freed-word r j l n = let w = words-some k in elim (ℕ_discrete j live) [
    | yes e ↦ rw e (tab-past k i (λ w. 0) 2 (record_words k - 2) (λ b. cond (same_addr b (at k i live)) 0 (r b)) live (λ x y. omega arith)
        ∙ hit (at k i live) (at k i live) 0 (r (at k i live)) refl)
    | no ne ↦ tab-at k i (λ w. 0) 2 (record_words k - 2) (λ b. cond (same_addr b (at k i live)) 0 (r b)) j (omega arith) (omega arith)
  ]
