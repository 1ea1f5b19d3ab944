-- The cells' levels and the flow matrix, read off a table's words.
use mathlib.Core.Bool.{Bool, true, false, cond, and-false}
use mathlib.Core.List.{List, []}
use mathlib.Core.Path.{◌≡◌, refl, sym, ap, ◌∙◌}
use Prim.Native.Nat.{ℕ, ◌+◌, ◌*◌, ◌<◌, ◌≤◌, min}
use native.Mathlib.Omega.{arith}
use native.Mathlib.Nat.{add-zero, le_refl, le_antisymm}
use lib.Dec.{ltb}
use lib.ListN.{get_or, set}
use lib.Seq.{get_or-set_same, set-get_or, set-set}
use borrow.Author.Tests.{lt-ltb, le-ltb, ltb-true, ltb-false}
use Rattle.rules.specs.Words.{tab_from}
use Rattle.rules.specs.Level.{level, flows_to}
use Rattle.rules.specs.Layout.{max_cells, header_words, cell_words, cells, cell_word, level_of, configuration, flows, flow_matrix, cell_at}
use Rattle.laws.proofs.Tests.{same_test, split}
use Rattle.laws.proofs.Tab.{length-tab, get_or-tab2}
use Rattle.laws.proofs.Fill.{tab-at, tab-past, tab-any, tab-same, up_to, up_to-more, up_to-all}
use Rattle.laws.proofs.Places.{conf-cells, conf-cell}
use Rattle.levels.specs.declared.Level.{Level}
use Rattle.levels.specs.Rule.{rule_level, code_level, level_at}

-- ---- a cell's words

-- n is the table's first word, as the code read it
module _ (t : List ℕ) (n c : ℕ) (count : n ≡ get_or t 0 0) where
  cell_in : (k x : ℕ) → c < n → k < cell_words → x ≡ get_or t (cell_at c k) 0 → x ≡ cell_word (configuration t) c k
  unfolding cell_word cells
  cell_in k x h l e = e ∙ sym (conf-cell t c k (omega arith) l)

  cells_are : cells (configuration t) ≡ n
  unfolding cells
  cells_are = conf-cells t ∙ sym count

  pub level_in_lem : c < n → (s i m : ℕ) → s ≡ get_or t (header_words + cell_words * c) 0 → i ≡ get_or t (cell_at c 1) 0
      → m ≡ get_or t (cell_at c 2) 0
      → level s i m ≡ level_at (configuration t) c
  unfolding level_of
  level_in_lem h s i m p q r =
      let s' = cell_in 0 s h (omega arith) (p ∙ ap (λ (k : ℕ). get_or t k 0) (sym (add-zero (header_words + cell_words * c)))) in
      let i' = cell_in 1 i h (omega arith) q in
      let m' = cell_in 2 m h (omega arith) r in
      rw (lt-ltb c (cells (configuration t)) (omega (arith, cells_are))) (λ j. level (s' j) (i' j) (m' j))

  pub level-past : n ≤ c → level 0 0 0 ≡ level_at (configuration t) c
  level-past h = rw (le-ltb c (cells (configuration t)) (omega (arith, cells_are))) refl

-- ---- the cells' levels, each read once

-- a cell's level as the code holds it
abbrev pub level_in : List ℕ → ℕ → Level
level_in t c = code_level (level_at (configuration t) c)

abbrev pub nil : Level
nil = code_level (level 0 0 0)

pub default_nil : (l : Level) → (l.security ≡ 0) × ((l.integrity ≡ 0) × (l.compartments ≡ 0)) → l ≡ nil
default_nil l h i = record { security = h.0 i; integrity = h.1.0 i; compartments = h.1.1 i }

pub levels-all : (t : List ℕ) (n c : ℕ) (all : List Level) → n ≡ min (get_or t 0 0) max_cells → n ≤ c → all ≡ tab_from 0 max_cells (up_to nil (level_in t) c)
    → all ≡ tab_from 0 max_cells (level_in t)
levels-all t n c all e h p =
    p ∙ up_to-all nil (level_in t) max_cells c (λ k l m. ap code_level (level-past t (get_or t 0 0) k refl (omega arith)))

-- ---- the flow matrix

-- whether a level may flow to that of a cell
abbrev pub flows_for : List Level → Level → ℕ → Bool
flows_for all from d = flows_to (rule_level from) (rule_level (get_or all d nil))

-- the first d entries of a row
abbrev pub row_to : List Level → Level → ℕ → List Bool
row_to all from d = tab_from 0 max_cells (up_to false (flows_for all from) d)

-- a row of the matrix, and one of all no
abbrev pub row_in : List ℕ → ℕ → List Bool
row_in t c = tab_from 0 max_cells (λ d. flows (configuration t) c d)

abbrev pub no : List Bool
no = tab_from 0 max_cells (λ d. false)

-- the matrix whose first c rows are made
abbrev pub rows_to : List ℕ → ℕ → List (List Bool)
rows_to t c = tab_from 0 max_cells (up_to no (row_in t) c)

-- row c begins as all no
pub row-begun : (t : List ℕ) (c : ℕ) (all : List Level) (from : Level) (m : List (List Bool)) → c < max_cells → m ≡ rows_to t c → m ≡ set (rows_to t c) c (row_to all from 0)
unfolding tab_from
row-begun t c all from m h p = p ∙ sym (ap (λ (r : List Bool). set (rows_to t c) c r) (sym here) ∙ set-get_or (rows_to t c) c no)
  where
    here : get_or (rows_to t c) c no ≡ no
    here = tab-at max_cells (up_to no (row_in t) c) c no h ∙ ap (λ (b : Bool). cond b (row_in t c) no) (le-ltb c c (le_refl c))

-- and gets one entry more, in its place in the matrix
pub row_more : (t : List ℕ) (c : ℕ) (all : List Level) (from : Level) (d : ℕ) (m : List (List Bool)) (v : Bool) → c < max_cells → d < max_cells
    → m ≡ set (rows_to t c) c (row_to all from d) → v ≡ flows_for all from d → set m c (set (get_or m c []) d v) ≡ set (rows_to t c) c (row_to all from (d + 1))
row_more t c all from d m v h l p e =
    ap (λ (x : List (List Bool)). set x c (set (get_or m c []) d v)) p
    ∙ set-set (rows_to t c) c (row_to all from d) (set (get_or m c []) d v)
    ∙ ap (λ (r : List Bool). set (rows_to t c) c r) (up_to-more false (flows_for all from) max_cells d (get_or m c []) v l row e)
  where
    row : get_or m c [] ≡ row_to all from d
    row = ap (λ (x : List (List Bool)). get_or x c []) p ∙ get_or-set_same (rows_to t c) c (row_to all from d) [] (rw length-tab h)

-- the configuration's cells are the table's first word
cells-kept : (t : List ℕ) → cells (configuration t) ≡ get_or t 0 0
unfolding cells
cells-kept t = conf-cells t

module _ (t : List ℕ) (n : ℕ) (count : n ≡ min (get_or t 0 0) max_cells) where
  -- of the sixteen cells, those that are counted are those that the table has
  counted : (d : ℕ) → d < max_cells → ltb d n ≡ ltb d (cells (configuration t))
  counted d h =
      rw (cells-kept t)
      (same_test (ltb d n) (ltb d (get_or t 0 0))
      (λ e. lt-ltb d (get_or t 0 0) (omega (arith, ltb-true d n e)))
      (λ e. lt-ltb d n (omega (arith, ltb-true d (get_or t 0 0) e))))

  row-past : (c : ℕ) → n ≤ c → c < max_cells → no ≡ row_in t c
  unfolding flows
  row-past c h l =
      tab-same max_cells (λ d. false) (λ d. flows (configuration t) c d) false
      (λ d m. rw (← counted c l, le-ltb c n h))

  module _ (all : List Level) (read : all ≡ tab_from 0 max_cells (level_in t)) where
    known : (c : ℕ) → c < max_cells → get_or all c nil ≡ level_in t c
    known c h = ap (λ (l : List Level). get_or l c nil) read ∙ tab-at max_cells (level_in t) c nil h

    entry_in : (c : ℕ) → c < n → (d : ℕ) → d < max_cells → cond (ltb d n) (flows_for all (get_or all c nil) d) false ≡ flows (configuration t) c d
    unfolding flows
    entry_in c h d m =
        let here : ltb c (cells (configuration t)) ≡ true = sym (counted c (omega arith)) ∙ lt-ltb c n h in
        rw (known c (omega arith), known d m, counted d m, here)
        (split _ (ltb d (cells (configuration t))) (λ e. rw e refl) (λ e. rw e refl))

    row-in : (c : ℕ) → c < n → row_to all (get_or all c nil) n ≡ row_in t c
    row-in c h =
        tab-same max_cells (up_to false (flows_for all (get_or all c nil)) n) (λ d. flows (configuration t) c d) false
        (entry_in c h)

    -- a row with all its entries is the matrix's
    pub row_done : (c d : ℕ) (m : List (List Bool)) → c < n → d ≤ n → n ≤ d → m ≡ set (rows_to t c) c (row_to all (get_or all c nil) d) → m ≡ rows_to t (c + 1)
    row_done c d m h a b p =
        p
        ∙ up_to-more no (row_in t) max_cells c (rows_to t c) (row_to all (get_or all c nil) d) (omega arith) refl
        (ap (row_to all (get_or all c nil)) (le_antisymm a b) ∙ row-in c h)

  pub matrix-all : (c : ℕ) (m : List (List Bool)) → c ≤ n → n ≤ c → m ≡ rows_to t c → m ≡ flow_matrix (configuration t)
  unfolding flow_matrix
  matrix-all c m h l p = p ∙ up_to-all no (row_in t) max_cells c (λ k a b. row-past k (omega arith) b)

-- an entry of the matrix says what the rule says
pub matrix-entry : (h : List ℕ) (c d : ℕ) → c < max_cells → d < max_cells → get_or (get_or (flow_matrix h) c []) d false ≡ flows h c d
unfolding flow_matrix
matrix-entry h c d l m = get_or-tab2 max_cells max_cells (flows h) c d [] false l m

-- and where there are at most sixteen cells, any two numbers' entry does: both say no past the last cell
module _ (h : List ℕ) (few : cells h ≤ max_cells) where
  past-left : (c d : ℕ) → max_cells ≤ c → flows h c d ≡ false
  unfolding flows
  past-left c d l = rw (le-ltb c (cells h) (omega arith))

  past-right : (c d : ℕ) → max_cells ≤ d → flows h c d ≡ false
  unfolding flows
  past-right c d l = rw (le-ltb d (cells h) (omega arith), and-false)

  pub matrix-any : (c d : ℕ) → get_or (get_or (flow_matrix h) c []) d false ≡ flows h c d
  unfolding flow_matrix
  matrix-any c d =
      split (get_or (get_or (flow_matrix h) c []) d false ≡ flows h c d) (ltb c max_cells)
      (λ e. ap (λ (r : List Bool). get_or r d false) (tab-at max_cells rows c [] (ltb-true c max_cells e)) ∙ tab-any max_cells (flows h c) d false (past-right c d))
      (λ e. ap (λ (r : List Bool). get_or r d false) (tab-past max_cells rows c [] (ltb-false c max_cells e)) ∙ sym (past-left c d (ltb-false c max_cells e)))
    where
      rows : ℕ → List Bool
      rows c = tab_from 0 max_cells (λ d. flows h c d)
