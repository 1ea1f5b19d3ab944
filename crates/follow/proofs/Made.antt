-- The slice that the fill function makes is right, and a slice is right exactly where its words are those.
use mathlib.Core.Path.{◌≡◌, refl, ap, ◌∙◌}
use mathlib.Core.Bool.{true}
use mathlib.Core.List.{List, ◌++◌}
use Prim.Native.Nat.{ℕ, zero, suc, ◌+◌, ◌*◌, ◌≤◌, ◌<◌}
use native.Mathlib.Omega.{arith}
use native.Mathlib.Decide.{ℕ_discrete}
use native.Mathlib.Nat.{zero-add, add_assoc, suc-mul}
use lib.ListN.{length, get_or, length-append, get_or-append}
use lib.Seq.{get_or-append-add}
use Rattle.rules.specs.Words.{sum_below}
use Rattle.rules.specs.Layout.{Kind, process, segment, file, cells, cell_slots, first_slot, configuration, Addr, rd, entries}
use Rattle.rules.specs.Find.{can_take}
use Rattle.rules.specs.Work.{joined, key_at, free_keys, list_words, lists, mask, names, masks, rows, work_of, work_in}
use Rattle.rules.specs.Quick.{same_words}
use Rattle.laws.proofs.Below.{sum-grows, sum_same}
use Rattle.laws.proofs.Cells.{run_end}
use Rattle.laws.proofs.Tab.{length-tab, get_or-tab}
use Rattle.lists.proofs.Lists.{sorted-length}
use Rattle.laws.proofs.Joined.{length-joined}
use Rattle.laws.proofs.Same.{same_self, same-equal}
use Rattle.lists.proofs.Shown.{words_count, words-key, length-words}
use Rattle.follow.specs.Right.{runs, kind_at, list_at, rows_at, rows_to, mark_at, Right}
use Rattle.follow.proofs.Places.{before-rows, in_row}
use Rattle.follow.proofs.One.{right-one}

-- ---- lists one behind the other

-- past the first of two lists
get_d_past : (l m : List ℕ) (n x : ℕ) → length l ≡ n → get_or (l ++ m) (n + x) 0 ≡ get_or m x 0
get_d_past l m n x e = rw (← e) (get_or-append-add l m x 0)

module _ (f : ℕ → List ℕ) where
  -- where the list n begins
  abbrev pub before : ℕ → ℕ
  before n = sum_below n (λ i. length (f i))

  pub joined_length : (n : ℕ) → length (joined n f) ≡ before n
  joined_length n = length-joined n f (λ i. length (f i)) (λ i l. refl)

  pub joined_at : (n i j : ℕ) → i < n → j < length (f i) → get_or (joined n f) (before i + j) 0 ≡ get_or (f i) j 0
  unfolding joined sum_below
  joined_at zero i j l m = absurd (omega arith)
  joined_at (suc n) i j l m = elim (ℕ_discrete i n) [
    | yes e ↦ rw e (get_d_past (joined n f) (f n) (before n) j (joined_length n))
    | no ne ↦ get_or-append (joined n f) (f n) 0 (before i + j) (omega (arith, joined_length n, sum-grows (λ i. length (f i)) (suc i) n (omega arith)))
        ∙ joined_at n i j (omega arith) m
  ]

  -- of one length
  pub before-even : (m n : ℕ) → ((i : ℕ) → i < n → length (f i) ≡ m) → before n ≡ n * m
  unfolding sum_below
  before-even m zero e = omega arith
  before-even m (suc n) e = omega (arith, suc-mul n m, before-even m n (λ i l. e i (omega arith)), e n (omega arith))

-- ---- the parts of the slice

module _ (h : List ℕ) (r : Addr → ℕ) where
  fits : (k : Kind) (c : ℕ) → length (free_keys h r k c) ≤ cell_slots h k c
  unfolding free_keys
  fits k c = sorted-length (can_take r k) (key_at r k) (cell_slots h k c) (first_slot h k c)

  abbrev list_of : Kind → ℕ → List ℕ
  list_of k c = list_words (free_keys h r k c) (cell_slots h k c)

  list_length : (k : Kind) (c : ℕ) → length (list_of k c) ≡ suc (cell_slots h k c)
  list_length k c = omega (arith, length-words (free_keys h r k c) (cell_slots h k c) (fits k c))

  list-begins : (k : Kind) (c : ℕ) → before (list_of k) c ≡ first_slot h k c + c
  unfolding first_slot sum_below
  list-begins k zero = refl
  list-begins k (suc c) = omega (arith, list-begins k c, list_length k c)

  lists_length : (k : Kind) → length (lists h r k) ≡ runs h k
  unfolding lists runs
  lists_length k = joined_length (list_of k) (cells h) ∙ list-begins k (cells h)

  list-word : (k : Kind) (c j : ℕ) → c < cells h → j ≤ cell_slots h k c → get_or (lists h r k) (first_slot h k c + c + j) 0 ≡ get_or (list_of k c) j 0
  unfolding lists
  list-word k c j cl jl = rw (← list-begins k c) (joined_at (list_of k) (cells h) c j cl (omega (arith, list_length k c)))

  pub masks-length : (c q : ℕ) → length (masks h r c q) ≡ cell_slots h file c
  unfolding masks
  masks-length c q = length-tab (first_slot h file c) (cell_slots h file c) (λ i. mask (names r q i) entries 0)

  pub masks-word : (c q f : ℕ) → f < cell_slots h file c → get_or (masks h r c q) f 0 ≡ mask (names r q (first_slot h file c + f)) entries 0
  unfolding masks
  masks-word c q f l = get_or-tab (first_slot h file c) (cell_slots h file c) (λ i. mask (names r q i) entries 0) f 0 l

  abbrev masks_of : ℕ → ℕ → List ℕ
  masks_of c i = masks h r c (first_slot h process c + i)

  rows-begin : (c n : ℕ) → before (masks_of c) n ≡ n * cell_slots h file c
  rows-begin c n = before-even (masks_of c) (cell_slots h file c) n (λ i l. masks-length c (first_slot h process c + i))

  rows-length : (c : ℕ) → length (rows h r c) ≡ cell_slots h process c * cell_slots h file c
  unfolding rows
  rows-length c = joined_length (masks_of c) (cell_slots h process c) ∙ rows-begin c (cell_slots h process c)

  rows-word : (c f i : ℕ) → f < cell_slots h file c → i < cell_slots h process c
      → get_or (rows h r c) (i * cell_slots h file c + f) 0 ≡ mask (names r (first_slot h process c + i) (first_slot h file c + f)) entries 0
  unfolding rows
  rows-word c f i fl il =
      let q : ℕ = first_slot h process c + i in
      rw (← rows-begin c i) (joined_at (masks_of c) (cell_slots h process c) i f il (omega (arith, masks-length c q)) ∙ masks-word c q f fl)

  abbrev all-masks : List ℕ
  all-masks = joined (cells h) (rows h r)

  all-begin : (c : ℕ) → before (rows h r) c ≡ rows_to h c
  unfolding rows_to
  all-begin c = sum_same c (λ c. length (rows h r c)) (λ c. cell_slots h process c * cell_slots h file c) (λ c l. rows-length c)

  all-length : length all-masks ≡ rows_to h (cells h)
  all-length = joined_length (rows h r) (cells h) ∙ all-begin (cells h)

  all-word : (c f i : ℕ) → c < cells h → f < cell_slots h file c → i < cell_slots h process c
      → get_or all-masks (rows_to h c + (i * cell_slots h file c + f)) 0 ≡ mask (names r (first_slot h process c + i) (first_slot h file c + f)) entries 0
  all-word c f i cl fl il =
      let inside = in_row h (cell_slots h file c) i (cell_slots h process c) f il fl in
      rw (← all-begin c) (joined_at (rows h r) (cells h) c (i * cell_slots h file c + f) cl (rw (rows-length c) inside) ∙ rows-word c f i fl il)

  -- ---- the whole

  made-length : length (work_of h r) ≡ rows_at h + rows_to h (cells h)
  unfolding work_of rows_at
  made-length =
      let s : List ℕ = lists h r segment in
      let f : List ℕ = lists h r file in
      omega (
        arith,
        length-append (lists h r process) (s ++ (f ++ all-masks)),
        length-append s (f ++ all-masks),
        length-append f all-masks,
        lists_length process,
        lists_length segment,
        lists_length file,
        all-length,
      )

  -- a word of a kind's lists
  kind-word : (k : Kind) (x : ℕ) → x < runs h k → get_or (work_of h r) (kind_at h k + x) 0 ≡ get_or (lists h r k) x 0
  unfolding work_of
  kind-word process x l =
      ap (λ (i : ℕ). get_or (work_of h r) i 0) (zero-add x)
      ∙ get_or-append (lists h r process) (lists h r segment ++ (lists h r file ++ all-masks)) 0 x (rw (lists_length process) l)
  kind-word segment x l =
      get_d_past (lists h r process) (lists h r segment ++ (lists h r file ++ all-masks)) (runs h process) x (lists_length process)
      ∙ get_or-append (lists h r segment) (lists h r file ++ all-masks) 0 x (rw (lists_length segment) l)
  kind-word file x l =
      ap (λ (i : ℕ). get_or (work_of h r) i 0) (add_assoc (runs h process) (runs h segment) x)
      ∙ get_d_past (lists h r process) (lists h r segment ++ (lists h r file ++ all-masks)) (runs h process) (runs h segment + x) (lists_length process)
      ∙ get_d_past (lists h r segment) (lists h r file ++ all-masks) (runs h segment) x (lists_length segment)
      ∙ get_or-append (lists h r file) all-masks 0 x (rw (lists_length file) l)

  -- a mask
  mark-word : (x : ℕ) → get_or (work_of h r) (rows_at h + x) 0 ≡ get_or all-masks x 0
  unfolding work_of rows_at
  mark-word x =
      let z : runs h process + runs h segment + runs h file + x ≡ runs h process + (runs h segment + (runs h file + x)) = omega arith in
      ap (λ (i : ℕ). get_or (work_of h r) i 0) z
      ∙ get_d_past (lists h r process) (lists h r segment ++ (lists h r file ++ all-masks)) (runs h process) (runs h segment + (runs h file + x)) (lists_length process)
      ∙ get_d_past (lists h r segment) (lists h r file ++ all-masks) (runs h segment) (runs h file + x) (lists_length segment)
      ∙ get_d_past (lists h r file) all-masks (runs h file) x (lists_length file)

  made_word : (k : Kind) (c j : ℕ) → c < cells h → j ≤ cell_slots h k c → get_or (work_of h r) (list_at h k c + j) 0 ≡ get_or (list_of k c) j 0
  unfolding list_at runs
  made_word k c j cl jl =
      let z : kind_at h k + (first_slot h k c + c) + j ≡ kind_at h k + (first_slot h k c + c + j) = omega arith in
      rw z (kind-word k (first_slot h k c + c + j) (omega (arith, run_end h k c cl)) ∙ list-word k c j cl jl)

  pub made-right : Right h r (work_of h r)
  unfolding mark_at rows_to sum_below
  made-right = record {
    size = made-length;
    lists = λ k c l. record {
      fits = fits k c;
      inside = omega (arith, before-rows h k c 0 0 0 l, made-length);
      count = let z : list_at h k c + 0 ≡ list_at h k c = omega arith in rw z at (made_word k c 0 l (omega arith)) ∙ words_count (free_keys h r k c) (cell_slots h k c);
      keys = λ j b. made_word k c (suc j) l (omega arith) ∙ words-key (free_keys h r k c) (cell_slots h k c) j;
    };
    marks = λ c f i cl fl il.
        let z : rows_at h + rows_to h c + (i * cell_slots h file c + f) ≡ rows_at h + (rows_to h c + (i * cell_slots h file c + f)) = omega arith in
        rw z (mark-word (rows_to h c + (i * cell_slots h file c + f)) ∙ all-word c f i cl fl il);
  }

-- ---- a table's slice

module _ (t w : List ℕ) where
  pub same-right : same_words w (work_in t) ≡ true → Right (configuration t) (rd (configuration t) t) w
  unfolding work_in
  same-right e = rw (same-equal w (work_in t) e) (made-right (configuration t) (rd (configuration t) t))

  pub right-same : Right (configuration t) (rd (configuration t) t) w → same_words w (work_in t) ≡ true
  unfolding work_in
  right-same x =
      let e : w ≡ work_in t = right-one (configuration t) (rd (configuration t) t) w (work_in t) x (made-right (configuration t) (rd (configuration t) t)) in
      rw e (same_self (work_in t))
