-- The loop over the records of a tray, on plain values: what holds when i of n records are run, that a turn keeps it, and what it comes to at the end.
use mathlib.Core.Bool.{Bool, true, false, cond}
use mathlib.Core.List.{List, [], ◌∷◌, ◌++◌, append-nil, map-append}
use mathlib.Core.Path.{◌≡◌, refl, sym, ap, ap₂, ◌∙◌}
use Prim.Native.Nat.{ℕ, ◌+◌, ◌-◌, ◌<◌, ◌≤◌}
use native.Mathlib.Nat.{add-zero}
use native.Mathlib.Numerals.{add-one}
use native.Mathlib.Omega.{arith}
use mathlib.Core.Logic.{◌⊎◌, inl, inr}
use borrow.Author.Tests.{ltb-true, ltb-false, eqb-true}
use lib.Dec.{ltb, eqb}
use mathlib.Core.WellFounded.InvImage
use mathlib.Core.WellFounded.{WellFounded}
use lib.WfN.{lt-wf_rel}
use lib.ListN.{length, get_or, set, take, drop, length-set, length-map, drop_of_length-le}
use lib.Seq.{take_all, drop-cons, length-take-le, get_or-take, get_or-drop, drop-set-lt, drop-drop, take-suc-set, append_snoc}
use Rattle.rules.specs.Errors.{XOK}
use Rattle.rules.specs.Tray as rules
use Rattle.rules.specs.Tray.{Tray, left, behind, in_order, tray_answer, after_tray}
use Rattle.laws.proofs.Tests.{cond-true, cond-false, split}
use Rattle.layout.specs.Hall.{matrix_in}
use Rattle.calls.specs.declared.Record.{Record}
use Rattle.calls.specs.Left.{said}
use Rattle.calls.specs.Did.{state_of}
use Rattle.calls.specs.Tray.{rule_record, rule_records, Ran, Ready, Trayed, begun, verdict_of}
use Rattle.calls.proofs.TrayLaws.{verdict-is, ready-if, ready-kept}

-- what stands past the last record
abbrev pub no_record : Record
no_record = record { caller = 0; code = 0; a = 0; b = 0; c = 0; offset = 0; length = 0; answer = said 0 0 0 }

-- a tray whose first records are run
abbrev ahead : List rules.Record → Tray → Tray
ahead ds x = left x.state x.bytes (ds ++ x.records)

-- of the first n records i are run: t, s and b are the table, the store and the bytes then, and zs the records. Where any are left to run, the table is ready
pub record Going (t₀ s₀ b₀ : List ℕ) (rs : List Record) (m : List (List Bool)) (hall : List ℕ) (n i : ℕ) (t s b : List ℕ) (zs : List Record) : Type 0 where
  pub within : i ≤ n
  pub enough : n ≤ length rs
  pub ready : i < n → Ready t s m hall
  pub table-long : length t ≡ length t₀
  pub store_long : length s ≡ length s₀
  pub bytes-long : length b ≡ length b₀
  pub long : length zs ≡ length rs
  pub rest : drop i zs ≡ drop i rs
  pub whole : in_order (state_of t₀ s₀) b₀ (rule_records (take n rs)) ≡ ahead (rule_records (take i zs)) (in_order (state_of t s) b (rule_records (drop i (take n rs))))

module _ (t₀ s₀ b₀ : List ℕ) (rs : List Record) (m : List (List Bool)) (hall : List ℕ) (n : ℕ) where
  pub start : n ≤ length rs → (0 < n → Ready t₀ s₀ m hall) → Going t₀ s₀ b₀ rs m hall n 0 t₀ s₀ b₀ rs
  start h r =
      record { within = omega arith; enough = h; ready = r; table-long = refl; store_long = refl; bytes-long = refl; long = refl; rest = refl; whole = refl }

  module _ (i : ℕ) (t s b : List ℕ) (zs : List Record) (g : Going t₀ s₀ b₀ rs m hall n i t s b zs) (d : Record) where
    abbrev later : List Record
    later = drop (i + 1) (take n rs)

    here : i < n → drop i (take n rs) ≡ get_or zs i d ∷ later
    here h =
        let e = g.enough in
        let l : length (take n rs) ≡ n = length-take-le n rs e in
        drop-cons (take n rs) i d (omega arith)
        ∙ ap₂ (λ (r : Record) (k : ℕ). r ∷ drop k (take n rs))
        (get_or-take n rs i d h ∙ sym (same rs) ∙ ap (λ (l : List Record). get_or l 0 d) (sym g.rest) ∙ same zs)
        (sym (add-one i))
      where
        same : (l : List Record) → get_or (drop i l) 0 d ≡ get_or l i d
        same l = get_or-drop i l 0 d ∙ ap (λ (k : ℕ). get_or l k d) (add-zero i)

    module _ (y : Record) (t' s' b' : List ℕ) (h : i < n) (ran : Ran (state_of t s) b (get_or zs i d) y t' s' b') where
      abbrev after : Tray
      after = in_order (state_of t' s') b' (rule_records later)

      stepped : in_order (state_of t s) b (rule_records (drop i (take n rs))) ≡ behind (rule_record y) after
      unfolding in_order
      stepped =
          ap (λ (l : List Record). in_order (state_of t s) b (rule_records l)) (here h)
          ∙ (λ j. behind (sym ran.answered j) (in_order (state_of (sym ran.table j) (sym ran.store j)) (sym ran.bytes j) (rule_records later)))

      pub more : length t' ≡ length t → length s' ≡ length s → length b' ≡ length b → Going t₀ s₀ b₀ rs m hall n (i + 1) t' s' b' (set zs i y)
      more lt ls lb =
          let l = g.long in
          let e = g.enough in
          let w = g.within in
          let done : rule_records (take i zs) ++ (rule_record y ∷ []) ≡ rule_records (take (i + 1) (set zs i y)) =
          sym (map-append rule_record (take i zs) (y ∷ [])) ∙ ap rule_records (sym (take-suc-set zs i y (omega arith)) ∙ ap (λ (k : ℕ). take k (set zs i y)) (sym (add-one i))) in
          record {
            within = omega arith;
            enough = e;
            ready = λ _. ready-kept t s b m hall (get_or zs i d) y t' s' b' (g.ready h) ran;
            table-long = lt ∙ g.table-long;
            store_long = ls ∙ g.store_long;
            bytes-long = lb ∙ g.bytes-long;
            long = length-set zs i y ∙ l;
            rest = drop-set-lt (i + 1) zs i y (omega arith) ∙ sym (drop-drop 1 i zs) ∙ ap (drop 1) g.rest ∙ drop-drop 1 i rs;
            whole =
                g.whole ∙ ap (ahead (rule_records (take i zs))) stepped
                ∙ ap (left after.state after.bytes) (sym (append_snoc (rule_records (take i zs)) (rule_record y) after.records))
                ∙ ap (λ (l : List rules.Record). ahead l after) done;
          }

    module _ (h : n ≤ i) where
      nothing_left : in_order (state_of t s) b (rule_records (drop i (take n rs))) ≡ left (state_of t s) b []
      unfolding in_order
      nothing_left =
          let e = g.enough in
          let l : length (take n rs) ≡ n = length-take-le n rs e in
          ap (λ (l : List Record). in_order (state_of t s) b (rule_records l)) (drop_of_length-le (take n rs) {i = i} (omega arith))

      pub all-run : n ≡ length rs → in_order (state_of t₀ s₀) b₀ (rule_records rs) ≡ left (state_of t s) b (rule_records zs)
      all-run e =
          let l = g.long in
          let all : take n rs ≡ rs = take_all n rs (omega arith) in
          ap (λ (l : List Record). in_order (state_of t₀ s₀) b₀ (rule_records l)) (sym all) ∙ g.whole ∙ ap (ahead (rule_records (take i zs))) nothing_left
          ∙ ap (left (state_of t s) b) (append-nil (rule_records (take i zs)) ∙ ap rule_records (take_all i zs (omega arith)))

      pub none-run : n ≡ 0 → left (state_of t₀ s₀) b₀ (rule_records rs) ≡ left (state_of t s) b (rule_records zs)
      unfolding in_order
      none-run e =
          let w = g.within in
          let z : i ≡ 0 = omega arith in
          let none : in_order (state_of t₀ s₀) b₀ (rule_records (take n rs)) ≡ left (state_of t₀ s₀) b₀ [] =
          ap (λ (k : ℕ). in_order (state_of t₀ s₀) b₀ (rule_records (take k rs))) e in
          let same : left (state_of t₀ s₀) b₀ [] ≡ ahead (rule_records (take i zs)) (left (state_of t s) b []) =
          sym none ∙ g.whole ∙ ap (ahead (rule_records (take i zs))) nothing_left in
          let records : rs ≡ zs = sym (ap (λ (k : ℕ). drop k zs) (sym z) ∙ g.rest ∙ ap (λ (k : ℕ). drop k rs) z) in
          λ k. left (same k).state (same k).bytes (rule_records (records k))

      -- the tray's definition by its test
      tray-is : (c : Bool) → eqb (tray_answer (state_of t₀ s₀) (rule_records rs)) XOK ≡ c → n ≡ cond c (length rs) 0
          → after_tray (state_of t₀ s₀) b₀ (rule_records rs) ≡ left (state_of t s) b (rule_records zs)
      unfolding after_tray
      tray-is true e f = cond-true (eqb (tray_answer (state_of t₀ s₀) (rule_records rs)) XOK) _ _ e ∙ all-run f
      tray-is false e f = cond-false (eqb (tray_answer (state_of t₀ s₀) (rule_records rs)) XOK) _ _ e ∙ none-run f

      pub ends : (v : ℕ) → v ≡ tray_answer (state_of t₀ s₀) (rule_records rs) → n ≡ cond (eqb v 0) (length rs) 0 → Trayed (state_of t₀ s₀) b₀ rs v t s b zs
      ends v f e =
          let x = tray-is (eqb (tray_answer (state_of t₀ s₀) (rule_records rs)) XOK) refl (e ∙ ap (λ (z : ℕ). cond (eqb z 0) (length rs) 0) f) in
          record {
            answer = f;
            table = sym (ap (λ (a : Tray). a.state.table) x);
            store = sym (ap (λ (a : Tray). a.state.store) x);
            bytes = sym (ap (λ (a : Tray). a.bytes) x);
            records = sym (ap (λ (a : Tray). a.records) x);
          }

-- what is due is not more than there is
pub due-fits : (b : Bool) (n k : ℕ) → n ≡ cond b k 0 → n ≤ k
due-fits true n k e = omega arith
due-fits false n k e = omega arith

-- where anything is due, the verdict is 0
pub good-if-due : (v n k : ℕ) → n ≡ cond (eqb v 0) k 0 → 0 < n → v ≡ 0
good-if-due v n k e l = split _ (eqb v 0) (eqb-true v 0) (λ z. absurd (let f : n ≡ 0 = e ∙ cond-false (eqb v 0) k 0 z in omega arith))

-- what the judging came to: the answer is the rules', and where anything is due the table is ready
module _ (t s : List ℕ) (rs : List Record) (hall : List ℕ) (he : hall ≡ begun t (length s) (length rs)) (v : ℕ) (ve : v ≡ verdict_of hall (length rs)) where
  pub answer-is : v ≡ tray_answer (state_of t s) (rule_records rs)
  answer-is =
      ve ∙ ap (λ (x : List ℕ). verdict_of x (length rs)) he
      ∙ ap (λ (k : ℕ). verdict_of (begun t (length s) k) k) (sym (length-map rs rule_record)) ∙ verdict-is t s (rule_records rs)

  module _ (m : List (List Bool)) (me : m ≡ matrix_in hall) where
    ready-here : v ≡ 0 → Ready t s m hall
    ready-here e =
        let r = ready-if t s (length rs) (sym (ap (λ (x : List ℕ). verdict_of x (length rs)) he) ∙ sym ve ∙ e) in
        record { good = r.good; handed = record { matrix = me ∙ ap matrix_in he ∙ r.handed.matrix; told = he ∙ r.handed.told } }

    pub ready-if-due : (n : ℕ) → n ≡ cond (eqb v 0) (length rs) 0 → 0 < n → Ready t s m hall
    ready-if-due n e l = ready-here (good-if-due v n (length rs) e l)

-- a turn, as the loop's variant has it: how far it is, the state, the bytes and the records, and that it goes on
pub record Turn (t₀ s₀ b₀ : List ℕ) (rs : List Record) (m : List (List Bool)) (hall : List ℕ) (n : ℕ) : Type 0 where
  pub i : ℕ
  pub t : List ℕ
  pub s : List ℕ
  pub b : List ℕ
  pub zs : List Record
  pub going : Going t₀ s₀ b₀ rs m hall n i t s b zs

module _ (t₀ s₀ b₀ : List ℕ) (rs : List Record) (m : List (List Bool)) (hall : List ℕ) (n : ℕ) where
  abbrev pub remaining : Turn t₀ s₀ b₀ rs m hall n → ℕ
  remaining x = n - x.i

  abbrev pub Less : Turn t₀ s₀ b₀ rs m hall n → Turn t₀ s₀ b₀ rs m hall n → Type 0
  Less x' x = remaining x' < remaining x

  pub less-ends : WellFounded Less
  less-ends = InvImage.wf remaining lt-wf_rel.wf

-- a number is below another, or it is not
pub below_or_not : (k n : ℕ) → (k < n) ⊎ (n ≤ k)
below_or_not k n = by-test (ltb k n) refl
  where
    by-test : (b : Bool) → ltb k n ≡ b → (k < n) ⊎ (n ≤ k)
    by-test true e = inl (ltb-true k n e)
    by-test false e = inr (ltb-false k n e)
