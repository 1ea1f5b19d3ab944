-- The edges that document 01 marks P, under one statement: `edges`, at the end.
use mathlib.Core.Path.{◌≡◌, refl}
use mathlib.Core.Bool.{true, false}
use mathlib.Core.List.{List, [], ◌∷◌, ◌++◌}
use Prim.Native.Nat.{ℕ, ◌<◌, ◌≤◌}
use native.Mathlib.Omega.{arith}
use lib.ListN.{replicate}
use borrow.Author.Tests.{eq-eqb, ne_eqb}
use Rattle.rules.specs.Words.{all_below}
use Rattle.rules.specs.Level.{Level, level, has, within, flows_to}
use Rattle.rules.specs.Layout.{max_serial, Kind, process, file, configuration, at, rd, live, serial}
use Rattle.rules.specs.Seid.{class, seid, class_of, index_of, present}
use Rattle.rules.specs.Modes.{valid_modes}
use Rattle.rules.specs.Rights.{rights, may_read, may_write, access}
use Rattle.rules.specs.Errors.{XOK}
use Rattle.rules.specs.Rule.{◌≔◌, write}
use Rattle.rules.specs.SetUp.{set_up_table}
use Rattle.rules.specs.Step.{State, Call, answer, step, next}
use Rattle.promises.proofs.Opened.{open-table, open-set-up, open-calls, open_step}
use Rattle.laws.proofs.Tests.{refuted, both_ways}
use Rattle.levels.proofs.Flow.{flows-says, flows-when, reflexive}
use Rattle.kept.proofs.Kept.{Well}
use Rattle.promises.proofs.Refusals.{Untouched}
use Rattle.promises.proofs.Stale.{stale-post}
use Rattle.promises.proofs.Posts.{Upward, its-seid, goes-up}
use Rattle.promises.proofs.Single.{creates, worn-passed-over}

-- ---- levels

not-more-secure : (a b : Level) → b.security < a.security → flows_to a b ≡ false
not-more-secure a b l = refuted (flows_to a b) (λ e. omega (arith, (flows-says a b e).secure))

not-less-trusty : (a b : Level) → a.integrity < b.integrity → flows_to a b ≡ false
not-less-trusty a b l = refuted (flows_to a b) (λ e. omega (arith, (flows-says a b e).trusty))

not-outside : (a b : Level) (k : ℕ) → k < 32 → has a.compartments k ≡ true → has b.compartments k ≡ false → flows_to a b ≡ false
not-outside a b k l x y = refuted (flows_to a b) (λ e. both_ways (has b.compartments k) ((flows-says a b e).inside k l x) y)

same-compartments : (a b : Level) → a.security ≤ b.security → b.integrity ≤ a.integrity → a.compartments ≡ b.compartments → flows_to a b ≡ true
same-compartments a b s i c = flows-when a b (record { secure = s; inside = λ k l p. rw c at p; trusty = i })

-- ---- owner bits

owner-none : (u g group : ℕ) → rights u g u group 4 ≡ 0
unfolding rights
owner-none u g group = rw (eq-eqb u u refl)

others-420 : (u g owner group : ℕ) → (u ≡ owner → ⊥) → (g ≡ group → ⊥) → rights u g owner group 420 ≡ 4
unfolding rights
others-420 u g owner group x y = rw (ne_eqb u owner x, ne_eqb g group y)

-- ---- slots

-- one cell of one process and two file slots; the serial of the first file slot is 65535, that of the second 0
abbrev pub two-slots : List ℕ
two-slots = (1 ∷ 1 ∷ 0 ∷ 2 ∷ 1 ∷ 0 ∷ 0 ∷ 0 ∷ []) ++ (0 ∷ 0 ∷ 0 ∷ 1 ∷ 0 ∷ 2 ∷ 0 ∷ 0 ∷ [])

abbrev pub first-worn : State
first-worn = record {
  table = write two-slots (set_up_table (two-slots ++ replicate 130 0) 1024) ((at file 0 serial ≔ max_serial) ∷ []);
  store = replicate 1024 0;
}

-- the process creates a file, bits 420, to read and write
abbrev pub creation : Call
creation = record { caller = 0; code = 7; a = 420; b = 3; c = 0; buffer = [] }

-- the second slot is taken, and the first stays as it is
second-taken : ((step first-worn creation).answered ≡ answer XOK (seid (class file) 1 1) 0)
    × (rd two-slots (next first-worn creation).table (at file 0 live) ≡ 0) × (rd two-slots (next first-worn creation).table (at file 0 serial) ≡ max_serial)
unfolding open-table open-set-up open-calls open_step
second-taken = (refl, refl, refl)

-- ---- a post up

-- a post from one cell up to another, to a seid in form whose slot is not live with its serial
abbrev pub AbsentAbove : State → Call → Type 0
AbsentAbove s k = Upward s k × (present (rd (configuration s.table) s.table) process k.a ≡ false)

-- XOK, and nothing changed
abbrev pub OnlyXOK : State → Call → Type 0
OnlyXOK s k = ((step s k).answered.error ≡ XOK) × Untouched s k (step s k)

dropped-above : (s : State) (k : Call) → AbsentAbove s k → OnlyXOK s k
dropped-above s k x = (goes-up s k x.0, (stale-post s k x.0.is-post (rw (its-seid s k x.0) x.1)).1)

-- ---- all of them

pub record Edges : Type 0 where
  -- "security 1 flows to 3, not back"
  pub security-up : (i c : ℕ) → flows_to (level 1 i c) (level 3 i c) ≡ true
  pub security-back : (i c : ℕ) → flows_to (level 3 i c) (level 1 i c) ≡ false
  -- "integrity 5 to 3, not back"
  pub integrity-down : (s c : ℕ) → flows_to (level s 5 c) (level s 3 c) ≡ true
  pub integrity-back : (s c : ℕ) → flows_to (level s 3 c) (level s 5 c) ≡ false
  -- "one extra compartment forbids": one that a has and b has not; so compartments 0 and 1 do not flow to 0 alone, though back they do
  pub extra-compartment : (a b : Level) (k : ℕ) → k < 32 → has a.compartments k ≡ true → has b.compartments k ≡ false → flows_to a b ≡ false
  pub extra-forbids : flows_to (level 1 5 3) (level 1 5 1) ≡ false
  pub fewer-flows : flows_to (level 1 5 1) (level 1 5 3) ≡ true
  -- "equal flows"
  pub equal : (a : Level) → flows_to a a ≡ true
  -- "process 3 serial 7 is 67305479"
  pub a-seid : seid (class process) 3 7 ≡ 67305479
  -- "bits 4 give the owner nothing": whatever the groups
  pub owner-read : (u g group : ℕ) → may_read (rights u g u group 4) ≡ false
  pub owner-write : (u g group : ℕ) → may_write (rights u g u group 4) ≡ false
  -- "bits 420 give others 256": those who are neither the owner nor of the group
  pub others : (u g owner group : ℕ) → (u ≡ owner → ⊥) → (g ≡ group → ⊥)
      → access (may_read (rights u g owner group 420)) (may_write (rights u g owner group 420)) ≡ 256
  -- "modes 9 invalid, 11 valid"
  pub modes-9 : valid_modes 9 ≡ false
  pub modes-11 : valid_modes 11 ≡ true
  -- "free serial 65535 is passed over": the slot that a creating call takes never has it; and where the first of two slots has, the second is taken
  pub worn : (s : State) (k : Call) → Well s → creates k.code ≡ true → (step s k).answered.error ≡ XOK → (j : Kind) (i : ℕ)
      → rd (configuration s.table) s.table (at j i serial) ≡ 65535 → class_of (step s k).answered.first ≡ class j
      → index_of (step s k).answered.first ≡ i → ⊥
  pub passed_over : (step first-worn creation).answered ≡ answer XOK (seid (class file) 1 1) 0
  -- "post up to an absent process is XOK with nothing changed"
  pub post-up : (s : State) (k : Call) → AbsentAbove s k → OnlyXOK s k

pub edges : Edges
unfolding seid may_read may_write access valid_modes flows_to within all_below
edges = record {
  security-up = λ i c. same-compartments (level 1 i c) (level 3 i c) (omega arith) (omega arith) refl;
  security-back = λ i c. not-more-secure (level 3 i c) (level 1 i c) (omega arith);
  integrity-down = λ s c. same-compartments (level s 5 c) (level s 3 c) (omega arith) (omega arith) refl;
  integrity-back = λ s c. not-less-trusty (level s 3 c) (level s 5 c) (omega arith);
  extra-compartment = not-outside;
  extra-forbids = refl;
  fewer-flows = refl;
  equal = reflexive;
  a-seid = refl;
  owner-read = λ u g group. rw (owner-none u g group);
  owner-write = λ u g group. rw (owner-none u g group);
  others = λ u g owner group x y. rw (others-420 u g owner group x y);
  modes-9 = refl;
  modes-11 = refl;
  worn = worn-passed-over;
  passed_over = second-taken.0;
  post-up = dropped-above;
}
