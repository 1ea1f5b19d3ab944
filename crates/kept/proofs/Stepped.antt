-- What one call leaves of a well-formed table and store.
use mathlib.Core.Path.{◌≡◌, refl, sym, ◌∙◌}
use mathlib.Core.Bool.{false, not}
use mathlib.Core.List.{List, ◌∷◌}
use Prim.Native.Nat.{ℕ, ◌≤◌, ◌<◌}
use native.Mathlib.Omega.{arith}
use lib.Dec.{eqb, leb}
use lib.ListN.{length}
use borrow.Author.Tests.{eqb-true, leb-false}
use Rattle.rules.specs.Claim.{Holds, test}
use Rattle.rules.specs.Layout.{Kind, process, slots, configuration, Addr, at, Valid, rd, live, serial}
use Rattle.rules.specs.WellFormed.{lengths_exact, records_ok, well_formed}
use Rattle.rules.specs.Errors.{XbTab, XbPrSd, XbdKcl}
use Rattle.rules.specs.Rule.{Refusal, ◌⇒◌, Rule, first_refusal, Word, Bytes, write, store, over}
use Rattle.rules.specs.Step.{State, Call, Outcome, bad_caller, bad_code, rule_of, whole_rule, carried_out, step}
use Rattle.laws.proofs.Tests.{passed, or_left, or_right, cond_both, cond-false}
use Rattle.laws.proofs.Claims.{tested}
use Rattle.laws.proofs.Shape.{Good, good_of, words-some}
use Rattle.laws.proofs.Stored.{length-store}
use Rattle.laws.proofs.Written.{rd-write, conf-write, length-write}
use Rattle.kept.proofs.Fine.{Fine, fine_of, fine-holds}
use Rattle.laws.proofs.Refusals.{clear_first, never}
use Rattle.kept.proofs.Readings.{same-fine}
use Rattle.kept.proofs.Keeps.{Keeps, Caller}
use Rattle.kept.proofs.Calls

-- the next state, beside the state before
pub record After (t : List ℕ) (s : State) : Type 0 where
  pub well : Holds (well_formed s.table (length s.store))
  pub same-configuration : configuration s.table ≡ configuration t
  pub serials : (k : Kind) (i : ℕ) → i < slots (configuration t) k
      → rd (configuration t) t (at k i serial) ≤ rd (configuration t) s.table (at k i serial)

-- words and bytes written into a well-formed state
module _ (s : State) (w : Holds (well_formed s.table (length s.store))) where
  abbrev conf : List ℕ
  conf = configuration s.table

  abbrev reading : Addr → ℕ
  reading = rd (configuration s.table) s.table

  good : Good s.table (length s.store)
  good = good_of s.table (length s.store) w

  all-fine : Fine conf reading
  all-fine = fine_of conf reading good.records

  assembled : (t : List ℕ) (m : ℕ) → configuration t ≡ conf → length t ≡ length s.table → m ≡ length s.store → Holds (records_ok conf (rd conf t))
      → Holds (well_formed t m)
  unfolding well_formed lengths_exact
  assembled t m c l n x = rw (c, l, n) (w.0, (w.1.0, x))

  written : (ws : List Word) (bs : List Bytes) → Keeps conf reading ws
      → After s.table (record { table = write conf s.table ws; store = store conf s.store bs })
  written ws bs k =
      let reads : (a : Addr) → Valid conf a → rd conf (write conf s.table ws) a ≡ over reading ws a = rd-write conf s.table k.valid good.words in
      record {
        well = assembled (write conf s.table ws) (length (store conf s.store bs)) (conf-write conf s.table ws refl) (length-write conf s.table ws)
            (length-store conf s.store bs) (fine-holds conf (rd conf (write conf s.table ws))
            (same-fine conf (over reading ws) (rd conf (write conf s.table ws)) reads k.fine));
        same-configuration = conf-write conf s.table ws refl;
        serials = λ g i l. rw (reads (at g i serial) (l, omega (arith, words-some g))) (k.grown g i l);
      }

  unchanged : After s.table s
  unchanged = record { well = w; same-configuration = refl; serials = λ k i l. omega arith }

  -- a caller that is not refused
  pub caller : (p : ℕ) → bad_caller conf reading p ≡ false → Caller conf reading p
  unfolding bad_caller
  caller p e = record {
    shape = good.shape;
    fine = all-fine;
    in-range = leb-false (slots conf process) p (or_left (leb (slots conf process) p) (not (eqb (reading (at process p live)) 1)) e);
    alive = eqb-true _ 1 (passed _ (or_right (leb (slots conf process) p) (not (eqb (reading (at process p live)) 1)) e));
  }

  module _ (k : Call) where
    abbrev own : Rule
    own = rule_of conf reading s.store k

    abbrev after_table : List Refusal
    after_table = (bad_caller conf reading k.caller ⇒ XbPrSd) ∷ (bad_code k.code ⇒ XbdKcl) ∷ own.refusals

    abbrev bad-table : Refusal
    bad-table = not (test (well_formed s.table (length s.store))) ⇒ XbTab

    pub after : After s.table (step s k).state
    unfolding step carried_out whole_rule
    after = cond_both (λ (o : Outcome). After s.table o.state) (eqb (first_refusal (bad-table ∷ after_table)) 0) _ _
        (λ e. let a = clear_first bad-table after_table (omega arith) (eqb-true _ 0 e) in
        let b = clear_first (bad_caller conf reading k.caller ⇒ XbPrSd) ((bad_code k.code ⇒ XbdKcl) ∷ own.refusals) (omega arith) a.1 in
        let c = clear_first (bad_code k.code ⇒ XbdKcl) own.refusals (omega arith) b.1 in
        written own.effects.words own.effects.bytes (Calls.keeps conf reading s.store k (caller k.caller b.0) c.1))
        (λ e. unchanged)

    pub not-refused : (step s k).answered.error ≡ XbTab → ⊥
    unfolding step carried_out whole_rule
    not-refused =
        let good-table : not (test (well_formed s.table (length s.store))) ≡ false = rw (tested (well_formed s.table (length s.store)) w) in
        cond_both (λ (o : Outcome). o.answered.error ≡ XbTab → ⊥) (eqb (first_refusal (bad-table ∷ after_table)) 0) _ _
        (λ e q. omega arith)
        (λ e q. never XbTab after_table (omega arith) (Calls.numbers conf reading s.store k)
        (sym (cond-false bad-table.test XbTab (first_refusal after_table) good-table) ∙ q))
