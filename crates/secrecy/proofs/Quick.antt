-- Demand 3 of quick trays. Each of the two is lent the working slice of its own table, so the two slices may differ; on it a quick tray is a tray (promises/Quick), and
-- what Tray says of trays is so of quick trays: the remaining records get the same answers, their parts hold the same bytes at the end, and the states agree.
use mathlib.Core.Path.{◌≡◌}
use mathlib.Core.Bool.{Bool, true}
use mathlib.Core.List.{List}
use Prim.Native.Nat.{ℕ}
use Rattle.rules.specs.Layout.{configuration, guard}
use Rattle.rules.specs.Errors.{XOK}
use Rattle.rules.specs.Step.{State}
use Rattle.rules.specs.Observer.{Closed, Agree}
use Rattle.rules.specs.Tray.{Record, after_tray}
use Rattle.rules.specs.Work.{work_in}
use Rattle.rules.specs.Quick.{quick_answer, after_quick}
use Rattle.rules.specs.Regrade.{without_refused, guard_within, NamesNone}
use Rattle.rules.specs.TrayRegrade.{calls_in, events_in, AsksNoneIn}
use Rattle.laws.proofs.Written.{AllOf}
use Rattle.kept.proofs.Kept.{Well}
use Rattle.promises.proofs.Tray.{tray-kept}
use Rattle.promises.proofs.Quick.{own-tray, own-work, quick-zero}
use Rattle.secrecy.proofs.Regrades.{NoRegrade}
use Rattle.secrecy.proofs.Tray as trays
use Rattle.secrecy.proofs.Tray.{SameTrays, Premises}

-- a state with the working slice of its table
pub record Lent (s : State) (w : List ℕ) : Type 0 where
  pub formed : Well s
  pub own : w ≡ work_in s.table

-- what a quick tray leaves is such a one again, so trays may follow one another
pub lent_again : (s : State) (w x : List ℕ) (rs : List Record) → Lent s w → Lent (after_quick s w x rs).tray.state (after_quick s w x rs).work
lent_again s w x rs l = record { formed = rw (own-tray s w x rs l.own) (tray-kept s x rs l.formed); own = own-work s w x rs l.own }

module _ (C : ℕ → Bool) (s t : State) (w v : List ℕ) (ls : Lent s w) (lt : Lent t v) (cl : Closed (configuration s.table) C) (a : Agree C s t) (rs qs : List Record)
    (x y : List ℕ) (p : Premises (configuration s.table) C rs qs x y) where
  abbrev h : List ℕ
  h = configuration s.table

  -- what the set sees of the two quick trays is the same
  abbrev pub Same : Type 0
  Same = SameTrays h C rs (after_quick s w x rs).tray (after_quick t v y qs).tray

  -- both run
  pub both_run : (quick_answer s w rs ≡ XOK) × (quick_answer t v qs ≡ XOK)
  both_run = (quick-zero s w x rs ls.own ls.formed p.short, quick-zero t v y qs lt.own lt.formed p.short')

  -- what is so of the two trays is so of the quick ones
  pub as-trays : SameTrays h C rs (after_tray s x rs) (after_tray t y qs) → Same
  as-trays z = rw (own-tray s w x rs ls.own, own-tray t v y qs lt.own) z

  pub two-quick-trays : without_refused (events_in h C s x rs) ≡ without_refused (events_in h C t y qs) → AsksNoneIn h C s x rs → Same
  two-quick-trays told unasked = as-trays (trays.two-trays C s t ls.formed lt.formed cl a rs qs x y p told unasked)

  -- as CR 9 and CR 14 say it
  pub as-asked : events_in h C s x rs ≡ events_in h C t y qs → (guard_within h C ≡ true → NamesNone h C (calls_in rs)) → Same
  as-asked e n = as-trays (trays.as-asked C s t ls.formed lt.formed cl a rs qs x y p e n)

  -- where CR 3's premises are enough: no record of either is a regrade, or there is no guard cell
  pub no-regrades : AllOf NoRegrade (calls_in rs) → AllOf NoRegrade (calls_in qs) → Same
  no-regrades n m = as-trays (trays.no-regrades C s t ls.formed lt.formed cl a rs qs x y p n m)

  pub no-guard : guard h ≡ 0 → Same
  no-guard z = as-trays (trays.no-guard C s t ls.formed lt.formed cl a rs qs x y p z)
