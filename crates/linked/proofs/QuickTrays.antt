-- Demand 3 of quick trays through the exported `monitor_quick_tray`.
--
-- As Trays has it of `monitor_tray`: two quick trays, of each of which its contract is known and nothing else (`DoneQuick`), each on a well-formed table and store, and lent
-- the working slice of its own table. Then both answer 0, the set of cells sees the same of what they leave, and each leaves the working slice of the table that it leaves.
-- It follows from the contract and from crates/secrecy/proofs/Quick.
use mathlib.Core.Path.{◌≡◌, refl, sym, ap, ◌∙◌}
use mathlib.Core.Bool.{Bool, true}
use mathlib.Core.List.{List}
use Prim.Native.Nat.{ℕ}
use seplogic.Ra.Ura.{Ura}
use base.Logic.{SProp}
use prog.Memory.{Memory}
use prog.Routine.{Routine}
use types.Logic.{Logic}
use contract.Lifetimes.{Lfts}
use contract.Monad.{Fun, fact}
use denote.Triple.Entry.{Args, Res}
use denote.Triple.Clauses.{Lasts, at_exit}
use Rattle.rules.specs.Layout.{configuration, guard}
use Rattle.rules.specs.Errors.{XOK}
use Rattle.rules.specs.Step.{State}
use Rattle.rules.specs.Observer.{Closed, Agree}
use Rattle.rules.specs.Regrade.{without_refused, guard_within, NamesNone}
use Rattle.rules.specs.Tray as rules
use Rattle.rules.specs.Tray.{Tray, left}
use Rattle.rules.specs.TrayRegrade.{calls_in, events_in, AsksNoneIn}
use Rattle.rules.specs.Work.{work_in}
use Rattle.rules.specs.Quick.{after_quick}
use Rattle.laws.proofs.Written.{AllOf}
use Rattle.promises.proofs.Quick.{own-work}
use Rattle.secrecy.proofs.Regrades.{NoRegrade}
use Rattle.secrecy.proofs.Tray.{Premises, SameTrays}
use Rattle.secrecy.proofs.Quick as secrecy
use Rattle.secrecy.proofs.Quick.{Lent}
use Rattle.calls.specs.Did.{state_of}
use Rattle.calls.specs.Tray.{rule_records}
use Rattle.calls.specs.Quick.{QuickTrayed}
use Rattle.monitor.specs.contracts.monitor_quick_tray.{signature, ended, clauses}
use Rattle.linked.proofs.Trays.{same-trays}

-- one quick tray: what the function is lent, what it answers, and what it leaves of each slice, as its contract allows
pub record DoneQuick : Type 0 where
  pub lifetimes : Lfts 5
  pub lent : Args signature lifetimes
  pub answer : Res signature lifetimes
  pub last : Lasts ended lifetimes lent
  pub allowed : QuickTrayed (state_of lent.0.now lent.1.0.now) lent.1.1.1.0.now lent.1.1.1.1.0.now lent.1.1.0.now answer last.0 last.1.0
      last.1.1.1.0 last.1.1.0 last.1.1.1.1.0

module _ (d : DoneQuick) where
  -- the state that it finds, the records, the bytes and the working slice
  abbrev pub found : State
  found = state_of d.lent.0.now d.lent.1.0.now

  abbrev pub tray : List rules.Record
  tray = rule_records d.lent.1.1.0.now

  abbrev pub bytes : List ℕ
  bytes = d.lent.1.1.1.0.now

  abbrev pub work : List ℕ
  work = d.lent.1.1.1.1.0.now

  -- what it leaves of them
  abbrev pub leaves : Tray
  leaves = left (state_of d.last.0 d.last.1.0) d.last.1.1.1.0 (rule_records d.last.1.1.0)

  abbrev pub leaves-work : List ℕ
  leaves-work = d.last.1.1.1.1.0

  -- that is what the rules' quick tray leaves
  pub leaves-is : leaves ≡ (after_quick found work bytes tray).tray
  leaves-is = λ i. left (state_of (d.allowed.table i) (d.allowed.store i)) (d.allowed.bytes i) (d.allowed.records i)

  -- and what is allowed is what the contract in the source says, word for word
  pub says : {M : Type 1} {𝓤 : Ura M} (𝓛 : Logic 𝓤) (mem : Memory → SProp 𝓤) (rn : Routine → Fun 𝓤)
      → (clauses 𝓛 mem rn d.lifetimes d.lent).ensures tt d.answer (at_exit ended d.lifetimes d.lent d.last)
      ≡ fact 𝓤 (QuickTrayed found bytes work d.lent.1.1.0.now d.answer d.last.0 d.last.1.0 d.last.1.1.1.0 d.last.1.1.0 leaves-work)
  says 𝓛 mem rn = refl

  -- lent its table's working slice, it leaves that of the table that it leaves
  pub work-right : work ≡ work_in found.table → leaves-work ≡ work_in leaves.state.table
  work-right own = d.allowed.work ∙ own-work found work bytes tray own ∙ ap (λ (x : Tray). work_in x.state.table) (sym leaves-is)

-- both answer 0, the set sees the same of what they leave, and each leaves its table's working slice
abbrev pub Same : (C : ℕ → Bool) (d e : DoneQuick) → Type 0
Same C d e =
    (d.answer ≡ XOK) × (e.answer ≡ XOK) × SameTrays (configuration (found d).table) C (tray d) (leaves d) (leaves e)
    × (leaves-work d ≡ work_in (leaves d).state.table) × (leaves-work e ≡ work_in (leaves e).state.table)

module _ (C : ℕ → Bool) (d e : DoneQuick) (ld : Lent (found d) (work d)) (le : Lent (found e) (work e)) (cl : Closed (configuration (found d).table) C)
    (a : Agree C (found d) (found e)) (p : Premises (configuration (found d).table) C (tray d) (tray e) (bytes d) (bytes e)) where
  abbrev h : List ℕ
  h = configuration (found d).table

  -- what is so of the rules' quick trays is so of these
  carried : SameTrays h C (tray d) (after_quick (found d) (work d) (bytes d) (tray d)).tray (after_quick (found e) (work e) (bytes e) (tray e)).tray → Same C d e
  carried x =
      let run = secrecy.both_run C (found d) (found e) (work d) (work e) ld le cl a (tray d) (tray e) (bytes d) (bytes e) p in (
        d.allowed.answer ∙ run.0,
        e.allowed.answer ∙ run.1,
        same-trays h C (tray d) (leaves d) (leaves e) _ _ (leaves-is d) (leaves-is e) x,
        work-right d ld.own,
        work-right e le.own,
      )

  pub two-quick-trays : without_refused (events_in h C (found d) (bytes d) (tray d)) ≡ without_refused (events_in h C (found e) (bytes e) (tray e))
      → AsksNoneIn h C (found d) (bytes d) (tray d) → Same C d e
  two-quick-trays told unasked = carried (secrecy.two-quick-trays C (found d) (found e) (work d) (work e) ld le cl a (tray d) (tray e) (bytes d) (bytes e) p told unasked)

  -- as CR 9 and CR 14 say it
  pub as-asked : events_in h C (found d) (bytes d) (tray d) ≡ events_in h C (found e) (bytes e) (tray e) → (guard_within h C ≡ true → NamesNone h C (calls_in (tray d)))
      → Same C d e
  as-asked told unasked = carried (secrecy.as-asked C (found d) (found e) (work d) (work e) ld le cl a (tray d) (tray e) (bytes d) (bytes e) p told unasked)

  -- where no record is a regrade, or where there is no guard cell
  pub no-regrades : AllOf NoRegrade (calls_in (tray d)) → AllOf NoRegrade (calls_in (tray e)) → Same C d e
  no-regrades n m = carried (secrecy.no-regrades C (found d) (found e) (work d) (work e) ld le cl a (tray d) (tray e) (bytes d) (bytes e) p n m)

  pub no-guard : guard h ≡ 0 → Same C d e
  no-guard z = carried (secrecy.no-guard C (found d) (found e) (work d) (work e) ld le cl a (tray d) (tray e) (bytes d) (bytes e) p z)
