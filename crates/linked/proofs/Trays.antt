-- Demand 3 of trays through the exported `monitor_tray`.
--
-- Two trays are handed to it, each on a well-formed table and store and with a byte slice of its own (`DoneTray`: of each its contract is known, and nothing else). C is a
-- set of cells that holds with each cell every cell flowing to it, the two states agree on all that the set may see, and 02's premises hold of the two trays. Then
-- both answer 0, the records of callers in the set got the same answers, their parts hold the same bytes, and the tables and stores agree. It follows from the
-- contract and from crates/secrecy/proofs/Tray. Of regrades the premise is CR 9's, as there: of the records that each tray was lent, on the state and the bytes that it found.
use mathlib.Core.Path.{◌≡◌, refl, ◌∙◌}
use mathlib.Core.Bool.{Bool, true}
use mathlib.Core.List.{List}
use Prim.Native.Nat.{ℕ}
use seplogic.Ra.Ura.{Ura}
use base.Logic.{SProp}
use prog.Memory.{Memory}
use prog.Routine.{Routine}
use types.Logic.{Logic}
use contract.Lifetimes.{Lfts}
use contract.Monad.{Fun, fact}
use denote.Triple.Entry.{Args, Res}
use denote.Triple.Clauses.{Lasts, at_exit}
use Rattle.rules.specs.Layout.{configuration, guard}
use Rattle.rules.specs.Errors.{XOK}
use Rattle.rules.specs.Step.{State}
use Rattle.rules.specs.Observer.{Closed, Agree}
use Rattle.rules.specs.Regrade.{without_refused, guard_within, NamesNone}
use Rattle.rules.specs.Tray as rules
use Rattle.rules.specs.Tray.{Tray, left, after_tray}
use Rattle.rules.specs.TrayRegrade.{calls_in, events_in, AsksNoneIn}
use Rattle.laws.proofs.Written.{AllOf}
use Rattle.kept.proofs.Kept.{Well}
use Rattle.promises.proofs.Tray.{answers-zero}
use Rattle.secrecy.proofs.Regrades.{NoRegrade}
use Rattle.secrecy.proofs.Tray as secrecy
use Rattle.secrecy.proofs.Tray.{Premises, SameTrays}
use Rattle.calls.specs.Did.{state_of}
use Rattle.calls.specs.Tray.{rule_records, Trayed}
use Rattle.monitor.specs.contracts.monitor_tray.{signature, ended, clauses}

-- one tray: what the function is lent, what it answers, and what it leaves of each slice, as its contract allows
pub record DoneTray : Type 0 where
  pub lifetimes : Lfts 4
  pub lent : Args signature lifetimes
  pub answer : Res signature lifetimes
  pub last : Lasts ended lifetimes lent
  pub allowed : Trayed (state_of lent.0.now lent.1.0.now) lent.1.1.1.0.now lent.1.1.0.now answer last.0 last.1.0 last.1.1.1.0 last.1.1.0

module _ (d : DoneTray) where
  -- the state that it finds, the records and the bytes
  abbrev pub found : State
  found = state_of d.lent.0.now d.lent.1.0.now

  abbrev pub tray : List rules.Record
  tray = rule_records d.lent.1.1.0.now

  abbrev pub bytes : List ℕ
  bytes = d.lent.1.1.1.0.now

  -- what it leaves of them
  abbrev pub leaves : Tray
  leaves = left (state_of d.last.0 d.last.1.0) d.last.1.1.1.0 (rule_records d.last.1.1.0)

  -- that is what the rules' tray leaves
  pub leaves-is : leaves ≡ after_tray found bytes tray
  leaves-is = λ i. left (state_of (d.allowed.table i) (d.allowed.store i)) (d.allowed.bytes i) (d.allowed.records i)

  -- and what is allowed is what the contract in the source says, word for word
  pub says : {M : Type 1} {𝓤 : Ura M} (𝓛 : Logic 𝓤) (mem : Memory → SProp 𝓤) (rn : Routine → Fun 𝓤)
      → (clauses 𝓛 mem rn d.lifetimes d.lent).ensures tt d.answer (at_exit ended d.lifetimes d.lent d.last)
      ≡ fact 𝓤 (Trayed found bytes d.lent.1.1.0.now d.answer d.last.0 d.last.1.0 d.last.1.1.1.0 d.last.1.1.0)
  says 𝓛 mem rn = refl

-- trays that are equal look the same
pub same-trays : (h : List ℕ) (C : ℕ → Bool) (rs : List rules.Record) (x y u v : Tray) → x ≡ u → y ≡ v → SameTrays h C rs u v → SameTrays h C rs x y
same-trays h C rs x y u v e f s = rw (e, f) s

-- both answer 0, and the set sees the same of what they leave
abbrev pub Same : (C : ℕ → Bool) (d e : DoneTray) → Type 0
Same C d e = (d.answer ≡ XOK) × (e.answer ≡ XOK) × SameTrays (configuration (found d).table) C (tray d) (leaves d) (leaves e)

module _ (C : ℕ → Bool) (d e : DoneTray) (wd : Well (found d)) (we : Well (found e)) (cl : Closed (configuration (found d).table) C) (a : Agree C (found d) (found e))
    (p : Premises (configuration (found d).table) C (tray d) (tray e) (bytes d) (bytes e)) where
  abbrev h : List ℕ
  h = configuration (found d).table

  -- what is so of the rules' trays is so of these
  carried : SameTrays h C (tray d) (after_tray (found d) (bytes d) (tray d)) (after_tray (found e) (bytes e) (tray e)) → Same C d e
  carried x = (
    d.allowed.answer ∙ answers-zero (found d) (bytes d) (tray d) wd p.short,
    e.allowed.answer ∙ answers-zero (found e) (bytes e) (tray e) we p.short',
    same-trays h C (tray d) (leaves d) (leaves e) _ _ (leaves-is d) (leaves-is e) x,
  )

  pub two-trays : without_refused (events_in h C (found d) (bytes d) (tray d)) ≡ without_refused (events_in h C (found e) (bytes e) (tray e))
      → AsksNoneIn h C (found d) (bytes d) (tray d) → Same C d e
  two-trays told unasked = carried (secrecy.two-trays C (found d) (found e) wd we cl a (tray d) (tray e) (bytes d) (bytes e) p told unasked)

  -- as CR 9 and CR 14 say it
  pub as-asked : events_in h C (found d) (bytes d) (tray d) ≡ events_in h C (found e) (bytes e) (tray e) → (guard_within h C ≡ true → NamesNone h C (calls_in (tray d)))
      → Same C d e
  as-asked told unasked = carried (secrecy.as-asked C (found d) (found e) wd we cl a (tray d) (tray e) (bytes d) (bytes e) p told unasked)

  -- demand 3 of trays as it was, where no record is a regrade, or where there is no guard cell
  pub no-regrades : AllOf NoRegrade (calls_in (tray d)) → AllOf NoRegrade (calls_in (tray e)) → Same C d e
  no-regrades n m = carried (secrecy.no-regrades C (found d) (found e) wd we cl a (tray d) (tray e) (bytes d) (bytes e) p n m)

  pub no-guard : guard h ≡ 0 → Same C d e
  no-guard z = carried (secrecy.no-guard C (found d) (found e) wd we cl a (tray d) (tray e) (bytes d) (bytes e) p z)
