-- The public functions to which records are lent: `calls::tray`, `calls::quick_tray`, `monitor_tray` and `monitor_quick_tray`. Here the contract is cited as Rattle states it of
-- the function, `clauses`, and not by its module `Reads`, which a function that is lent a slice of structs once had none of: it asks nothing (`asks`), and it says `Said`
-- (`says`), word for word. So here too each statement is about the contract that stands in the source.
use mathlib.Core.Path.{◌≡◌, refl, sym, ap, ◌∙◌}
use mathlib.Core.List.{List, [], ◌∷◌, map}
use seplogic.Ra.Ura.{Ura}
use base.Logic.{SProp, emp}
use prog.Memory.{Memory}
use prog.Routine.{Routine}
use types.Logic.{Logic}
use contract.Lifetimes.{Lfts}
use contract.Monad.{Fun, fact}
use denote.Triple.Entry.{Args, Res}
use denote.Triple.Clauses.{Lasts, at_exit}
use Rattle.rules.specs.Tray as rules
use Rattle.calls.specs.declared.Record.{Record}
use Rattle.calls.specs.Did.{state_of}
use Rattle.calls.specs.Tray.{rule_records, Trayed}
use Rattle.calls.specs.Quick.{QuickTrayed}
use Rattle.calls.specs.contracts.tray as calls
use Rattle.calls.specs.contracts.quick_tray as calls-quick
use Rattle.monitor.specs.contracts.monitor_tray as monitor
use Rattle.monitor.specs.contracts.monitor_quick_tray as monitor-quick
use Rattle.outcomes.proofs.Exact.{one, both}

-- what the contract says of the slices lent (a), the answer (z) and what is left of each slice (w)
abbrev pub Said : (κs : Lfts 4) (a : Args calls.signature κs) → Res calls.signature κs → Lasts calls.ended κs a → Type 0
Said κs a z w = Trayed (state_of a.0.now a.1.0.now) a.1.1.1.0.now a.1.1.0.now z w.0 w.1.0 w.1.1.1.0 w.1.1.0

module _ {M : Type 1} {𝓤 : Ura M} (𝓛 : Logic 𝓤) (mem : Memory → SProp 𝓤) (rn : Routine → Fun 𝓤) (κs : Lfts 4) (a : Args calls.signature κs) where
  pub asks : (calls.clauses 𝓛 mem rn κs a).requires tt ≡ emp 𝓤
  asks = refl

  pub says : (z : Res calls.signature κs) (w : Lasts calls.ended κs a)
      → (calls.clauses 𝓛 mem rn κs a).ensures tt z (at_exit calls.ended κs a w) ≡ fact 𝓤 (Said κs a z w)
  says z w = refl

  pub monitor-asks : (monitor.clauses 𝓛 mem rn κs a).requires tt ≡ emp 𝓤
  monitor-asks = refl

  pub monitor-says : (z : Res monitor.signature κs) (w : Lasts monitor.ended κs a)
      → (monitor.clauses 𝓛 mem rn κs a).ensures tt z (at_exit monitor.ended κs a w) ≡ fact 𝓤 (Said κs a z w)
  monitor-says z w = refl

-- records are their numbers
record_by : rules.Record → Record
record_by r = record {
  caller = r.caller;
  code = r.code;
  a = r.a;
  b = r.b;
  c = r.c;
  offset = r.offset;
  length = r.length;
  answer = record { error = r.answer.error; first = r.answer.first; second = r.answer.second };
}

again : (rs : List Record) → map record_by (rule_records rs) ≡ rs
unfolding record_by
again [] = refl
again (r ∷ rs) = ap (λ (l : List Record). r ∷ l) (again rs)

one_list : {rs qs : List Record} → rule_records rs ≡ rule_records qs → rs ≡ qs
one_list {rs} {qs} e = sym (again rs) ∙ ap (map record_by) e ∙ again qs

-- any two outcomes that the contract allows are equal: the answer, and what is left of table, store, records and bytes
pub tray : (κs : Lfts 4) (a : Args calls.signature κs) (z z' : Res calls.signature κs) (w w' : Lasts calls.ended κs a)
    → Said κs a z w → Said κs a z' w' → (z ≡ z') × (w ≡ w')
tray κs a z z' w w' p q = (
  one p.answer q.answer,
  both (one p.table q.table) (both (one p.store q.store) (both (one_list (one p.records q.records)) (both (one p.bytes q.bytes) refl))),
)

pub monitor-tray : (κs : Lfts 4) (a : Args monitor.signature κs) (z z' : Res monitor.signature κs) (w w' : Lasts monitor.ended κs a)
    → Said κs a z w → Said κs a z' w' → (z ≡ z') × (w ≡ w')
monitor-tray = tray

-- ---- with a working slice, which is lent last

abbrev pub QuickSaid : (κs : Lfts 5) (a : Args calls-quick.signature κs) → Res calls-quick.signature κs → Lasts calls-quick.ended κs a → Type 0
QuickSaid κs a z w =
    QuickTrayed (state_of a.0.now a.1.0.now) a.1.1.1.0.now a.1.1.1.1.0.now a.1.1.0.now z w.0 w.1.0 w.1.1.1.0 w.1.1.0
    w.1.1.1.1.0

module _ {M : Type 1} {𝓤 : Ura M} (𝓛 : Logic 𝓤) (mem : Memory → SProp 𝓤) (rn : Routine → Fun 𝓤) (κs : Lfts 5) (a : Args calls-quick.signature κs) where
  pub quick-asks : (calls-quick.clauses 𝓛 mem rn κs a).requires tt ≡ emp 𝓤
  quick-asks = refl

  pub quick-says : (z : Res calls-quick.signature κs) (w : Lasts calls-quick.ended κs a)
      → (calls-quick.clauses 𝓛 mem rn κs a).ensures tt z (at_exit calls-quick.ended κs a w) ≡ fact 𝓤 (QuickSaid κs a z w)
  quick-says z w = refl

  pub monitor-quick-asks : (monitor-quick.clauses 𝓛 mem rn κs a).requires tt ≡ emp 𝓤
  monitor-quick-asks = refl

  pub monitor-quick-says : (z : Res monitor-quick.signature κs) (w : Lasts monitor-quick.ended κs a)
      → (monitor-quick.clauses 𝓛 mem rn κs a).ensures tt z (at_exit monitor-quick.ended κs a w) ≡ fact 𝓤 (QuickSaid κs a z w)
  monitor-quick-says z w = refl

-- any two outcomes are equal: the answer, and what is left of table, store, records, bytes and working slice
pub quick-tray : (κs : Lfts 5) (a : Args calls-quick.signature κs) (z z' : Res calls-quick.signature κs) (w w' : Lasts calls-quick.ended κs a)
    → QuickSaid κs a z w → QuickSaid κs a z' w' → (z ≡ z') × (w ≡ w')
quick-tray κs a z z' w w' p q = (
  one p.answer q.answer,
  both (one p.table q.table) (both (one p.store q.store) (both (one_list (one p.records q.records)) (both (one p.bytes q.bytes)
      (both (one p.work q.work) refl)))),
)

pub monitor-quick-tray : (κs : Lfts 5) (a : Args monitor-quick.signature κs) (z z' : Res monitor-quick.signature κs) (w w' : Lasts monitor-quick.ended κs a)
    → QuickSaid κs a z w → QuickSaid κs a z' w' → (z ≡ z') × (w ≡ w')
monitor-quick-tray = quick-tray
