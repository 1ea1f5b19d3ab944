-- 02, CR 14, of the functions that a host links: tenants who talk to each other see through `monitor_call` and `monitor_tray` what flows to one of them, and nothing else. The set is
-- that of crates/secrecy/proofs/Tenants.
use mathlib.Core.Path.{◌≡◌}
use mathlib.Core.Bool.{Bool, true}
use mathlib.Core.List.{List}
use Prim.Native.Nat.{ℕ}
use Rattle.rules.specs.Layout.{configuration}
use Rattle.rules.specs.Step.{State, Call, Reply}
use Rattle.rules.specs.Observer.{tenants, Agree}
use Rattle.rules.specs.Regrade.{guard_within, NamesNone}
use Rattle.rules.specs.TrayRegrade.{calls_in, events_in}
use Rattle.kept.proofs.Kept.{Well}
use Rattle.secrecy.proofs.Tray.{Premises}
use Rattle.secrecy.proofs.Tenants.{tenants-closed}
use Rattle.linked.proofs.Made.{Made, got_by, events_by}
use Rattle.linked.proofs.Demand3 as calls
use Rattle.linked.proofs.Trays as trays
use Rattle.linked.proofs.Trays.{DoneTray, found, tray, bytes, Same}

pub tenants-see : (T : ℕ → Bool) {s t u v : State} {ks js : List Call} {ys zs : List Reply} (m : Made s ks ys u) (n : Made t js zs v) → Well s → Well t
    → let h : List ℕ = configuration s.table in let C : ℕ → Bool = tenants h T in Agree C s t → events_by h C m ≡ events_by h C n
    → (guard_within h C ≡ true → NamesNone h C ks) → (got_by h C ks ys ≡ got_by h C js zs) × Agree C u v
tenants-see T {s} m n ws wt = calls.as-asked (tenants (configuration s.table) T) m n ws wt (tenants-closed (configuration s.table) T)

pub tenants-trays : (T : ℕ → Bool) (d e : DoneTray) → Well (found d) → Well (found e)
    → let h : List ℕ = configuration (found d).table in let C : ℕ → Bool = tenants h T in Agree C (found d) (found e)
    → Premises h C (tray d) (tray e) (bytes d) (bytes e) → events_in h C (found d) (bytes d) (tray d) ≡ events_in h C (found e) (bytes e) (tray e)
    → (guard_within h C ≡ true → NamesNone h C (calls_in (tray d))) → Same C d e
tenants-trays T d e wd we = let h : List ℕ = configuration (found d).table in
    trays.as-asked (tenants h T) d e wd we (tenants-closed h T)
