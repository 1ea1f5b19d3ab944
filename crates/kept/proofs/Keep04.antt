-- Call 4, rendezvous, keeps tables well formed.
use mathlib.Core.Path.{refl}
use mathlib.Core.Bool.{Bool, not, ◌&&◌}
use mathlib.Core.List.{List}
use Prim.Native.Nat.{ℕ}
use lib.Dec.{eqb}
use borrow.Author.Tests.{eqb-false}
use Rattle.rules.specs.Layout.{segment, Addr, entries}
use Rattle.rules.specs.Seid.{or_self}
use Rattle.rules.specs.Rights.{valid_access, asks_write}
use Rattle.rules.specs.Find.{in_own_cell, flows_to_caller, free_entry}
use Rattle.rules.specs.Call04.{rendezvous, already_held}
use Rattle.laws.proofs.Tests.{or_left, or_right, passed}
use Rattle.laws.proofs.Below.{none-at}
use Rattle.laws.proofs.Refusals.{clear}
use Rattle.kept.proofs.Keeps.{KeptBy, Caller}
use Rattle.kept.proofs.Found.{found, free-entry, in-own}
use Rattle.kept.proofs.Entries.{filled}

pub keeps : (h : List ℕ) (r : Addr → ℕ) (p : ℕ) → Caller h r p → (a b : ℕ) (buffer : List ℕ) → KeptBy h r (rendezvous h r p a b buffer)
unfolding rendezvous already_held
keeps h r p me a b buffer e =
    let s : ℕ = or_self r p a in
    let ok = clear (rendezvous h r p a b buffer).refusals refl e in
    let free = free-entry r segment p ok.1.1.1.1.1.1.1.0 in
    let far : Bool = not (flows_to_caller h p segment s) in
    let outside : Bool = asks_write b && not (in_own_cell h p segment s) in
    filled h r p me segment tt (free_entry r segment p) s b free.in-record free.is-empty (found h r segment s ok.1.0 ok.1.1.1.0)
    (passed _ (or_left far outside ok.1.1.0)) (passed _ (or_right (eqb b 0) (not (valid_access b)) ok.0))
    (in-own h p segment s (asks_write b) (or_right far outside ok.1.1.0))
    (λ d l n some q. eqb-false _ s (none-at entries _ ok.1.1.1.1.1.1.0 d l) q)
