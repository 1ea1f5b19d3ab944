-- Call 5, release segment, keeps tables well formed.
use mathlib.Core.Path.{refl}
use mathlib.Core.List.{List}
use Prim.Native.Nat.{ℕ}
use Rattle.rules.specs.Layout.{segment, Addr}
use Rattle.rules.specs.Call05.{release_segment}
use Rattle.kept.proofs.Keeps.{KeptBy, Caller}
use Rattle.kept.proofs.Entries.{gives_up}

pub keeps : (h : List ℕ) (r : Addr → ℕ) (p : ℕ) → Caller h r p → (a : ℕ) (buffer : List ℕ) → KeptBy h r (release_segment h r p a buffer)
unfolding release_segment
keeps h r p me a buffer = gives_up h r p me segment tt a _ _ refl
