-- Call 9, close, keeps tables well formed.
use mathlib.Core.Path.{refl}
use mathlib.Core.List.{List}
use Prim.Native.Nat.{ℕ}
use Rattle.rules.specs.Layout.{file, Addr}
use Rattle.rules.specs.Call09.{close}
use Rattle.kept.proofs.Keeps.{KeptBy, Caller}
use Rattle.kept.proofs.Entries.{gives_up}

pub keeps : (h : List ℕ) (r : Addr → ℕ) (p : ℕ) → Caller h r p → (a : ℕ) (buffer : List ℕ) → KeptBy h r (close h r p a buffer)
unfolding close
keeps h r p me a buffer = gives_up h r p me file tt a _ _ refl
