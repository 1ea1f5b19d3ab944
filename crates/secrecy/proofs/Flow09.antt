-- Call 9 writes in its own cell and reads in its own cell.
use mathlib.Core.Bool.{Bool}
use mathlib.Core.List.{List}
use Prim.Native.Nat.{ℕ}
use Rattle.rules.specs.Layout.{process, cell_of, Addr}
use Rattle.rules.specs.Call09.{close}
use Rattle.secrecy.proofs.Shown.{up-rules, alike-rules, WritesUp, Alike}
use Rattle.secrecy.proofs.View
use Rattle.secrecy.proofs.Give.{up-given, same-given}

pub up09 : {h : List ℕ} {p : ℕ} {r : Addr → ℕ} → View.Here h p r → (a : ℕ) (buffer : List ℕ) → WritesUp h (cell_of h process p) (close h r p a buffer)
unfolding close
up09 v a buffer = search (up-rules, up-given v) depth 12

pub alike09 : {h : List ℕ} {p : ℕ} {C : ℕ → Bool} {r q : Addr → ℕ} → View.View h p C r q → (a : ℕ) (buffer : List ℕ)
    → Alike h C (close h r p a buffer) (close h q p a buffer)
unfolding close
alike09 v a buffer = search (alike-rules, View.same-held v, same-given v) depth 12
